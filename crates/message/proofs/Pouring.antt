-- How far energies have been read into the series buffer, and each step of it. Assumes nothing.
use Prim.Native.Nat.{ℕ, ◌+◌, ◌<◌, ◌≤◌}
use mathlib.Core.Path.{◌≡◌, refl, sym, ap, ap₂, ◌∙◌}
use mathlib.Core.Bool.{true, false≢true}
use mathlib.Core.List.{List, [], ◌∷◌, ◌++◌, map}
use native.Mathlib.Omega.{arith}
use native.Mathlib.Numerals.{add-one}
use lib.ListN.{length, drop, take, set, length-set, length-map, take-append-drop}
use lib.Seq.{take-suc-set, drop-set-lt, drop-drop}
use Rattle.std.specs.Prelude.{Err}
use Rattle.quantity.specs.Word.{word}
use Rattle.message.specs.Read.{Read, got, refused, accepted}
use Rattle.message.specs.Number.{decode, numbers_in}
use Rattle.message.specs.Energy.{received}
use Rattle.message.specs.Offset.{number_at, number_to}
use Rattle.message.specs.Series.{list_of, filled}
use Rattle.message.proofs.Passing.{Passing, started, one-more, stopped, done}

-- one place more of a list is written: what stands before it, and behind
module _ (l : List ℕ) (i v : ℕ) (h : i < length l) where
  pub front-more : {front : List ℕ} → take i l ≡ front → take (i + 1) (set l i v) ≡ front ++ (v ∷ [])
  front-more e = rw (add-one i, take-suc-set l i v h, e)

  pub back-more : drop (i + 1) (set l i v) ≡ drop 1 (drop i l)
  back-more = drop-set-lt (i + 1) l i v (omega arith) ∙ sym (drop-drop 1 i l)

-- the energies that were read stand at the front of the buffer, and the rest is as it was
pub record Pouring (s : List ℕ) (at n : ℕ) (series₀ series : List ℕ) (j i : ℕ) : Type 0 where
  pub vs : List ℕ
  pub pass : Passing s at n j i vs
  pub front : take i series ≡ map word (map received vs)
  pub back : drop i series ≡ drop i series₀
  pub long : length series ≡ length series₀

pub pouring : (s : List ℕ) (at n : ℕ) (series₀ : List ℕ) → at ≤ length s → Pouring s at n series₀ series₀ at 0
pouring s at n series₀ h = record { vs = []; pass = started s at n h; front = refl; back = refl; long = refl }

words-more : (vs : List ℕ) (v : ℕ) → map word (map received (vs ++ (v ∷ []))) ≡ map word (map received vs) ++ (word (received v) ∷ [])
words-more [] v = refl
words-more (u ∷ vs) v = ap (λ (x : List ℕ). word (received u) ∷ x) (words-more vs v)

module _ {s : List ℕ} {at n : ℕ} {series₀ series : List ℕ} {j i : ℕ} (w : Pouring s at n series₀ series j i) where
  pub poured-more : {v m e : ℕ} → i < n → n ≤ length series₀ → number_at s j ≡ number_to v m → e ≡ word (received v) →
      Pouring s at n series₀ (set series i e) m (i + 1)
  poured-more {v} {m} {e} h room q z =
      let inside : i < length series = omega (arith, w.long) in
      record {
        vs = w.vs ++ (v ∷ []);
        pass = one-more w.pass h q;
        front = front-more series i e inside w.front ∙ rw (z, words-more w.vs v);
        back = back-more series i e inside ∙ ap (λ (x : List ℕ). drop 1 x) w.back ∙ drop-drop 1 i series₀;
        long = length-set series i e ∙ w.long;
      }

  pub poured : n ≤ i → series ≡ filled (map received (list_of (numbers_in n (drop at s)))) series₀
  poured h =
      let same : i ≡ length (map received w.vs) = sym (length-map w.vs received ∙ w.pass.size) in
      rw (done w.pass h)
      (sym (take-append-drop i series) ∙ ap₂ (λ (x y : List ℕ). x ++ y) w.front (w.back ∙ ap (λ (k : ℕ). drop k series₀) same))

  -- of numbers that are there the next one is there
  pub known-next : i < n → accepted (numbers_in n (drop at s)) ≡ true → accepted (decode (drop j s)) ≡ true
  known-next h a = go (decode (drop j s)) refl
    where
      go : (d : Read ℕ) → decode (drop j s) ≡ d → accepted (decode (drop j s)) ≡ true
      go (got v r) q = rw q
      go (refused x) q =
          let none : number_at s j ≡ Err x = rw q in
          absurd (false≢true (sym (ap accepted (stopped w.pass h none)) ∙ a))

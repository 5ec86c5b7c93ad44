-- How far a row of numbers has been read, and each step of it. Assumes nothing.
use Prim.Native.Nat.{ℕ, suc, ◌+◌, ◌-◌, ◌<◌, ◌≤◌}
use mathlib.Core.Path.{◌≡◌, refl, sym, ap, ◌∙◌}
use mathlib.Core.List.{List, [], ◌∷◌, ◌++◌, append_assoc, append-nil}
use native.Mathlib.Omega.{arith}
use lib.ListN.{length, drop, length-append}
use Rattle.std.specs.Prelude.{Ok, Err}
use Rattle.message.specs.Read.{Read, got, refused, onward}
use Rattle.message.specs.Number.{numbers_in}
use Rattle.message.specs.Offset.{number_at, passed_of, number_to}
use Rattle.message.specs.declared.FileCause.{FileCause}
use Rattle.message.proofs.Placed.{offset-is, found, found-not}

-- numbers before a row
abbrev pub prepend : List ℕ → Read (List ℕ) → Read (List ℕ)
prepend vs d = onward d (λ (us r : List ℕ). got (vs ++ us) r)

prepend-none : (d : Read (List ℕ)) → d ≡ prepend [] d
prepend-none (got us r) = refl
prepend-none (refused x) = refl

prepend-one : (vs : List ℕ) (v : ℕ) (d : Read (List ℕ)) → prepend vs (onward d (λ (us r : List ℕ). got (v ∷ us) r)) ≡ prepend (vs ++ (v ∷ [])) d
prepend-one vs v (got us r) = ap (λ (x : List ℕ). got x r) (sym (append_assoc vs (v ∷ []) us))
prepend-one vs v (refused x) = refl

-- they do not move what follows the row
passed-behind : (size : ℕ) (vs : List ℕ) (d : Read (List ℕ)) → passed_of size (prepend vs d) ≡ passed_of size d
passed-behind size vs (got us r) = refl
passed-behind size vs (refused x) = refl

-- i numbers, vs, of n have been read from `at` on, up to j
pub record Passing (s : List ℕ) (at n j i : ℕ) (vs : List ℕ) : Type 0 where
  pub inside : j ≤ length s
  pub count : i ≤ n
  pub size : length vs ≡ i
  pub same : numbers_in n (drop at s) ≡ prepend vs (numbers_in (n - i) (drop j s))

pub started : (s : List ℕ) (at n : ℕ) → at ≤ length s → Passing s at n at 0 []
started s at n h =
    let all : n - 0 ≡ n = omega arith in
    record { inside = h; count = omega arith; size = refl; same = rw all (prepend-none (numbers_in n (drop at s))) }

module _ {s : List ℕ} {at n j i : ℕ} {vs : List ℕ} (w : Passing s at n j i vs) where
  pub one-more : {v m : ℕ} → i < n → number_at s j ≡ number_to v m → Passing s at n m (i + 1) (vs ++ (v ∷ []))
  unfolding numbers_in
  one-more {v} {m} h e =
      let f = found s j e in
      let fuel : n - i ≡ suc (n - (i + 1)) = omega arith in
      record {
        inside = f.within;
        count = omega arith;
        size = length-append vs (v ∷ []) ∙ omega (arith, w.size);
        same = w.same ∙ rw (fuel, f.decoded) (prepend-one vs v (numbers_in (n - (i + 1)) (drop m s)));
      }

  pub stopped : {x : FileCause} → i < n → number_at s j ≡ Err x → numbers_in n (drop at s) ≡ refused x
  unfolding numbers_in
  stopped h e = let fuel : n - i ≡ suc (n - (i + 1)) = omega arith in w.same ∙ rw (fuel, found-not s j e)

  pub done : n ≤ i → numbers_in n (drop at s) ≡ got vs (drop j s)
  unfolding numbers_in
  done h = let none : n - i ≡ 0 = omega (arith, w.count) in w.same ∙ rw none (ap (λ (x : List ℕ). got x (drop j s)) (append-nil vs))

  pub passed : n ≤ i → Ok j ≡ passed_of (length s) (numbers_in n (drop at s))
  passed h = rw (done h) (ap Ok (sym (offset-is s j w.inside)))

  pub not-passed : {x : FileCause} → i < n → number_at s j ≡ Err x → Err x ≡ passed_of (length s) (numbers_in n (drop at s))
  not-passed h e = rw (stopped h e)

  -- what is left has the same end
  pub left-same : passed_of (length s) (numbers_in n (drop at s)) ≡ passed_of (length s) (numbers_in (n - i) (drop j s))
  left-same = ap (passed_of (length s)) w.same ∙ passed-behind (length s) vs (numbers_in (n - i) (drop j s))

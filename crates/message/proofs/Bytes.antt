-- Where a number ends: with its first byte that does not go on. Assumes nothing.
use Prim.Native.Nat.{ℕ, zero, suc, ◌+◌, ◌-◌, ◌*◌, ◌%◌, ◌<◌, ◌≤◌}
use mathlib.Core.Path.{◌≡◌, refl, sym, ap, ◌∙◌}
use mathlib.Core.Bool.{Bool, true, false, false≢true}
use mathlib.Core.List.{List, ◌∷◌}
use native.Mathlib.Omega.{arith}
use native.Mathlib.Decide.{dec_lt}
use lib.ListN.{length, drop, get_or, length-drop}
use lib.Seq.{drop-cons}
use Rattle.std.specs.Prelude.{Ok, Err}
use Rattle.message.specs.Read.{Read, got, refused}
use Rattle.message.specs.Number.{decode_in, decode}
use Rattle.message.specs.Offset.{itself, number_of, number_at, passed_of, number_to}
use Rattle.message.specs.declared.FileCause.{FileCause}
use Rattle.message.proofs.Numbers.{decode-only, decode-last, decode-more, decode-few}
use Rattle.message.proofs.NumberSteps.{finish}
use Rattle.message.proofs.Placed.{found, found-not, passed-not, same-next}

-- the bytes from one offset up to another go on
abbrev pub GoOn : List ℕ → (from to : ℕ) → Type 0
GoOn s from to = (t : ℕ) → from ≤ t → t < to → 128 ≤ get_or s t 0

ends-in : (s : List ℕ) (k most : ℕ) (first : Bool) (at j : ℕ) → at + k ≡ j → k ≤ most → GoOn s at j → j < length s → get_or s j 0 < 128 →
    (get_or s j 0 ≡ 0 → (k ≡ 0) × (first ≡ true)) → (v : ℕ) × (decode_in (suc most) first (drop at s) ≡ got v (drop (suc j) s))
ends-in s zero most first at j e few goes h l z =
    let here : at ≡ j = omega arith in
    rw (here, drop-cons s j 0 h) (go first (λ q. (z q).1))
  where
    go : (f : Bool) → (get_or s j 0 ≡ 0 → f ≡ true) → (v : ℕ) × (decode_in (suc most) f (get_or s j 0 ∷ drop (suc j) s) ≡ got v (drop (suc j) s))
    go true n = (get_or s j 0, decode-only most (get_or s j 0) (drop (suc j) s) l)
    go false n = (get_or s j 0, decode-last most (get_or s j 0) (drop (suc j) s) l (λ q. false≢true (n q)))
ends-in s (suc k) zero first at j e few goes h l z = absurd (omega arith)
ends-in s (suc k) (suc most) first at j e few goes h l z =
    let r = ends-in s k most false (suc at) j (omega arith) (omega arith) (λ t a b. goes t (omega arith) b) h l (λ q. absurd (omega (arith, (z q).0))) in
    let b = get_or s at 0 in
    (b % 128 + 128 * r.0, rw (drop-cons s at 0 (omega arith), decode-more (suc most) first b (drop (suc at) s) (goes at (omega arith) (omega arith)), r.1))

-- at most eight bytes that go on, and one that does not and is 0 only where it stands alone
pub ends-at : (s : List ℕ) (at j : ℕ) → at ≤ j → j ≤ at + 8 → GoOn s at j → j < length s → get_or s j 0 < 128 → (get_or s j 0 ≡ 0 → at ≡ j) → (v : ℕ) × (number_at s at ≡ number_to v (j + 1))
ends-at s at j a b goes h l z =
    let r = ends-in s (j - at) 8 true at j (omega arith) (omega arith) goes h l (λ q. (omega (arith, z q), refl)) in
    (r.0, sym (finish s j r.0 h r.1))

-- a number has nine bytes at most
pub nine-at : (s : List ℕ) (at : ℕ) {v n : ℕ} → number_at s at ≡ number_to v n → n ≤ at + 9
nine-at s at {v} {n} e =
    let f = found s at e in
    omega (arith, decode-few (drop at s) f.decoded, length-drop at s, length-drop n s, f.within, f.later)

-- where a number ends, with its value and without it
passes : (size : ℕ) (d : Read ℕ) {v n : ℕ} → number_of itself size d ≡ number_to v n → Ok n ≡ passed_of size d
passes size (got u r) e = ap Ok (sym (same-next e))
passes size (refused x) e = absurd (let z : ◌≡◌ {A = ℕ} 0 1 = cc in omega arith)

valued : (size : ℕ) (d : Read ℕ) {n : ℕ} → Ok n ≡ passed_of size d → (v : ℕ) × (number_of itself size d ≡ number_to v n)
valued size (got u r) {n} e = let k : size - length r ≡ n = cc in (u, ap (number_to u) k)
valued size (refused x) e = absurd (let z : ◌≡◌ {A = ℕ} 0 1 = cc in omega arith)

pub passed-number : (s : List ℕ) (at : ℕ) {v n : ℕ} → number_at s at ≡ number_to v n → Ok n ≡ passed_of (length s) (decode (drop at s))
passed-number s at e = passes (length s) (decode (drop at s)) e

pub not-passed-number : (s : List ℕ) (at : ℕ) {x : FileCause} → number_at s at ≡ Err x → Err x ≡ passed_of (length s) (decode (drop at s))
not-passed-number s at e = rw (found-not s at e)

pub no-value : (s : List ℕ) (at : ℕ) {x : FileCause} → Err x ≡ passed_of (length s) (decode (drop at s)) → number_at s at ≡ Err x
no-value s at e = rw (passed-not (length s) (decode (drop at s)) (sym e))

pub has-value : (s : List ℕ) (at : ℕ) {n : ℕ} → Ok n ≡ passed_of (length s) (decode (drop at s)) → (v : ℕ) × (number_at s at ≡ number_to v n)
has-value s at e = valued (length s) (decode (drop at s)) e

-- numbers of one, two and three bytes
module _ (s : List ℕ) (at : ℕ) where
  pub one-byte : at < length s → get_or s at 0 < 128 → Ok (at + 1) ≡ passed_of (length s) (decode (drop at s))
  one-byte h l = passes (length s) (decode (drop at s)) (ends-at s at at (omega arith) (omega arith) (λ t a b. absurd (omega arith)) h l (λ z. refl)).1

  to : (k j : ℕ) → j + 1 ≡ at + k → {v : ℕ} → number_at s at ≡ number_to v (j + 1) → Ok (at + k) ≡ passed_of (length s) (decode (drop at s))
  to k j e q = ap Ok (sym e) ∙ passes (length s) (decode (drop at s)) q

  module _ (a : 128 ≤ get_or s at 0) where
    first : GoOn s at (at + 1)
    first t b c = let e : t ≡ at = omega arith in rw e a

    pub two-bytes : at + 1 < length s → get_or s (at + 1) 0 < 128 → (get_or s (at + 1) 0 ≡ 0 → ⊥) → Ok (at + 2) ≡ passed_of (length s) (decode (drop at s))
    two-bytes h l z = to 2 (at + 1) (omega arith) (ends-at s at (at + 1) (omega arith) (omega arith) first h l (λ q. absurd (z q))).1

    pub three-bytes : 128 ≤ get_or s (at + 1) 0 → at + 2 < length s → get_or s (at + 2) 0 < 128 → (get_or s (at + 2) 0 ≡ 0 → ⊥) →
        Ok (at + 3) ≡ passed_of (length s) (decode (drop at s))
    three-bytes b h l z = to 3 (at + 2) (omega arith) (ends-at s at (at + 2) (omega arith) (omega arith) second h l (λ q. absurd (z q))).1
      where
        second : GoOn s at (at + 2)
        second t c d = test (dec_lt t (at + 1))
          where
            test : Dec (t < at + 1) → 128 ≤ get_or s t 0
            test (yes e) = first t c e
            test (no e) = let f : t ≡ at + 1 = omega arith in rw f b

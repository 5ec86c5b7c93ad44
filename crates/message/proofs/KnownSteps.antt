-- A number that is known to stand at an offset, byte after byte. Assumes nothing.
use Prim.Native.Nat.{ℕ, ◌+◌, ◌-◌, ◌*◌, ◌%◌, ◌<◌, ◌≤◌}
use mathlib.Core.Path.{◌≡◌, refl}
use mathlib.Core.Bool.{true}
use mathlib.Core.List.{List}
use native.Mathlib.Omega.{arith}
use native.Mathlib.Decide.{dec_lt}
use lib.ListN.{length, drop, get_or}
use Rattle.std.proofs.Common.{Fits, w8}
use Rattle.message.specs.Read.{accepted}
use Rattle.message.specs.Number.{decode}
use Rattle.message.specs.Offset.{number_at, number_to}
use Rattle.message.proofs.NumberSteps.{Reading, not-refused, there, not-zero, last-as, more, moved, none-at, only-at, first-at, second-at}

module _ (s : List ℕ) (at : ℕ) (fits : (i : ℕ) → Fits w8 (get_or s i 0)) (ok : accepted (decode (drop at s)) ≡ true) where
  pub has-first : at < length s
  has-first = go (dec_lt at (length s))
    where
      go : Dec (at < length s) → at < length s
      go (yes h) = h
      go (no h) = absurd (not-refused (length s) (decode (drop at s)) ok (none-at s at (omega arith)))

  -- a last byte behind others
  ends : {value place i j b v m : ℕ} (w : Reading s (decode (drop at s)) value place i j) → i < 9 → b ≡ get_or s j 0 → b < 128 → value + place * b ≡ v → j + 1 ≡ m →
      number_to v m ≡ number_at s at
  ends w l q lb ev em = last-as w l (there w ok l) q ev em lb (not-zero w ok l q)

  -- a byte before others
  goes : {value place i j b : ℕ} (w : Reading s (decode (drop at s)) value place i j) → i < 9 → b ≡ get_or s j 0 → 128 ≤ b →
      Reading s (decode (drop at s)) (value + place * (b % 128)) (place * 128) (i + 1) (j + 1)
  goes w l q lb = more w l (there w ok l) q lb

  module _ {a : ℕ} (qa : a ≡ get_or s at 0) where
    pub one : a < 128 → number_to a (at + 1) ≡ number_at s at
    one l = only-at s at has-first qa l

    module _ (la : 128 ≤ a) where
      first : Reading s (decode (drop at s)) (a % 128) 128 1 (at + 1)
      first = first-at s at has-first qa la

      pub has-second : at + 1 < length s
      has-second = there first ok (omega arith)

      module _ {b : ℕ} (qb : b ≡ get_or s (at + 1) 0) where
        pub two : b < 128 → number_to (a + 128 * b - 128) (at + 2) ≡ number_at s at
        two l = ends first (omega arith) qb l (omega (arith, qa, fits at)) (omega arith)

        module _ (lb : 128 ≤ b) where
          second : Reading s (decode (drop at s)) (a % 128 + 128 * (b % 128)) 16384 2 (at + 2)
          second = second-at s at has-first qa la has-second qb lb

          pub has-third : at + 2 < length s
          has-third = there second ok (omega arith)

          module _ {c : ℕ} (qc : c ≡ get_or s (at + 2) 0) where
            pub three : c < 128 → number_to (a + 128 * b + 16384 * c - 16512) (at + 3) ≡ number_at s at
            three l = ends second (omega arith) qc l (omega (arith, qa, fits at, qb, fits (at + 1))) (omega arith)

            module _ (lc : 128 ≤ c) where
              third : Reading s (decode (drop at s)) (a % 128 + 128 * (b % 128) + 16384 * (c % 128)) 2097152 3 (at + 3)
              third = moved refl refl refl (omega arith) (goes second (omega arith) qc lc)

              pub has-fourth : at + 3 < length s
              has-fourth = there third ok (omega arith)

              pub four : {e : ℕ} → e ≡ get_or s (at + 3) 0 → e < 128 → number_to (a + 128 * b + 16384 * c + 2097152 * e - 2113664) (at + 4) ≡ number_at s at
              four qe l = ends third (omega arith) qe l (omega (arith, qa, fits at, qb, fits (at + 1), qc, fits (at + 2))) (omega arith)

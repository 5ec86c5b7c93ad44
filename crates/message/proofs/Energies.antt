-- Laws of energies: what is sent is received, what is received was sent so, and the numbers below 2^63 are those of the energies that a file can carry. Assumes nothing.
use Prim.Native.Nat.{ℕ, ◌+◌, ◌-◌, ◌*◌, ◌/◌, ◌%◌, ◌^◌, ◌<◌, ◌≤◌}
use mathlib.Core.Path.{◌≡◌, refl, ap}
use mathlib.Core.Bool.{Bool, true, false, cond}
use mathlib.Core.List.{List, [], ◌∷◌, map}
use native.Mathlib.Omega.{arith}
use borrow.Author.Tests.{lt-ltb, le-ltb, eq-eqb, ne_eqb, ltb-true, eqb-true, eqb-false}
use lib.Dec.{ltb, eqb}
use lib.IntN.{ℤ, pos, negsuc}
use Rattle.quantity.specs.Lists.{all}
use Rattle.quantity.specs.Word.{word, signed}
use Rattle.quantity.proofs.Tests.{same-test}
use Rattle.message.specs.Number.{fits_number}
use Rattle.message.specs.Energy.{sent, received, fits_energy}

pub received-sent : (v : ℤ) → received (sent v) ≡ v
unfolding sent received
received-sent (pos n) = rw (eq-eqb (2 * n % 2) 0 (omega arith)) (ap pos (omega arith))
received-sent (negsuc n) = rw (ne_eqb ((2 * n + 1) % 2) 0 (λ e. omega arith)) (ap negsuc (omega arith))

pub sent-received : (u : ℕ) → sent (received u) ≡ u
unfolding sent received
sent-received u = test (eqb (u % 2) 0) refl
  where
    test : (b : Bool) → eqb (u % 2) 0 ≡ b → sent (cond b (pos (u / 2)) (negsuc (u / 2))) ≡ u
    test true e = omega (arith, eqb-true (u % 2) 0 e)
    test false e = omega (arith, eqb-false (u % 2) 0 e)

pub sent-fits : (v : ℤ) → fits_number (sent v) ≡ fits_energy v
unfolding sent
sent-fits (pos n) =
    same-test (ltb (2 * n) (2 ^ 63)) (ltb n (2 ^ 62)) (λ h. lt-ltb n (2 ^ 62) (omega (arith, ltb-true (2 * n) (2 ^ 63) h))) (λ h. lt-ltb (2 * n) (2 ^ 63) (omega (arith, ltb-true n (2 ^ 62) h)))
sent-fits (negsuc n) =
    same-test (ltb (2 * n + 1) (2 ^ 63)) (ltb n (2 ^ 62)) (λ h. lt-ltb n (2 ^ 62) (omega (arith, ltb-true (2 * n + 1) (2 ^ 63) h))) (λ h. lt-ltb (2 * n + 1) (2 ^ 63) (omega (arith, ltb-true n (2 ^ 62) h)))

-- the same of a series
pub series-back : (es : List ℤ) → map received (map sent es) ≡ es
series-back [] = refl
series-back (e ∷ es) = rw (received-sent e, series-back es)

pub series-forth : (us : List ℕ) → map sent (map received us) ≡ us
series-forth [] = refl
series-forth (u ∷ us) = rw (sent-received u, series-forth us)

pub series-fits : (es : List ℤ) → all fits_number (map sent es) ≡ all fits_energy es
unfolding all
series-fits [] = refl
series-fits (e ∷ es) = rw (sent-fits e, series-fits es)

-- the same of words
module _ (n : ℕ) (h : n < 2 ^ 64) where
  pub word-even : n % 2 ≡ 0 → n / 2 ≡ word (received n)
  unfolding word received
  word-even e = rw (eq-eqb (n % 2) 0 e) (omega arith)

  pub word-odd : (n % 2 ≡ 0 → ⊥) → 2 ^ 64 - 1 - n / 2 ≡ word (received n)
  unfolding word received
  word-odd e = rw (ne_eqb (n % 2) 0 e) (omega arith)

pub sent-up : (w : ℕ) → w < 2 ^ 63 → 2 * w ≡ sent (signed w)
unfolding sent
sent-up w h = rw (lt-ltb w (2 ^ 63) h)

pub sent-down : (w : ℕ) → 2 ^ 63 ≤ w → w < 2 ^ 64 → 2 * (2 ^ 64 - 1 - w) + 1 ≡ sent (signed w)
unfolding sent
sent-down w h l = rw (le-ltb w (2 ^ 63) h) (omega arith)

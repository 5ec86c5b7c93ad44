-- Going by the kind of a call. Assumes nothing.
use Prim.Native.Nat.{ℕ, zero, suc, ◌<◌}
use mathlib.Core.Path.{◌≡◌, sym}
use mathlib.Core.Bool.{true, false, false≢true}
use native.Mathlib.Omega.{arith}
use Rattle.quantity.proofs.Tests.{within-high}
use Rattle.message.specs.Call.{is_kind, kinds}

module _ (P : ℕ → Type 0) where
  -- the eight kinds, 0, and what is beyond them
  pub by-kind : P 0 → P 1 → P 2 → P 3 → P 4 → P 5 → P 6 → P 7 → P 8 → ((k : ℕ) → kinds < k → P k) → (k : ℕ) → P k
  by-kind z a b c d e f g h more zero = z
  by-kind z a b c d e f g h more (suc zero) = a
  by-kind z a b c d e f g h more (suc (suc zero)) = b
  by-kind z a b c d e f g h more (suc (suc (suc zero))) = c
  by-kind z a b c d e f g h more (suc (suc (suc (suc zero)))) = d
  by-kind z a b c d e f g h more (suc (suc (suc (suc (suc zero))))) = e
  by-kind z a b c d e f g h more (suc (suc (suc (suc (suc (suc zero)))))) = f
  by-kind z a b c d e f g h more (suc (suc (suc (suc (suc (suc (suc zero))))))) = g
  by-kind z a b c d e f g h more (suc (suc (suc (suc (suc (suc (suc (suc zero)))))))) = h
  by-kind z a b c d e f g h more (suc (suc (suc (suc (suc (suc (suc (suc (suc k))))))))) = more _ (omega arith)

-- what holds of the eight kinds, holds of every kind
pub each-kind : (P : ℕ → Type 0) → P 1 → P 2 → P 3 → P 4 → P 5 → P 6 → P 7 → P 8 → (k : ℕ) → is_kind k ≡ true → P k
each-kind P a b c d e f g h =
    by-kind (λ (k : ℕ). is_kind k ≡ true → P k) (λ y. absurd (false≢true y)) (λ y. a) (λ y. b) (λ y. c) (λ y. d) (λ y. e) (λ y. f) (λ y. g) (λ y. h) (λ k n y. absurd (omega (arith, within-high 1 kinds k y)))

-- what holds of 0 and beyond the eight, holds of every number that is no kind
pub no-kind : (P : ℕ → Type 0) → P 0 → ((k : ℕ) → kinds < k → P k) → (k : ℕ) → is_kind k ≡ false → P k
no-kind P z more =
    by-kind (λ (k : ℕ). is_kind k ≡ false → P k) (λ h. z) is-one is-one is-one is-one is-one is-one is-one is-one (λ k n h. more k n)
  where
    is-one : {X : Type 0} → true ≡ false → X
    is-one h = absurd (false≢true (sym h))

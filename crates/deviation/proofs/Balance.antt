-- Surplus less shortfall is schedule less figure: in each quarter hour, and summed. Assumes nothing.
use Prim.Native.Nat.{ℕ, zero, suc}
use mathlib.Core.Path.{◌≡◌, refl, ap, ◌∙◌}
use lib.IntN.{ℤ, pos, negsuc, neg_ℤ, ◌+ℤ◌, ◌-ℤ◌, +ℤ_comm, +ℤ_idl, +ℤ_idr, neg_ℤ-neg_ℤ, neg_ℤ-+ℤ}
use Rattle.quantity.specs.Sum.{sum_to}
use Rattle.quantity.proofs.Sums.{sum-same, sum-plus, sum-neg}
use Rattle.deviation.specs.Deviation.{larger, surplus, shortfall}

-- a difference the other way round
turned : (s f : ℤ) → f -ℤ s ≡ neg_ℤ (s -ℤ f)
turned s f = cc (neg_ℤ-+ℤ s (neg_ℤ f), neg_ℤ-neg_ℤ f, +ℤ_comm f (neg_ℤ s))

both : (z : ℤ) → larger z -ℤ larger (neg_ℤ z) ≡ z
unfolding larger
both (pos zero) = refl
both (pos (suc n)) = +ℤ_idr (pos (suc n))
both (negsuc n) = +ℤ_idl (negsuc n)

pub over-and-under : (s f : ℤ) → surplus s f -ℤ shortfall s f ≡ s -ℤ f
over-and-under s f = ap (λ (z : ℤ). larger (s -ℤ f) -ℤ larger z) (turned s f) ∙ both (s -ℤ f)

-- over all groups, or all quarter hours
pub sums-over-and-under : (n : ℕ) (s f : ℕ → ℤ) → sum_to n (λ (i : ℕ). surplus (s i) (f i) -ℤ shortfall (s i) (f i)) ≡ sum_to n s -ℤ sum_to n f
sums-over-and-under n s f =
    sum-same n (λ (i : ℕ). surplus (s i) (f i) -ℤ shortfall (s i) (f i)) (λ (i : ℕ). s i -ℤ f i) (λ i lo le. over-and-under (s i) (f i))
    ∙ sum-plus n s (λ (i : ℕ). neg_ℤ (f i))
    ∙ ap (λ (z : ℤ). sum_to n s +ℤ z) (sum-neg n f)

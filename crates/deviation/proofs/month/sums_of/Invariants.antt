-- `sums_of` meets its contract. Assumes nothing.
use mathlib.Core.Path.{◌≡◌}
use Prim.Native.Nat.{ℕ}
use Rattle.deviation.specs.Deviation.{over_sum}
use Rattle.deviation.specs.Gives.{Gives}
use Rattle.deviation.proofs.month.sums_of.Given as goal

abbrev pub invariant-loop-k : goal.invariant-loop-k
invariant-loop-k g l =
    (s f : ℕ → ℕ) → Gives (goal.P-post g l.planned) s l.n → Gives (goal.T-post g l.taken) f l.n
    → (l.sums.surplus.0 ≡ over_sum s f l.k) × (l.sums.shortfall.0 ≡ over_sum f s l.k)

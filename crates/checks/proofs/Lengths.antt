-- The lengths of the stores of a call that the table does not refuse. Assumes nothing.
use mathlib.Core.Path.{◌≡◌}
use mathlib.Core.Bool.{false, not}
use Prim.Native.Nat.{ℕ}
use borrow.Author.Tests.{eqb-true, not-false}
use lib.Dec.{eqb}
use Rattle.quantity.proofs.Tests.{or-left, or-right}
use Rattle.state.specs.declared.Opening.{Opening}
use Rattle.model.specs.Call.{Lengths, all_but_schedules}
use Rattle.model.specs.Causes.{other_lengths}
use Rattle.checks.specs.Lent.{lengths_in}
use Rattle.checks.specs.declared.Sizes.{Sizes}

same : (a b : ℕ) → not (eqb a b) ≡ false → a ≡ b
same a b e = eqb-true a b (not-false (eqb a b) e)

-- values, book and log have their opening lengths
pub lengths : (m : Lengths) (n : Sizes) (o : Opening) → other_lengths all_but_schedules (lengths_in m n) o ≡ false → (n.values ≡ o.values) × (n.book ≡ o.book) × (n.log ≡ o.log)
unfolding other_lengths
lengths m n o e =
    let r = or-right (not (eqb n.values o.values)) _ e in (
      same n.values o.values (or-left (not (eqb n.values o.values)) _ e),
      same n.book o.book (or-left (not (eqb n.book o.book)) _ r),
      same n.log o.log (or-right (not (eqb n.book o.book)) _ r),
    )

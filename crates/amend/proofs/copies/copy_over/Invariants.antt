-- `copy_over` meets its contract. Assumes nothing.
use mathlib.Core.Path.{◌≡◌}
use Rattle.book.proofs.Rows.{up_to}
use Rattle.amend.proofs.Copied.{second}
use Rattle.amend.proofs.copies.copy_over.Given as goal

abbrev pub invariant-loop-i : goal.invariant-loop-i
invariant-loop-i l = l.places ≡ up_to second l.i l.initial.places l.row

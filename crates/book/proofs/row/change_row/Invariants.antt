-- `change_row` meets its contract. Assumes nothing.
use mathlib.Core.Path.{◌≡◌}
use Rattle.book.specs.Row.{changed}
use Rattle.book.proofs.Rows.{up_to}
use Rattle.book.proofs.row.change_row.Given as goal

abbrev pub invariant-loop-i : goal.invariant-loop-i
invariant-loop-i l = l.row ≡ up_to (changed l.way) l.i l.initial.row l.series

-- `month_of` meets its contract. Assumes nothing.
use mathlib.Core.Path.{sym}
use Rattle.host.proofs.Months.{is-row, start-small, month-there, month-none}
use Rattle.host.proofs.month.month_of.Goals as goal

pub row_start-start-requires : goal.row_start-start-requires
row_start-start-requires c = is-row _ _ _ c.row_ok.ensures c.if-row_ok.true

pub sum_from-requires : goal.sum_from-requires
sum_from-requires c =
    let a = c.args in
    let small = start-small a.quarters a.run a.row c.row_ok.ensures c.if-row_ok.true in
    (rw (sym c.row_start-start.ensures) at small.0, small.1)

pub returns-then-row_ok : goal.returns-then-row_ok
returns-then-row_ok c = let a = c.args in month-there a.quarters a.run a.row c.row_ok.ensures c.if-row_ok.true a.book.now c.row_start-start.ensures c.sum_from.ensures

pub returns-else-row_ok : goal.returns-else-row_ok
returns-else-row_ok c = let a = c.args in month-none a.quarters a.run a.row c.row_ok.ensures a.book.now c.if-row_ok.false

-- `month_deviation` meets its contract. Assumes nothing.
use mathlib.Core.Path.{sym, ◌∙◌}
use lib.ListN.{length}
use Rattle.deviation.specs.Month.{month_surplus, month_shortfall}
use Rattle.deviation.proofs.Months.{lent-length, over-sum-lent}
use Rattle.deviation.proofs.Reports.{Ends, ends}
use Rattle.deviation.proofs.month.month_deviation.Goals.{Start}
use Rattle.deviation.proofs.month.month_deviation.Goals as goal

known : (c : Start) → let a = c.args in Ends (length a.schedules.now) (length a.book.now) a.quarters a.run a.group
known c = ends _ _ _ _ _ c.requires

pub returns : goal.returns
unfolding month_surplus month_shortfall
returns c =
    let start = c in
    let a = start.args in
    let s = a.schedules.now in
    let b = a.book.now in
    let q = a.quarters in
    let full = lent-length s _ q (known (goal.at.returns c).Start).planned in
    let e = sym c.row_start-booked.ensures in
    (c.deviation_of.ensures.0 ∙ rw e (over-sum-lent s b _ _ q _ full), c.deviation_of.ensures.1 ∙ rw e (over-sum-lent b s _ _ q _ full))

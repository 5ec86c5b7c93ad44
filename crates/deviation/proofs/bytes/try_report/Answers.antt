-- `try_report` meets its contract. Assumes nothing.
use Rattle.std.proofs.Common.{◌≡◌, refl, sym, ◌∙◌, rules}
use Rattle.book.proofs.Figures.{refused}
use Rattle.deviation.specs.Deviation.{over_sum}
use Rattle.deviation.specs.Bytes.{schedule_bytes, figure_bytes, surplus_in, shortfall_in}
use Rattle.deviation.proofs.Reports.{no-surplus, no-shortfall}
use Rattle.deviation.proofs.bytes.try_report.Goals.{In_ok-check}
use Rattle.deviation.proofs.bytes.try_report.Goals as goal

pub returns-in_err-check-clause-surplus : goal.returns-in_err-check-clause-surplus
unfolding surplus_in
returns-in_err-check-clause-surplus c = no-surplus _ c.from_residual.ensures.0 ∙ rw (refused _ c.in_err-check.ensures) refl

pub returns-in_err-check-clause-shortfall : goal.returns-in_err-check-clause-shortfall
unfolding shortfall_in
returns-in_err-check-clause-shortfall c = no-shortfall _ c.from_residual.ensures.0 ∙ rw (refused _ c.in_err-check.ensures) refl

sums : (c : goal.After-sums_of) → let a = c.args in
    let s = schedule_bytes a.schedules.now a.quarters a.group in
    let f = figure_bytes a.book.now a.quarters a.run a.group in
    (c.sums_of.result.surplus.0 ≡ over_sum s f a.quarters) × (c.sums_of.result.shortfall.0 ≡ over_sum f s a.quarters)
sums c = c.sums_of.ensures _ _ (λ k h r p. search rules) (λ k h r p. rw (sym c.row_start-booked.ensures) (search rules))

pub returns-clause-surplus : goal.returns-clause-surplus
unfolding surplus_in
returns-clause-surplus c = rw (sym c.in_ok-check.ensures) (sums c).0

pub returns-clause-shortfall : goal.returns-clause-shortfall
unfolding shortfall_in
returns-clause-shortfall c = rw (sym c.in_ok-check.ensures) (sums c).1

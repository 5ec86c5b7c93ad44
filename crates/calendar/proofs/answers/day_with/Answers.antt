-- `day_with` meets its contract. The loop: the working days among those passed, fewer than are looked for. Assumes nothing.
use Rattle.std.proofs.Common.{◌≡◌, ◌+◌, ◌<◌, refl, ap, ◌∙◌, sym, add-zero, arith}
use Rattle.workdays.specs.declared.Month.{Month}
use Rattle.workdays.specs.Date.{day_in}
use Rattle.workdays.specs.Rule.{working}
use Rattle.workdays.specs.Count.{one, worked}
use Rattle.workdays.proofs.Counts.{worked-on, fewer-at}
use Rattle.calendar.proofs.answers.day_with.Goals.{After-works_on, Joined-works_on, then-works_on+else-count-working, else-works_on}
use Rattle.calendar.proofs.answers.day_with.Goals as goal

-- the count up to a day, by the verdict on it
up-to : (c : After-works_on) → c.loop-day.count + one c.works_on.result ≡ worked c.args.month c.loop-day.day
up-to c =
    worked-on c.args.month c.loop-day.day c.loop-day.count c.works_on.result (omega arith) c.loop-day.invariant.0
    (c.works_on.ensures ∙ ap (λ (m : Month). working (day_in m c.loop-day.day)) c.of-judged.ensures)

-- behind a day the count is that up to it, and still too small
passed : (c : Joined-works_on) → c.loop-day.count + one c.works_on.result ≡ worked c.args.month c.loop-day.day → (c.if-works_on.count ≡ worked c.args.month c.loop-day.day) × (c.if-works_on.count < c.args.working)
passed c u =
    elim c.if-works_on.branch [
      | then-works_on+else-count-working w ↦ (w.count-is ∙ rw w.if-works_on.true at u, omega (arith, w.count-is, w.if-count-working.false))
      | else-works_on w ↦ (w.count-is ∙ sym (add-zero _) ∙ rw w.if-works_on.false at u, omega (arith, w.count-is))
    ]

pub loop-day-init : goal.loop-day-init
unfolding worked
loop-day-init c = (refl, (omega arith, omega arith))

pub returns-then-count-working : goal.returns-then-count-working
returns-then-count-working c =
    let e = rw c.if-works_on.true at (up-to (goal.at.returns-then-count-working c).After-works_on) in
    (refl, ((omega arith, omega (arith, c.days-day-end.ensures.0)), (sym e ∙ c.if-count-working.true, omega (arith, c.loop-day.invariant.0))))

pub loop-day-preserved : goal.loop-day-preserved
loop-day-preserved c =
    let p = passed (goal.at.loop-day-preserved c).Joined-works_on (up-to (goal.at.loop-day-preserved c).After-works_on) in
    (p.0 ∙ ap (worked c.args.month) (omega arith), (p.1, omega arith))

pub returns-after-works_on : goal.returns-after-works_on
returns-after-works_on c =
    let p = passed (goal.at.returns-after-works_on c).Joined-works_on (up-to (goal.at.returns-after-works_on c).After-works_on) in
    fewer-at c.args.month c.args.working c.loop-day.day _ (omega (arith, c.days-day-end.ensures.0)) (omega (arith, p.0))

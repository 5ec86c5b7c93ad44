-- `date_for` meets its contract. Assumes nothing.
use Rattle.std.proofs.Common.{sym, ◌∙◌, arith}
use Rattle.workdays.proofs.Lengths.{means-month}
use Rattle.calendar.proofs.Back.{no_month, no-number, zero-day, last-month, way-back}
use Rattle.calendar.proofs.answers.date_for.Goals as goal

pub returns-then-not-exists : goal.returns-then-not-exists
returns-then-not-exists c = no_month c.args.settled c.args.number.0 ((means-month c.args.settled).fails (sym c.exists.ensures ∙ c.if-not-exists.true))

pub returns-then-number-gt-LAST_DAY : goal.returns-then-number-gt-LAST_DAY
returns-then-number-gt-LAST_DAY c = no-number _ _ c.if-number-gt-LAST_DAY.true

pub returns-then-number-eq0 : goal.returns-then-number-eq0
returns-then-number-eq0 c = zero-day _ _ _ ((means-month c.args.settled).holds (sym c.exists.ensures ∙ c.if-not-exists.false)) c.if-number-eq0.true c.days.ensures.0

pub returns-then-next-eq-MONTHS : goal.returns-then-next-eq-MONTHS
returns-then-next-eq-MONTHS c = last-month c.args.settled c.args.number.0 ((means-month c.args.settled).holds (sym c.exists.ensures ∙ c.if-not-exists.false)) (omega (arith, c.place-next.ensures.0, c.if-next-eq-MONTHS.true)) (omega (arith, c.if-number-eq0.false))

pub returns : goal.returns
returns c = way-back c.args.settled c.args.number.0 _ _ _ _ _ c.day_with.result ((means-month c.args.settled).holds (sym c.exists.ensures ∙ c.if-not-exists.false)) c.if-number-gt-LAST_DAY.false c.place-next.ensures.0 c.entry.ensures.0 c.month_with-found.ensures c.at.ensures.0 c.at.ensures.1 c.entry-2.ensures.0 c.day_with.ensures

-- `weekday_for` meets its contract. Assumes nothing.
use Rattle.std.proofs.Common.{◌≡◌, true, sym, ◌∙◌, arith}
use Rattle.workdays.specs.Date.{IsDate, date_named}
use Rattle.workdays.proofs.Lengths.{means-date, month-length}
use Rattle.calendar.proofs.numbers.weekday_for.Goals.{After-exists}
use Rattle.calendar.proofs.numbers.weekday_for.Goals as goal

date : (c : After-exists) → c.exists.result ≡ true → IsDate (date_named c.args.year c.args.month c.args.day)
date c e = (means-date (date_named c.args.year c.args.month c.args.day)).holds (sym c.exists.ensures ∙ e)

pub overflow_add-days_of : goal.overflow_add-days_of
overflow_add-days_of c = omega (arith, month-length c.args.year c.args.month, date (goal.at.overflow_add-days_of c).After-exists c.if-not-exists.false)

pub weekday_of-requires : goal.weekday_of-requires
weekday_of-requires c =
    let d = date (goal.at.weekday_of-requires c).After-exists c.if-not-exists.false in
    (d.0.0, omega (arith, month-length c.args.year c.args.month))

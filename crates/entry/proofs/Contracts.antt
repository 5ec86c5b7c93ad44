-- What the contracts of show, status and report say is what `Meets` has of them: each law below takes the contract of the function as its code has it
-- (`Learnt`: what a caller learns of the arguments `a`, the result `r` and the arguments at exit `e`). The contracts of open, apply and lodge are `Meets`
-- itself. Assumes nothing.
use mathlib.Core.Path.{◌≡◌, sym}
use Rattle.calls.proofs.show.show_number.Reads as number
use Rattle.calls.proofs.show.show_row.Reads as row
use Rattle.calls.proofs.status.status.Reads as status
use Rattle.schedules.proofs.report.report.Reads as report
use Rattle.entry.specs.Entered.{by_show, by_status, by_report, Meets}

-- status: point, version
pub status-met : (κs : _) (a : _) (r : _) (e : _) → status.Learnt κs a r e → Meets a.0 (by_status a.1.0 a.1.1.0 r.answer r.desk)
status-met κs a r e h = h

-- report: run, group, book, schedules
pub report-met : (κs : _) (a : _) (r : _) (e : _) → report.Learnt κs a r e
    → Meets a.0 (by_report a.1.0 a.1.1.0 a.1.1.1.0.now a.1.1.1.1.0.now r.answer r.surplus.0 r.shortfall.0)
report-met κs a r e h = h

-- show's number and its part: "two entries over the same input", run, group, book
pub show-met : (κs : _) (a : _) (r : _) (e : _) (κs' : _) (a' : _) (part : _) (e' : _) → number.Learnt κs a r e → row.Learnt κs' a' part e'
    → a'.0 ≡ a.0 → a'.1.0 ≡ a.1.0 → a'.1.1.0 ≡ a.1.1.0 → a'.1.1.1.0.now ≡ a.1.1.1.0.now
    → Meets a.0 (by_show a.1.0 a.1.1.0 a.1.1.1.0.now r part.now)
show-met κs a r e κs' a' part e' n p desk run group book = (n, λ s. rw (sym desk, sym run, sym group, sym book) (p s))

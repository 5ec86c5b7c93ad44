-- `report` meets its contract. Assumes nothing.
use mathlib.Core.Path.{refl, sym, ◌∙◌}
use Rattle.model.specs.Call.{lengths_of}
use Rattle.checks.proofs.Deciding.{no_lengths, report-refused, report-granted}
use Rattle.schedules.proofs.Allowed.{reportable}
use Rattle.schedules.proofs.report.report.Goals as goal

pub month_deviation-sums-requires : goal.month_deviation-sums-requires
month_deviation-sums-requires c = reportable _ _ _ _ (sym (c.report_ruling.ensures no_lengths) ∙ c.in-Ok.is)

pub returns-in-Err : goal.returns-in-Err
returns-in-Err c s = report-refused _ _ _ (c.report_ruling.ensures (lengths_of s)) c.in-Err.is refl

pub returns-in-Ok : goal.returns-in-Ok
returns-in-Ok c s =
    let e = c.month_deviation-sums.ensures in
    report-granted _ _ _ (c.report_ruling.ensures (lengths_of s)) c.in-Ok.is
    (record { answered = refl; over = e.0; under = e.1 })

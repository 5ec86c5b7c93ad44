-- `show_number` meets its contract. Assumes nothing.
use mathlib.Core.Path.{sym, ap}
use Rattle.model.specs.Call.{lengths_of}
use Rattle.model.specs.Step.{Outcome}
use Rattle.checks.proofs.Deciding.{refused, granted}
use Rattle.calls.proofs.show.show_number.Goals as goal

pub returns-in-Err : goal.returns-in-Err
returns-in-Err c s = ap (λ (o : Outcome). o.answer) (sym (refused _ _ _ (c.show_ruling.ensures (lengths_of s)) c.in-Err.is))

pub returns-in-Ok : goal.returns-in-Ok
returns-in-Ok c s = ap (λ (o : Outcome). o.answer) (sym (granted _ _ _ (c.show_ruling.ensures (lengths_of s)) c.in-Ok.is))

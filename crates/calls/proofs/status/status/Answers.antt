-- `status` meets its contract. Assumes nothing.
use mathlib.Core.Path.{refl}
use Rattle.model.specs.Call.{lengths_of}
use Rattle.checks.proofs.Deciding.{answer-refused, answer-granted}
use Rattle.model.specs.Causes.{asking_versions}
use Rattle.checks.specs.Look.{Looked}
use Rattle.calls.proofs.status.status.Goals.{After-look-l}
use Rattle.calls.proofs.status.status.Goals as goal

-- the look is one at the desk
seen : (c : After-look-l) → Looked c.args.d (asking_versions c.args.point.0 c.args.version.0) c.look-l.result
seen c = rw c.asking_versions.ensures at c.look-l.ensures

pub returns-in-Err : goal.returns-in-Err
returns-in-Err c s =
    let r = c in
    answer-refused _ _ s (r.status_ruling.ensures r.args.d (seen (goal.at.returns-in-Err c).After-look-l) (lengths_of s)) c.in-Err.is (refl, refl)

pub returns-in-Ok : goal.returns-in-Ok
returns-in-Ok c s =
    let r = c in
    let l = seen (goal.at.returns-in-Ok c).After-look-l in
    answer-granted _ _ s (r.status_ruling.ensures r.args.d l (lengths_of s)) c.in-Ok.is
    (record { answered = rw (c.status_answer-answer.ensures, (l.survey _ refl).held); held = refl })

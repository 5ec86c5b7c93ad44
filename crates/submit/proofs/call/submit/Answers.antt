-- `submit` meets its contract. Assumes nothing.
use Rattle.model.specs.Causes.{asking_versions}
use Rattle.checks.specs.Look.{Looked}
use Rattle.submit.proofs.call.submit.Goals.{After-look-l}
use Rattle.submit.proofs.call.submit.Goals as goal

-- the look is one at the desk
seen : (c : After-look-l) → Looked c.args.d (asking_versions c.args.point.0 c.args.version.0) c.look-l.result
seen c = rw c.asking_versions.ensures at c.look-l.ensures

pub decide_submit-r-requires : goal.decide_submit-r-requires
decide_submit-r-requires c = record { desk = c.args.d; looked = seen (goal.at.decide_submit-r-requires c).After-look-l }

pub outcome-requires : goal.outcome-requires
outcome-requires c = (c.decide_submit-r.ensures c.args.d (seen (goal.at.outcome-requires c).After-look-l)).0

pub returns : goal.returns
returns c = rw (c.outcome.ensures.0, c.outcome.ensures.1) (c.decide_submit-r.ensures c.args.d (seen (goal.at.returns c).After-look-l)).1

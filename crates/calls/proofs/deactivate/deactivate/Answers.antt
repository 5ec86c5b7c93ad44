-- `deactivate` meets its contract, by what is decided. Assumes nothing.
use Rattle.model.specs.Causes.{asking_versions}
use Rattle.checks.specs.Look.{Looked}
use Rattle.calls.proofs.deactivate.deactivate.Goals.{After-look-l}
use Rattle.calls.proofs.deactivate.deactivate.Goals as goal

-- the look is one at the desk
seen : (c : After-look-l) → Looked c.args.d (asking_versions c.args.point.0 0) c.look-l.result
seen c = rw c.asking_versions.ensures at c.look-l.ensures

pub decide_deactivate-r-requires : goal.decide_deactivate-r-requires
decide_deactivate-r-requires c = record { desk = c.args.d; looked = seen (goal.at.decide_deactivate-r-requires c).After-look-l }

pub outcome-requires : goal.outcome-requires
outcome-requires c = (c.decide_deactivate-r.ensures c.args.d (seen (goal.at.outcome-requires c).After-look-l)).0

pub returns : goal.returns
returns c s = let o = c.outcome.ensures in rw (o.0, o.1) ((c.decide_deactivate-r.ensures c.args.d (seen (goal.at.returns c).After-look-l)).1 s)

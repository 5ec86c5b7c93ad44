-- `assign` meets its contract, by what is decided. Assumes nothing.
use Rattle.model.specs.Causes.{asking_nothing}
use Rattle.checks.specs.Look.{Looked}
use Rattle.calls.proofs.assign.assign.Goals.{After-look-l}
use Rattle.calls.proofs.assign.assign.Goals as goal

-- the look is one at the desk
seen : (c : After-look-l) → Looked c.args.d asking_nothing c.look-l.result
seen c = rw c.asking_nothing.ensures at c.look-l.ensures

pub decide_assign-r-requires : goal.decide_assign-r-requires
decide_assign-r-requires c = record { desk = c.args.d; looked = seen (goal.at.decide_assign-r-requires c).After-look-l }

pub outcome-requires : goal.outcome-requires
outcome-requires c = (c.decide_assign-r.ensures c.args.d (seen (goal.at.outcome-requires c).After-look-l)).0

pub returns : goal.returns
returns c s = let o = c.outcome.ensures in rw (o.0, o.1) ((c.decide_assign-r.ensures c.args.d (seen (goal.at.returns c).After-look-l)).1 s)

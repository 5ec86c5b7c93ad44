-- `activate` meets its contract, by what is decided. Assumes nothing.
use Rattle.model.specs.Causes.{asking_series}
use Rattle.checks.specs.Look.{Looked}
use Rattle.calls.proofs.activate.activate.Goals.{After-look-l}
use Rattle.calls.proofs.activate.activate.Goals as goal

-- the look is one at the desk
seen : (c : After-look-l) → Looked c.args.d (asking_series c.args.point.0 c.args.kind c.args.area c.args.partner) c.look-l.result
seen c = rw c.asking_series.ensures at c.look-l.ensures

pub decide_activate-r-requires : goal.decide_activate-r-requires
decide_activate-r-requires c = record { desk = c.args.d; looked = seen (goal.at.decide_activate-r-requires c).After-look-l }

pub outcome-requires : goal.outcome-requires
outcome-requires c = (c.decide_activate-r.ensures c.args.d (seen (goal.at.outcome-requires c).After-look-l)).0

pub returns : goal.returns
returns c s = let o = c.outcome.ensures in rw (o.0, o.1) ((c.decide_activate-r.ensures c.args.d (seen (goal.at.returns c).After-look-l)).1 s)

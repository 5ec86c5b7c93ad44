-- `close` meets its contract, by what is decided. Assumes nothing.
use Rattle.model.specs.Causes.{asking_nothing}
use Rattle.checks.specs.Look.{Looked}
use Rattle.calls.proofs.close.close.Goals.{After-look-l}
use Rattle.calls.proofs.close.close.Goals as goal

-- the look is one at the desk
seen : (c : After-look-l) → Looked c.args.d asking_nothing c.look-l.result
seen c = rw c.asking_nothing.ensures at c.look-l.ensures

pub outcome-requires : goal.outcome-requires
outcome-requires c = (c.decide_close-r.ensures c.args.d (seen (goal.at.outcome-requires c).After-look-l)).0

pub returns : goal.returns
returns c s = let o = c.outcome.ensures in rw (o.0, o.1) ((c.decide_close-r.ensures c.args.d (seen (goal.at.returns c).After-look-l)).1 s)

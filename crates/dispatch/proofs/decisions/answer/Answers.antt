-- `answer` meets its contract. Assumes nothing.
use mathlib.Core.List.{map}
use Rattle.quantity.specs.Word.{signed}
use Rattle.model.specs.Causes.{terms}
use Rattle.checks.specs.Look.{Looked}
use Rattle.dispatch.specs.Asked.{asked}
use Rattle.dispatch.proofs.decisions.answer.Goals.{After-look-l}
use Rattle.dispatch.proofs.decisions.answer.Goals as goal

-- the look is one at the desk
seen : (c : After-look-l) → Looked c.args.d (terms (asked c.args.call c.args.groups (map signed c.args.series.now))).asks c.look-l.result
seen c = let a = c.args in rw (c.asks_of.ensures a.groups (map signed a.series.now)) at c.look-l.ensures

pub decide-r-requires : goal.decide-r-requires
decide-r-requires c = record { desk = c.args.d; looked = seen (goal.at.decide-r-requires c).After-look-l }

pub outcome-requires : goal.outcome-requires
outcome-requires c = (c.decide-r.ensures c.args.d (seen (goal.at.outcome-requires c).After-look-l)).0

pub returns : goal.returns
returns c = rw (c.outcome.ensures.0, c.outcome.ensures.1) (c.decide-r.ensures c.args.d (seen (goal.at.returns c).After-look-l)).1

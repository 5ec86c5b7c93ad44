-- `notice` meets its contract. Assumes nothing.
use Rattle.model.specs.Causes.{asking_versions}
use Rattle.checks.specs.Look.{Looked}
use Rattle.notice.proofs.call.notice.Goals.{After-look-l}
use Rattle.notice.proofs.call.notice.Goals as goal

-- the look is of this desk
looked : (c : After-look-l) → Looked c.args.d (asking_versions c.args.point.0 c.args.version.0) c.look-l.result
looked c = rw c.asking_versions.ensures at c.look-l.ensures

pub decide_notice-r-requires : goal.decide_notice-r-requires
decide_notice-r-requires c = record { desk = c.args.d; looked = looked (goal.at.decide_notice-r-requires c).After-look-l }

pub outcome-requires : goal.outcome-requires
outcome-requires c = (c.decide_notice-r.ensures c.args.d (looked (goal.at.outcome-requires c).After-look-l)).0

pub returns : goal.returns
returns c = rw (c.outcome.ensures.0, c.outcome.ensures.1) (c.decide_notice-r.ensures c.args.d (looked (goal.at.returns c).After-look-l)).1

-- `open` meets its contract, by what is decided. Assumes nothing.
use Rattle.calls.proofs.open.open.Goals as goal

pub outcome-requires : goal.outcome-requires
outcome-requires c = (c.decide_open-r.ensures c.args.d).0

pub returns : goal.returns
returns c = let o = c.outcome.ensures in rw (o.0, o.1) (c.decide_open-r.ensures c.args.d).1

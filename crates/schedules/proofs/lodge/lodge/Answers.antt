-- `lodge` meets its contract, by what is decided. Assumes nothing.
use Rattle.schedules.proofs.lodge.lodge.Goals as goal

pub returns : goal.returns
returns c s = let o = c.outcome.ensures in rw (o.0, o.1) (c.decide_lodge-r.ensures.1 s)

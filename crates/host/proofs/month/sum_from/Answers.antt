-- `sum_from` meets its contract. Assumes nothing.
use Rattle.std.proofs.Common.{◌≡◌, rules}
use Rattle.host.proofs.Months.{sum-none, sum-more}
use Rattle.host.proofs.month.sum_from.Goals as goal

pub loop-n-init : goal.loop-n-init
loop-n-init c = sum-none _ _

pub loop-n-preserved : goal.loop-n-preserved
loop-n-preserved c = sum-more _ _ _ c.loop-n.invariant c.field_at.ensures c.sum-sum.ensures

pub returns : goal.returns
returns c = let e : c.loop-n.n ≡ c.args.q = search rules in rw e at c.loop-n.invariant

-- `total` meets its contract. Assumes nothing.
use Rattle.output.proofs.Totals.{total-none, total-more}
use borrow.Author.Rules.{rules}
use Rattle.output.proofs.figures.Month.total.Goals as goal

pub loop-group-init : goal.loop-group-init
loop-group-init c = total-none _ _ _ _

pub loop-group-preserved : goal.loop-group-preserved
loop-group-preserved c = total-more _ _ _ _ c.loop-group.group (search rules) c.loop-group.invariant c.figure.ensures c.sum-sum.ensures

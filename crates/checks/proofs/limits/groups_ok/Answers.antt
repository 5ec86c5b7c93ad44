-- `groups_ok` meets its contract. The loop's invariant: the flag is the test of the groups passed. Assumes nothing.
use Rattle.std.proofs.Common.{ap, ◌∙◌, rules}
use lib.Seq.{take_all}
use Rattle.quantity.specs.Limits.{group_ok}
use Rattle.quantity.specs.Lists.{all}
use Rattle.quantity.proofs.Lists.{all-none, all-more}
use Rattle.checks.proofs.limits.groups_ok.Goals as goal

pub loop-group-init : goal.loop-group-init
loop-group-init c = all-none group_ok c.args.groups

pub loop-group-preserved : goal.loop-group-preserved
loop-group-preserved c =
    let e = all-more group_ok c.args.groups c.loop-group.group-index 0 (search rules) in cc

pub returns : goal.returns
returns c = c.loop-group.invariant ∙ ap (all group_ok) (take_all c.loop-group.group-index c.args.groups (search rules))

-- `groups_ok` meets its contract. The loop's invariant: the flag is the test of the groups passed. Assumes nothing.
use Rattle.std.proofs.Common.{◌≡◌, take}
use Rattle.quantity.specs.Limits.{group_ok}
use Rattle.quantity.specs.Lists.{all}
use Rattle.checks.proofs.limits.groups_ok.Given as goal

abbrev pub invariant-loop-group : goal.invariant-loop-group
invariant-loop-group l = l.ok ≡ all group_ok (take l.group-index l.group-items)

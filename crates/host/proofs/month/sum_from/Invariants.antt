-- `sum_from` meets its contract. Assumes nothing.
use Rattle.std.proofs.Common.{◌≡◌}
use Rattle.host.specs.Month.{sum_from}
use Rattle.host.proofs.month.sum_from.Given as goal

abbrev pub invariant-loop-n : goal.invariant-loop-n
invariant-loop-n l = l.sum.0 ≡ sum_from l.book l.start l.n

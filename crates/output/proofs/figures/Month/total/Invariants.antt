-- `total` meets its contract. Assumes nothing.
use Prim.Native.Nat.{◌-◌}
use mathlib.Core.Path.{◌≡◌}
use Rattle.output.specs.Figures.{total_of}
use Rattle.output.proofs.figures.Month.total.Given as goal

abbrev pub invariant-loop-group : goal.invariant-loop-group
invariant-loop-group l = l.sum.0 ≡ total_of l.self.book.now l.self.quarters l.run l.quarter (l.group - 1)

-- `put_number` meets its contract: the bytes that were written, and what is left of the number. Assumes nothing.
use Rattle.writer.proofs.Writing.{Putting}
use Rattle.writer.proofs.put_number.Given as goal

abbrev pub invariant-loop-left : goal.invariant-loop-left
invariant-loop-left l = Putting l.initial.output l.at l.n l.output l.left l.j

abbrev pub decreases-loop-left : goal.decreases-loop-left
decreases-loop-left l = l.left

-- `put_answers` meets its contract. Assumes nothing.
use Prim.Native.Nat.{◌*◌}
use Rattle.text.specs.Puts.{Puts}
use Rattle.text.specs.Text.{each_to}
use Rattle.output.specs.Fill.{answer_room}
use Rattle.output.proofs.Prints.{answer_at}
use Rattle.output.proofs.print.put_answers.Given as goal

abbrev pub invariant-loop-i : goal.invariant-loop-i
invariant-loop-i l = Puts (answer_room * l.i) (each_to l.i (answer_at l.answers)) l.initial.text l.text

-- `put_picks` meets its contract. Assumes nothing.
use Prim.Native.Nat.{◌*◌}
use Rattle.text.specs.Puts.{Puts}
use Rattle.text.specs.Text.{each_to}
use Rattle.output.specs.Fill.{selection_room}
use Rattle.output.specs.Parts.{pick_text}
use Rattle.output.proofs.selections.put_picks.Given as goal

abbrev pub invariant-loop-i : goal.invariant-loop-i
invariant-loop-i l = Puts (selection_room * l.i) (each_to l.i (pick_text l.run l.picks)) l.initial.text l.text

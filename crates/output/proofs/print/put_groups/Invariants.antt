-- `put_groups` meets its contract. Assumes nothing.
use Prim.Native.Nat.{ℕ, ◌*◌, ◌-◌}
use Rattle.text.specs.Puts.{Puts}
use Rattle.text.specs.Text.{each_to}
use Rattle.output.specs.Fill.{group_room}
use Rattle.output.specs.Figures.{read_of}
use Rattle.output.specs.Output.{group_text}
use Rattle.output.proofs.print.put_groups.Given as goal

abbrev pub invariant-loop-group : goal.invariant-loop-group
invariant-loop-group l = Puts (group_room * (l.group - 1)) (each_to (l.group - 1) (λ (g : ℕ). group_text l.run l.quarter g (read_of l.month.book.now l.month.quarters l.run l.quarter g))) l.initial.text l.text

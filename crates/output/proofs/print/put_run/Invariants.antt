-- `put_run` meets its contract. Assumes nothing.
use Prim.Native.Nat.{ℕ, ◌+◌, ◌*◌, ◌-◌, ◌≤◌}
use Rattle.text.specs.Puts.{Puts}
use Rattle.text.specs.Text.{each_to}
use Rattle.output.specs.Fill.{quarter_room}
use Rattle.output.specs.Figures.{read_of}
use Rattle.output.specs.Output.{quarter_text}
use Rattle.output.proofs.print.put_run.Given as goal

abbrev pub invariant-loop-quarter : goal.invariant-loop-quarter
invariant-loop-quarter l = Puts (quarter_room * (l.quarter - 1)) (each_to (l.quarter - 1) (λ (q : ℕ). quarter_text l.run q (read_of l.month.month.book.now l.month.month.quarters l.run q))) l.initial.text l.text × (l.quarter ≤ l.month.month.quarters + 1)

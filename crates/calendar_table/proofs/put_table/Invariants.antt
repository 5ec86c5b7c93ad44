-- `put_table` meets its contract. The loop: the lines of the entries passed. Assumes nothing.
use Prim.Native.Nat.{ℕ, ◌*◌, ◌-◌}
use Rattle.text.specs.Puts.{Puts}
use Rattle.text.specs.Text.{each_to}
use Rattle.workdays.specs.Count.{before}
use Rattle.calendar_table.specs.Table.{line_of}
use Rattle.calendar_table.proofs.put_table.Given as goal

abbrev pub invariant-loop-entry : goal.invariant-loop-entry
invariant-loop-entry l = Puts (21 * l.entry-index) (each_to l.entry-index (λ (k : ℕ). line_of (before (k - 1)))) l.initial.text l.text

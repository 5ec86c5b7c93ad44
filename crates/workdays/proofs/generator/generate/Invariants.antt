-- `generate` meets its contract. The loop: the entries put are those of the rule. Assumes nothing.
use Rattle.std.proofs.Common.{ℕ, ◌≡◌, ◌*◌, ◌≤◌, ◌<◌, get_or, length}
use Rattle.workdays.specs.Date.{months}
use Rattle.workdays.specs.Count.{before}
use Rattle.workdays.proofs.generator.generate.Given as goal

abbrev pub invariant-loop-i : goal.invariant-loop-i
invariant-loop-i l = ((k : ℕ) → k < l.i → get_or l.entry-items k 0 ≡ before k) × ((l.working ≡ before l.i) × ((l.working ≤ 31 * l.i) × (length l.entry-items ≡ months)))

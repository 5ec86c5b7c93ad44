-- `pass_inside` meets its contract: as many numbers as were passed, each of nine bytes at most. Assumes nothing.
use Prim.Native.Nat.{ℕ, ◌+◌, ◌-◌, ◌*◌, ◌≤◌}
use mathlib.Core.List.{List}
use lib.ListN.{length}
use Rattle.message.proofs.Passing.{Passing}
use Rattle.message.proofs.pass.pass_inside.Given as goal

abbrev pub invariant-loop : goal.invariant-loop
invariant-loop l = (vs : List ℕ) × Passing l.file l.at l.n l.j l.counter vs × (l.j + 16 * (l.n - l.counter) ≤ length l.file)

-- `pass_near` meets its contract: as many numbers as were passed. Assumes nothing.
use Prim.Native.Nat.{ℕ}
use mathlib.Core.List.{List}
use Rattle.message.proofs.Passing.{Passing}
use Rattle.message.proofs.pass.pass_near.Given as goal

abbrev pub invariant-loop : goal.invariant-loop
invariant-loop l = (vs : List ℕ) × Passing l.file l.at l.n l.j l.counter vs

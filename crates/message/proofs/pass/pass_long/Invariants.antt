-- `pass_long` meets its contract: as many bytes as were passed. Assumes nothing.
use Prim.Native.Nat.{ℕ, ◌+◌, ◌≤◌}
use lib.ListN.{length, drop}
use Rattle.message.specs.Number.{decode}
use Rattle.message.proofs.NumberSteps.{Reading}
use Rattle.message.proofs.pass.pass_long.Given as goal

abbrev pub invariant-loop-i : goal.invariant-loop-i
invariant-loop-i l = ((value place : ℕ) × Reading l.file (decode (drop l.at l.file)) value place l.i (l.at + l.i)) × (l.at + l.i ≤ length l.file)

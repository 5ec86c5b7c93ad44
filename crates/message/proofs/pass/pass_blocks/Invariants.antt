-- `pass_blocks` meets its contract, a block at a time; it begins behind a last byte. Assumes nothing.
use Prim.Native.Nat.{◌-◌, ◌≤◌}
use lib.ListN.{length}
use Rattle.message.proofs.Blocks.{Halfway}
use Rattle.message.proofs.pass.pass_blocks.Given as goal

abbrev pub invariant-loop-i : goal.invariant-loop-i
invariant-loop-i l = (l.i ≤ l.n) × (l.at ≤ l.j) × (l.j ≤ length l.file) × Halfway l.file l.at l.n l.i l.j

abbrev pub decreases-loop-i : goal.decreases-loop-i
decreases-loop-i l = length l.file - l.j

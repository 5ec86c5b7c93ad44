-- `pass_block` meets its contract, a byte at a time. Assumes nothing.
use Prim.Native.Nat.{◌-◌, ◌≤◌}
use mathlib.Core.Path.{◌≡◌}
use Rattle.message.specs.Block.{sound_to, more_to}
use Rattle.message.proofs.pass.pass_block.Given as goal

abbrev pub invariant-loop-t : goal.invariant-loop-t
invariant-loop-t l = (l.t ≤ 32) × (l.sound ≡ sound_to l.file l.«from» l.t) × (l.more ≡ more_to l.file l.«from» l.t) × (l.more ≤ l.t)

abbrev pub decreases-loop-t : goal.decreases-loop-t
decreases-loop-t l = 32 - l.t

-- `begin_of` meets its contract: bytes that go on are left behind. Assumes nothing.
use mathlib.Core.Path.{◌≡◌}
use Prim.Native.Nat.{◌≤◌}
use Rattle.message.specs.Block.{begin_of}
use Rattle.message.proofs.pass.begin_of.Given as goal

abbrev pub invariant-loop-j : goal.invariant-loop-j
invariant-loop-j l = (l.j ≤ l.at) × (begin_of l.file l.at ≡ begin_of l.file l.j)

abbrev pub decreases-loop-j : goal.decreases-loop-j
decreases-loop-j l = l.j

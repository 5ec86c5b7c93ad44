-- `read_more` meets its contract: as many bytes as were read, and what they give. Assumes nothing.
use Prim.Native.Nat.{◌+◌, ◌<◌, ◌≤◌}
use mathlib.Core.Bool.{false}
use lib.ListN.{length, drop}
use Rattle.message.specs.Number.{above, decode_in}
use Rattle.message.proofs.NumberSteps.{Reading}
use Rattle.message.proofs.number.read_more.Given as goal

abbrev pub invariant-loop-i : goal.invariant-loop-i
invariant-loop-i l = Reading l.file (above l.low 128 (decode_in 8 false (drop l.at l.file))) l.value l.place (l.i + 1) (l.at + l.i) × (0 < l.i → l.at + l.i ≤ length l.file)

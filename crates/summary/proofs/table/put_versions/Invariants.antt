-- `put_versions` meets its contract. Assumes nothing.
use Rattle.std.proofs.Common.{◌≡◌, take}
use Rattle.replay.specs.Replay.{over}
use Rattle.summary.specs.Table.{rows_to, version_row}
use Rattle.summary.proofs.table.put_versions.Given as goal

abbrev pub invariant-loop-i : goal.invariant-loop-i
invariant-loop-i l = l.out ≡ over (rows_to l.i (version_row (take l.count l.versions))) l.initial.out

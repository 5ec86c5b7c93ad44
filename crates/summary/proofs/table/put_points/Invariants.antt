-- `put_points` meets its contract. Assumes nothing.
use Rattle.std.proofs.Common.{◌≡◌}
use Rattle.replay.specs.Replay.{over}
use Rattle.summary.specs.Table.{rows_to}
use Rattle.summary.proofs.Tables.{picked_row}
use Rattle.summary.proofs.table.put_points.Given as goal

abbrev pub invariant-loop-i : goal.invariant-loop-i
invariant-loop-i l = l.out ≡ over (rows_to l.i (picked_row l.points l.table)) l.initial.out

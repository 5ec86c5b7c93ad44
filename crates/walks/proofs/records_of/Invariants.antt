-- `records_of` meets its contract. The loop's invariant: each record before i is that of its four numbers. Assumes nothing.
use Rattle.std.proofs.Common.{◌≡◌, ℕ, ◌*◌, ◌<◌, length}
use Rattle.state.specs.Version.{record_at}
use Rattle.walks.specs.Walk.{record_from}
use Rattle.walks.proofs.records_of.Given as goal

abbrev pub invariant-loop-i : goal.invariant-loop-i
invariant-loop-i l = record { size : length l.versions ≡ 512; each : (k : ℕ) → k < l.i → record_at l.versions k ≡ record_from l.table (4 * k) }

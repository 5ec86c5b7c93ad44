-- `refusals_of` meets its contract. Assumes nothing.
use Rattle.std.proofs.Common.{◌≡◌, ◌+◌, ◌≤◌, take, drop}
use Rattle.summary.specs.Table.{refusals, first_refused}
use Rattle.summary.proofs.table.refusals_of.Given as goal

abbrev pub invariant-loop-i : goal.invariant-loop-i
invariant-loop-i l =
    record {
      few : l.count + l.i ≤ l.n;
      count : l.count ≡ refusals (drop l.i (take l.n l.answers));
      first : l.first ≡ first_refused (l.i + 1) (drop l.i (take l.n l.answers));
    }

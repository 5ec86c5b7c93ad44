-- `picks_of` meets its contract. The loop's invariant: the table has the picks of the records passed. Assumes nothing.
use Prim.Native.Nat.{◌≤◌, ◌-◌}
use mathlib.Core.Path.{◌≡◌}
use lib.ListN.{length, take}
use Rattle.checks.specs.Picks.{PicksIn}
use Rattle.checks.proofs.picks.picks_of.Given as goal

abbrev pub invariant-loop-i : goal.invariant-loop-i
invariant-loop-i l = (l.i ≤ l.n) × (l.n ≤ 512) × (length l.versions ≡ 512) × (take l.n l.versions ≡ take l.count l.versions) × PicksIn (take l.i l.versions) l.picks

abbrev pub decreases-loop-i : goal.decreases-loop-i
decreases-loop-i l = l.n - l.i

-- `settled_versions` meets its contract, in two passes: the table has the highest versions of the records passed, then the records passed are
-- settled, the others as they were. Assumes nothing.
use Prim.Native.Nat.{◌≤◌, ◌-◌}
use mathlib.Core.Path.{◌≡◌}
use lib.ListN.{length, take}
use Rattle.state.specs.Change.{settle}
use Rattle.state.specs.Settling.{Tops}
use Rattle.state.specs.Walk.{map_first}
use Rattle.state.proofs.settling.settled_versions.Given as goal

abbrev pub invariant-loop-i : goal.invariant-loop-i
invariant-loop-i l = (l.i ≤ l.n) × (l.n ≡ l.count) × (l.count ≤ 512) × (length l.vs ≡ 512) × Tops l.run (take l.i l.vs) l.tops

abbrev pub decreases-loop-i : goal.decreases-loop-i
decreases-loop-i l = l.n - l.i

abbrev pub invariant-loop-i-2 : goal.invariant-loop-i-2
invariant-loop-i-2 l =
    (l.i ≤ l.n) × (l.n ≡ l.count) × (l.count ≤ 512) × (length l.initial.vs ≡ 512) × Tops l.run (take l.count l.initial.vs) l.tops × (l.vs ≡ map_first l.i (settle l.run (take l.count l.initial.vs)) l.initial.vs)

abbrev pub decreases-loop-i-2 : goal.decreases-loop-i-2
decreases-loop-i-2 l = l.n - l.i

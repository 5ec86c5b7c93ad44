-- `walk` meets its contract. The loop's invariant: both flags are the tests of the points passed. Assumes nothing.
use Rattle.std.proofs.Common.{◌≡◌, take}
use mathlib.Core.Bool.{Bool}
use Rattle.quantity.specs.Lists.{all, any}
use Rattle.state.specs.Point.{has_series}
use Rattle.state.specs.declared.PointRecord.{PointRecord}
use Rattle.checks.specs.Decides.{Decides}
use Rattle.checks.proofs.points.walk.Given as goal

abbrev pub invariant-loop-p : goal.invariant-loop-p
invariant-loop-p g l =
    (l.taken ≡ any (has_series l.series.kind l.series.area l.series.partner) (take l.p-index l.points))
    × ((test : PointRecord → Bool) → Decides (goal.F-post g l.fits) test → l.fit ≡ all test (take l.p-index l.points))

-- `walk` meets its contract. The loop's invariant: what was found and tested is what the records read have. Assumes nothing.
use mathlib.Core.Bool.{Bool}
use mathlib.Core.Path.{◌≡◌}
use lib.ListN.{take}
use Rattle.quantity.specs.Lists.{all}
use Rattle.state.specs.declared.VersionRecord.{VersionRecord}
use Rattle.checks.specs.Decides.{Decides}
use Rattle.checks.specs.Survey.{Surveyed}
use Rattle.checks.proofs.surveys.walk.Given as goal

abbrev pub invariant-loop-v : goal.invariant-loop-v
invariant-loop-v g l =
    (l.s.read ≡ l.v-index) × Surveyed l.point.0 l.version.0 (take l.v-index l.versions) l.s
    × ((test : VersionRecord → Bool) → Decides (goal.F-post g l.fits) test → l.fit ≡ all test (take l.v-index l.versions))

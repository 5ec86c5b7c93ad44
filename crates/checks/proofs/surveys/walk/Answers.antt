-- `walk` meets its contract. The loop's invariant: what was found and tested is what the records read have. Assumes nothing.
use mathlib.Core.Bool.{Bool, ◌&&◌}
use mathlib.Core.Path.{◌≡◌, refl, sym, ◌∙◌}
use Prim.Native.Nat.{◌+◌}
use lib.ListN.{take}
use Rattle.quantity.specs.Lists.{all}
use Rattle.quantity.proofs.Lists.{all-none, all-more}
use Rattle.state.specs.Version.{empty_version}
use Rattle.state.specs.declared.VersionRecord.{VersionRecord}
use Rattle.checks.specs.Decides.{Decides}
use Rattle.checks.proofs.Found.{found-none, found-more, found-other}
use Rattle.checks.proofs.surveys.walk.Goals.{then-is_at, else-is_at}
use Rattle.checks.proofs.surveys.walk.Goals as goal

pub loop-v-init : goal.loop-v-init
loop-v-init g c =
    let a = c.args in
    let e = c.nothing_found-s.ensures in
    (rw e refl, rw e (found-none a.point.0 a.version.0 a.versions.now), λ test d. all-none test a.versions.now)

pub loop-v-preserved : goal.loop-v-preserved
loop-v-preserved g c =
    let l = c.loop-v in
    let vs = c.args.versions.now in
    let p = c.args.point.0 in
    let x = c.args.version.0 in
    let h = c.loop-v-test.true in
    let fit : (test : VersionRecord → Bool) → Decides (goal.F-post g c.args.fits) test → (l.fit && c.fits-fit.result) ≡ all test (take (l.v-index + 1) vs)
    = λ test d. rw (d _ _ c.fits-fit.ensures, l.invariant.2 test d) (all-more test vs l.v-index empty_version h) in
    elim c.if-is_at.branch [
      | then-is_at w ↦
          let more = found-more p x vs l.s l.v-index h l.invariant.1 in
          (rw (w.s-is, w.surveyed-s.ensures, l.invariant.0) refl, rw (w.s-is, w.surveyed-s.ensures, l.invariant.0) more, fit)
      | else-is_at w ↦
          let other = sym c.is_at.ensures ∙ w.if-is_at.false in
          (rw (w.s-is, l.invariant.0) refl, rw (w.s-is, l.invariant.0) (found-other p x vs l.s l.v-index h other l.invariant.1), fit)
    ]

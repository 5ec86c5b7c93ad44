-- `walk` meets its contract. The loop's invariant: both flags are the tests of the points passed. Assumes nothing.
use Rattle.quantity.proofs.Lists.{all-none, all-more, any-none, any-more}
use Rattle.state.specs.Point.{free_point, has_series}
use Rattle.checks.proofs.points.walk.Goals as goal

pub loop-p-init : goal.loop-p-init
loop-p-init g c = let a = c.args in (any-none (has_series a.series.kind a.series.area a.series.partner) a.points.now, λ test d. all-none test a.points.now)

pub loop-p-preserved : goal.loop-p-preserved
loop-p-preserved g c =
    let a = c.args in
    let l = c.loop-p in
    let h = c.loop-p-test.true in (
      rw (c.is_series-taken.ensures, l.invariant.0) (any-more (has_series a.series.kind a.series.area a.series.partner) a.points.now l.p-index free_point h),
      λ test d. rw (d _ _ c.fits-fit.ensures, l.invariant.1 test d) (all-more test a.points.now l.p-index free_point h),
    )

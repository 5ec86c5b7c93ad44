-- `emorizugu_replay` meets its contract. Assumes nothing.
use mathlib.Core.Path.{refl}
use lib.ListN.{length}
use native.Mathlib.Omega.{arith}
use Rattle.host.proofs.Summaries.{summary-fits, points-fit, versions-fit, too-few, answered-fits, summarised}
use Rattle.host.proofs.run.emorizugu_replay.Goals as goal

pub returns-then-not-all_fit : goal.returns-then-not-all_fit
returns-then-not-all_fit c = too-few _ _ _ _ _ c.all_fit.ensures (c.if-not-all_fit.true) refl

pub refusals_of-refused-requires : goal.refusals_of-refused-requires
refusals_of-refused-requires c = omega (arith, answered-fits _ _ _ _ _ _ _ _ c.replay-run.ensures)

pub put_summary-requires : goal.put_summary-requires
put_summary-requires c =
    let a = c.args in
    summary-fits (length a.summary.now) (length a.points.now) (length a.versions.now) c.all_fit.ensures (c.if-not-all_fit.false)

pub put_points-requires : goal.put_points-requires
put_points-requires c =
    let a = c.args in
    points-fit (length a.summary.now) (length a.points.now) (length a.versions.now) c.all_fit.ensures (c.if-not-all_fit.false)

pub put_versions-requires : goal.put_versions-requires
put_versions-requires c =
    let a = c.args in
    versions-fit (length a.summary.now) (length a.points.now) (length a.versions.now) c.all_fit.ensures (c.if-not-all_fit.false)

pub returns : goal.returns
returns c =
    summarised _ _ _ _ _ _ _ _ c.replay-run.ensures _ _ c.all_fit.ensures (c.if-not-all_fit.false) c.offset_of-offset.ensures c.refusals_of-refused.ensures c.put_summary.ensures c.put_points.ensures c.put_versions.ensures c.number_of.ensures

-- `put_point` meets its contract: point p stands at index p - 1. Assumes nothing.
use mathlib.Core.Path.{refl}
use native.Mathlib.Omega.{arith}
use Rattle.quantity.proofs.Tests.{within-low, within-high}
use Rattle.state.proofs.PointTable.{put-at}
use Rattle.state.proofs.changes.put_point.Goals as goal

pub overflow_sub-tables : goal.overflow_sub-tables
overflow_sub-tables c = let s = c in within-low 1 256 s.args.point.0 s.requires

pub returns : goal.returns
returns c d e =
    let s = c in
    let a = s.args in
    rw (e, put-at d.points a.point.0 a.p (within-low 1 256 a.point.0 s.requires)) (omega (arith, within-high 1 256 a.point.0 s.requires), refl)

-- `put_points` meets its contract. Assumes nothing.
use Rattle.std.proofs.Common.{◌≡◌, ◌*◌, take, refl, rules}
use Rattle.summary.proofs.Tables.{rows-none, rows-more, picked_row, picked-wide, picked-all}
use Rattle.summary.proofs.table.put_points.Goals as goal

pub loop-i-init : goal.loop-i-init
loop-i-init c = rows-none _ _

pub loop-i-preserved : goal.loop-i-preserved
loop-i-preserved c =
    let l = c.loop-i in
    let a = c.args in
    let t = c.picks_of-table.result in
    rows-more (picked_row a.points t) 9 (picked-wide a.points t) l.i (9 * l.i) _ a.out.now l.out _ refl c.point_row-row.ensures l.invariant c.put_row.ensures

pub returns : goal.returns
returns c =
    let a = c.args in
    let e : c.loop-i.i ≡ 256 = search rules in
    rw (← picked-all a.points (take a.count a.versions) c.picks_of-table.result c.picks_of-table.ensures) (rw e at c.loop-i.invariant)

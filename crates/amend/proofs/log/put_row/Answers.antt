-- `put_row` meets its contract. Assumes nothing.
use Prim.Native.Nat.{◌+◌, ◌*◌, ◌≤◌}
use native.Mathlib.Omega.{arith}
use lib.ListN.{length, length-set}
use Rattle.amend.proofs.Logs.{four-stored}
use Rattle.amend.proofs.log.put_row.Goals.{In-Some}
use Rattle.amend.proofs.log.put_row.Goals as goal

room : (c : In-Some) → 4 * c.args.used + 4 ≤ length c.args.log.now
room c = rw c.in-Some.is at c.requires

pub returns-in_default : goal.returns-in_default
returns-in_default c = rw c.in_default.is

pub overflow_mul-at : goal.overflow_mul-at
overflow_mul-at c = omega (arith, room (goal.at.overflow_mul-at c).In-Some)

pub offset_bounds-log-at : goal.offset_bounds-log-at
offset_bounds-log-at c = omega (arith, room (goal.at.offset_bounds-log-at c).In-Some)

pub bounds-log-at : goal.bounds-log-at
bounds-log-at c = omega (arith, room (goal.at.bounds-log-at c).In-Some)

pub overflow_add-log : goal.overflow_add-log
overflow_add-log c = omega (arith, room (goal.at.overflow_add-log c).In-Some)

pub offset_bounds-log-at-2 : goal.offset_bounds-log-at-2
offset_bounds-log-at-2 c = omega (arith, room (goal.at.offset_bounds-log-at-2 c).In-Some)

pub bounds-log-at-2 : goal.bounds-log-at-2
bounds-log-at-2 c = simp length-set (omega (arith, room (goal.at.bounds-log-at-2 c).In-Some))

pub overflow_add-log-2 : goal.overflow_add-log-2
overflow_add-log-2 c = omega (arith, room (goal.at.overflow_add-log-2 c).In-Some)

pub offset_bounds-log-at-3 : goal.offset_bounds-log-at-3
offset_bounds-log-at-3 c = omega (arith, room (goal.at.offset_bounds-log-at-3 c).In-Some)

pub bounds-log-at-3 : goal.bounds-log-at-3
bounds-log-at-3 c = simp length-set (omega (arith, room (goal.at.bounds-log-at-3 c).In-Some))

pub overflow_add-log-3 : goal.overflow_add-log-3
overflow_add-log-3 c = omega (arith, room (goal.at.overflow_add-log-3 c).In-Some)

pub offset_bounds-log-at-4 : goal.offset_bounds-log-at-4
offset_bounds-log-at-4 c = omega (arith, room (goal.at.offset_bounds-log-at-4 c).In-Some)

pub bounds-log-at-4 : goal.bounds-log-at-4
bounds-log-at-4 c = simp length-set (omega (arith, room (goal.at.bounds-log-at-4 c).In-Some))

pub returns : goal.returns
returns c =
    let a = c.args in
    let r = c.in-Some.r in
    rw c.in-Some.is (four-stored r.day.0 r.point.0 r.run r.version.0 a.log.now (4 * a.used) (room (goal.at.returns c).In-Some))

-- `assigned` meets its contract. Assumes nothing.
use mathlib.Core.Path.{refl, sym}
use native.Mathlib.Omega.{arith}
use borrow.Author.Tests.{leb-true}
use Rattle.quantity.proofs.Tests.{within-high}
use Rattle.state.specs.Desk.{with_frame}
use Rattle.calls.proofs.assign.assigned.Goals as goal

pub move_delta-requires : goal.move_delta-requires
move_delta-requires c =
    let s = c in
    let k = s.requires.quarters_le_most_quarters in record { book_in = record { low = omega arith; high = omega arith; few = k.0; whole = s.requires.book_len }; area_le_areas = (omega (arith, leb-true s.args.area 16 s.requires.area_value.0), within-high 1 64 s.args.group s.requires.area_value.1, k.1) }

pub put_group-requires : goal.put_group-requires
put_group-requires c = let s = c in omega (arith, leb-true s.args.area 16 s.requires.area_value.0)

pub returns : goal.returns
returns c d =
    let b = c in
    let e = c.put_group.ensures (with_frame d b.args.frame) refl in
    (e.0, λ s. record { answered = refl; held = e.1; booked = rw (sym b.sets_both-both.ensures) c.move_delta.ensures })

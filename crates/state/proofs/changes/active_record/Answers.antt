-- `active_record` meets its contract: its numbers are in range. Assumes nothing.
use borrow.Author.Tests.{leb-true}
use Rattle.state.proofs.Bounds.{series-in}
use native.Mathlib.Omega.{arith}
use Rattle.state.proofs.changes.active_record.Goals as goal

pub overflow_cast-since : goal.overflow_cast-since
overflow_cast-since c = omega (arith, leb-true c.args.day.0 400 c.requires.day_value)

pub overflow_cast-kind : goal.overflow_cast-kind
overflow_cast-kind c = let s = c.args.series in omega (arith, (series-in s.kind s.area s.partner c.requires.partner_value).kind)

pub overflow_cast-area : goal.overflow_cast-area
overflow_cast-area c = let s = c.args.series in omega (arith, (series-in s.kind s.area s.partner c.requires.partner_value).area)

pub overflow_cast-partner : goal.overflow_cast-partner
overflow_cast-partner c = let s = c.args.series in omega (arith, (series-in s.kind s.area s.partner c.requires.partner_value).partner)

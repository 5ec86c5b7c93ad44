-- `amend_run` meets its contract: the sides of a point within the limits are rows of the run. Assumes nothing.
use Rattle.std.proofs.Common.{◌≡◌, length, rules}
use Rattle.amend.proofs.SidesIn.{sides-in}
use Rattle.amend.proofs.runs.amend_run.Goals as goal

pub amend_sides-requires-clause-book_in : goal.amend_sides-requires-clause-book_in
amend_sides-requires-clause-book_in c =
    let a = c.args in
    let r = c.requires in
    let long : length a.groups ≡ 17 = search rules in
    (r.book_in, rw c.sides_of.ensures (sides-in a.groups long r.groups_value.0 a.here r.groups_value.1))

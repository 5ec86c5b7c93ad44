-- `move_run` meets its contract. Assumes nothing.
use Rattle.std.proofs.Common.{List, ℕ, drop, replicate, sym, ◌∙◌, ◌≡◌, ◌≤◌, ◌+◌, length, arith}
use Rattle.book.specs.declared.Way.TheVariants.{In, Out}
use Rattle.book.specs.Row.{part}
use Rattle.book.proofs.Rows.{lent}
use Rattle.book.proofs.Places.{row-within}
use Rattle.model.specs.Step.{move_run}
use Rattle.amend.proofs.Copied.{post-copied}
use Rattle.amend.proofs.delta.move_run.Goals as goal

pub returns : goal.returns
unfolding move_run
returns c =
    let a = c.args in
    let k = c.requires in
    let book = a.book.now in
    let from = c.row_start-from.result in
    let rest : List ℕ = drop a.q (replicate 2980 0) in
    let e : c.copy_from_slice.new.self ≡ part book from a.q = c.copy_from_slice.ensures.after ∙ lent book from a.q in
    let fits : from + a.q ≤ length book = omega (arith, row-within a.q a.run (64 + a.area) k.book_in.low k.book_in.high (omega arith)) in
    rw (
      sym c.group_row.ensures,
      sym c.group_row-2.ensures,
      sym c.row_start-from.ensures,
      sym c.row_start-out.ensures,
      sym c.row_start-to.ensures,
      sym (post-copied Out book book rest c.row_start-out.result a.q from fits),
      sym e,
      sym c.post.ensures,
      sym (post-copied In c.post.new.book book rest c.row_start-to.result a.q from fits),
      sym e,
    )
    c.post-2.ensures

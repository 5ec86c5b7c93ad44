-- `show_row` meets its contract. Assumes nothing.
use mathlib.Core.Path.{sym, ap, ◌∙◌}
use Prim.Native.Nat.{◌+◌, ◌≤◌}
use native.Mathlib.Omega.{arith}
use lib.ListN.{length}
use Rattle.model.specs.Call.{Lengths, lengths_of, shows, telling}
use Rattle.model.specs.Step.{Outcome, refusal_by}
use Rattle.model.specs.declared.Cause.{Cause}
use Rattle.state.specs.declared.Desk.{Desk}
use Rattle.std.specs.Prelude.{◌≡◌, ℕ, Result, Ok, ⊤}
use Rattle.checks.specs.Lent.{with_book_length}
use Rattle.checks.proofs.Deciding.{no_lengths, refused, granted}
use Rattle.calls.proofs.Parts.{Showable, showable, row-ends, row-part}
use Rattle.calls.proofs.show.show_row.Goals.{After-row_start-start}
use Rattle.calls.proofs.show.show_row.Goals as goal

-- what a show that is not refused knows of its desk and book
known : (d : Desk) (run group size : ℕ) {r : Result ⊤ Cause} → ((n : Lengths) → r ≡ refusal_by d (telling (with_book_length n size) (shows run group))) → r ≡ Ok tt → Showable d run group size
known d run group size e ok = showable _ _ _ (with_book_length no_lengths size) (sym (e no_lengths) ∙ ok)

ends : (c : After-row_start-start) → let a = c.args in Showable a.d a.run a.group (length a.book.now) → c.row_start-start.result + a.d.frame.opening.quarters ≤ length a.book.now
ends c k =
    row-ends k c.row_start-start.ensures (omega (arith, k.most))

pub returns-in_default : goal.returns-in_default
returns-in_default c s = ap (λ (o : Outcome). o.part) (sym (refused _ _ _ (c.show_ruling.ensures (lengths_of s)) c.in_default.is))

pub overflow_sub-group : goal.overflow_sub-group
overflow_sub-group c = omega (arith, (known _ _ _ _ c.show_ruling.ensures c.in-Ok.is).some)

pub row_start-start-requires : goal.row_start-start-requires
row_start-start-requires c =
    let k = known _ _ _ _ c.show_ruling.ensures c.in-Ok.is in
    record { low = k.low; high = k.high; row = omega (arith, k.most); few = k.sound.most }

pub overflow_add-result : goal.overflow_add-result
overflow_add-result c = omega (arith, ends (goal.at.overflow_add-result c).After-row_start-start (known _ _ _ _ c.show_ruling.ensures c.in-Ok.is), (known _ _ _ _ c.show_ruling.ensures c.in-Ok.is).whole, (known _ _ _ _ c.show_ruling.ensures c.in-Ok.is).sound.most)

pub offset_bounds-book-start : goal.offset_bounds-book-start
offset_bounds-book-start c = omega (arith, ends (goal.at.offset_bounds-book-start c).After-row_start-start (known _ _ _ _ c.show_ruling.ensures c.in-Ok.is), (known _ _ _ _ c.show_ruling.ensures c.in-Ok.is).whole, (known _ _ _ _ c.show_ruling.ensures c.in-Ok.is).sound.most)

pub slice_bounds-result-end-2 : goal.slice_bounds-result-end-2
slice_bounds-result-end-2 c = omega (arith, ends (goal.at.slice_bounds-result-end-2 c).After-row_start-start (known _ _ _ _ c.show_ruling.ensures c.in-Ok.is))

pub returns : goal.returns
returns c s =
    row-part _ _ _ _ _ c.row_start-start.ensures
    ∙ ap (λ (o : Outcome). o.part) (sym (granted _ _ _ (c.show_ruling.ensures (lengths_of s)) c.in-Ok.is))

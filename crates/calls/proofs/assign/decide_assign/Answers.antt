-- `decide_assign` meets its contract. Assumes nothing.
use mathlib.Core.Path.{sym, ◌∙◌}
use borrow.Author.Tests.{not-false}
use Rattle.quantity.specs.Limits.{delta_ok, group_ok}
use Rattle.quantity.proofs.Tests.{and-left, and-right}
use Rattle.state.proofs.Bounds.{sound}
use Rattle.state.specs.Desk.{with_frame}
use Rattle.model.specs.Call.{lengths_of}
use Rattle.checks.proofs.Deciding.{allowed, no_lengths, book-same, unmoved, book-refused, book-granted}
use Rattle.calls.proofs.assign.decide_assign.Goals as goal

pub assigned-requires : goal.assigned-requires
assigned-requires c =
    let p = c in
    let a = p.args in
    let h = allowed _ _ (sym (c.assign_ruling.ensures p.requires.desk p.requires.looked no_lengths) ∙ c.in-Ok.is) in
    let fields = not-false _ h.1.1.1.0 in
    let s = sound (with_frame p.requires.desk a.frame) (not-false _ h.0) in
    record { quarters_le_most_quarters = (s.most, s.groups); area_value = (and-left (delta_ok a.area) _ fields, and-left (group_ok a.group) _ (and-right (delta_ok a.area) _ fields)); book_len = book-same _ _ h.1.1.0 ∙ s.book }

pub returns-in-Err : goal.returns-in-Err
returns-in-Err c e k =
    let u = unmoved (with_frame e c.args.frame) c.refuse.ensures in
    (u.0, λ s. book-refused _ _ _ (c.assign_ruling.ensures e k (lengths_of s)) c.in-Err.is u.1)

pub returns-in-Ok : goal.returns-in-Ok
returns-in-Ok c e k =
    let a = c.accept.ensures in
    let p = c.assigned.ensures e in (
      rw a.1 p.0,
      λ s. book-granted _ _ _ (c.assign_ruling.ensures e k (lengths_of s)) c.in-Ok.is
          (rw (a.0, a.1) (p.1 s)),
    )

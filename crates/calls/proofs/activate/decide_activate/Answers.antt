-- `decide_activate` meets its contract. Assumes nothing.
use mathlib.Core.Path.{refl, sym, ◌∙◌}
use borrow.Author.Tests.{not-false}
use Rattle.quantity.specs.Limits.{point_ok, day_ok}
use Rattle.quantity.proofs.Tests.{and-left, and-right}
use Rattle.state.specs.Desk.{with_frame}
use Rattle.checks.proofs.Deciding.{allowed, no_lengths, decides-refused, decides-granted}
use Rattle.calls.proofs.activate.decide_activate.Goals as goal

pub active_record-p-requires : goal.active_record-p-requires
active_record-p-requires c =
    let s = c in
    let a = s.args in
    let h = allowed _ _ (sym (c.activate_ruling.ensures s.requires.desk s.requires.looked no_lengths) ∙ c.in-Ok.is) in
    let fields = and-right (point_ok a.point.0) _ (not-false _ h.1.1.0) in
    record { partner_value = and-right (day_ok a.day.0) _ fields; day_value = and-left (day_ok a.day.0) _ fields }

pub put_point-requires : goal.put_point-requires
put_point-requires c =
    let s = c in
    let a = s.args in
    let h = allowed _ _ (sym (c.activate_ruling.ensures s.requires.desk s.requires.looked no_lengths) ∙ c.in-Ok.is) in
    and-left (point_ok a.point.0) _ (not-false _ h.1.1.0)

pub returns-in-Err : goal.returns-in-Err
returns-in-Err c e k = decides-refused _ _ (c.activate_ruling.ensures e k) c.in-Err.is c.refuse.ensures

pub returns-in-Ok : goal.returns-in-Ok
returns-in-Ok c e k =
    let d = with_frame e c.args.frame in
    decides-granted d _ (c.activate_ruling.ensures e k) c.in-Ok.is c.accept.ensures
    (rw c.active_record-p.ensures at (c.put_point.ensures d refl)) (λ s. refl)

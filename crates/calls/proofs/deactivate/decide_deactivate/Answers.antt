-- `decide_deactivate` meets its contract. Assumes nothing.
use mathlib.Core.Path.{refl, sym, ◌∙◌}
use borrow.Author.Tests.{not-false}
use Rattle.quantity.specs.Limits.{point_ok}
use Rattle.quantity.proofs.Tests.{and-left}
use Rattle.state.specs.Desk.{with_frame}
use Rattle.checks.proofs.Deciding.{allowed, no_lengths, decides-refused, decides-granted}
use Rattle.calls.proofs.deactivate.decide_deactivate.Goals as goal

pub put_point-requires : goal.put_point-requires
put_point-requires c =
    let s = c in
    let h = allowed _ _ (sym (c.deactivate_ruling.ensures s.requires.desk s.requires.looked no_lengths) ∙ c.in-Ok.is) in
    and-left (point_ok s.args.point.0) _ (not-false _ h.1.1.0)

pub returns-in-Err : goal.returns-in-Err
returns-in-Err c e k = decides-refused _ _ (c.deactivate_ruling.ensures e k) c.in-Err.is c.refuse.ensures

pub returns-in-Ok : goal.returns-in-Ok
returns-in-Ok c e k =
    let d = with_frame e c.args.frame in
    decides-granted d _ (c.deactivate_ruling.ensures e k) c.in-Ok.is c.accept.ensures (c.put_point.ensures d refl) (λ s. refl)

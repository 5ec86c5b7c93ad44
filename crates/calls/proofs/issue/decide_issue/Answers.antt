-- `decide_issue` meets its contract. Assumes nothing.
use mathlib.Core.Path.{refl, sym, ◌∙◌}
use Rattle.state.specs.Desk.{with_frame}
use Rattle.checks.proofs.Deciding.{allowed, no_lengths, decides-refused, decides-granted}
use borrow.Author.Tests.{not-false}
use Rattle.calls.proofs.issue.decide_issue.Goals as goal

pub returns-in-Err : goal.returns-in-Err
returns-in-Err c e k = decides-refused _ _ (c.issue_ruling.ensures e k) c.in-Err.is c.refuse.ensures

pub returns-in-Ok : goal.returns-in-Ok
returns-in-Ok c e k =
    let d = with_frame e c.args.frame in
    let r = c.issue_ruling.ensures e k in
    let fine = c.in-Ok.is in
    let v = not-false _ (allowed _ _ (sym (r no_lengths) ∙ fine)).0 in
    decides-granted d _ r fine c.accept.ensures (c.issue_run.ensures d refl v) (λ s. refl)

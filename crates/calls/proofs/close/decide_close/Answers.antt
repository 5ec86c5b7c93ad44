-- `decide_close` meets its contract. Assumes nothing.
use mathlib.Core.Path.{refl}
use Rattle.state.specs.Desk.{with_frame}
use Rattle.checks.proofs.Deciding.{decides-refused, decides-granted}
use Rattle.calls.proofs.close.decide_close.Goals as goal

pub returns-in-Err : goal.returns-in-Err
returns-in-Err c e k = decides-refused _ _ (c.close_ruling.ensures e k) c.in-Err.is c.refuse.ensures

pub returns-in-Ok : goal.returns-in-Ok
returns-in-Ok c e k =
    let d = with_frame e c.args.frame in
    decides-granted d _ (c.close_ruling.ensures e k) c.in-Ok.is c.accept.ensures (c.close_run.ensures d refl) (λ s. refl)

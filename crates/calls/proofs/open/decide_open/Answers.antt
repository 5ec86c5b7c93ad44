-- `decide_open` meets its contract. Assumes nothing.
use mathlib.Core.Path.{sym, ap, ◌∙◌}
use Prim.Native.Nat.{ℕ}
use borrow.Author.Tests.{not-false}
use lib.ListN.{replicate}
use Rattle.state.specs.Desk.{with_frame}
use Rattle.checks.proofs.Deciding.{allowed, opens-lengths, unmoved, whole-refused, whole-granted}
use Rattle.calls.proofs.open.decide_open.Goals as goal

pub returns-in-Err : goal.returns-in-Err
returns-in-Err c e =
    let u = unmoved (with_frame e c.args.frame) c.refuse.ensures in
    (u.0, whole-refused _ _ _ (c.open_ruling.ensures e) c.in-Err.is u.1)

pub returns-in-Ok : goal.returns-in-Ok
returns-in-Ok c d =
    let k = c.accept.ensures in
    let a = c.args in
    let v = c.open_ruling.ensures d in
    let e = c.in-Ok.is in
    let h = allowed _ _ (sym v ∙ e) in
    let n = opens-lengths _ _ (not-false _ h.1.1.0) in
    let book = c.clear.ensures ∙ ap (λ (n : ℕ). replicate n 0) n.0 in
    let schedules = c.clear-in-Ok.ensures ∙ ap (λ (n : ℕ). replicate n 0) n.1 in
    let p = c.open_desk.ensures (with_frame d a.frame) h.1.0 in (
      rw k.1 p.0,
      whole-granted _ _ _ v e
          (record {
            answered = k.0;
            held = rw k.1 p.1;
            left = λ i. record { values = a.values.now; book = book i; log = a.log.now; schedules = schedules i };
          }),
    )

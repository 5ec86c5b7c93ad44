-- `check_file` meets its contract: the calls before the offset are read, and the verdict is that on what follows. Assumes nothing.
use borrow.Author.Rules.{rules}
use mathlib.Core.Path.{sym, ◌∙◌}
use Rattle.message.proofs.FileSteps.{checking, call-placed, check-more, check-stop, check-end}
use Rattle.std.proofs.lemmas.Result.{err_from_is_err_and}
use native.Mathlib.Omega.{arith}
use Rattle.message.proofs.Refusing.{goes-on, stands-at}
use Rattle.message.proofs.file.check_file.Goals as goal

pub loop-at-init : goal.loop-at-init
loop-at-init c = checking _

pub loop-at-smaller : goal.loop-at-smaller
loop-at-smaller c = let p = call-placed c.loop-at.invariant (sym c.pass_call.ensures ∙ goes-on c.pass_call.result c.map_err.result _ c.map_err.ensures.cases c.in_ok-at.was) in omega (arith, p.later, c.loop-at-test.true)

pub loop-at-preserved : goal.loop-at-preserved
loop-at-preserved c = check-more c.loop-at.invariant (sym c.pass_call.ensures ∙ goes-on c.pass_call.result c.map_err.result _ c.map_err.ensures.cases c.in_ok-at.was)

pub returns : goal.returns
returns c = check-end c.loop-at.invariant c.loop-at-test.false

pub returns-in_err-at : goal.returns-in_err-at
returns-in_err-at c =
    let p = err_from_is_err_and c.from_residual.result c.from_residual.ensures.1 in
    let w = stands-at c.pass_call.result c.map_err.result _ c.map_err.ensures.cases {at = c.loop-at.at} (λ x y w. search rules) c.in_err-at.was in
    rw (p.1, p.2, w.2) (check-stop c.loop-at.invariant c.loop-at-test.true (sym c.pass_call.ensures ∙ w.1))

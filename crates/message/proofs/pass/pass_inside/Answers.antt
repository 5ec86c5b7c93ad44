-- `pass_inside` meets its contract: as many numbers as were passed, each of nine bytes at most. Assumes nothing.
use Rattle.std.proofs.lemmas.Result.{err_from_is_err_and}
use mathlib.Core.List.{[]}
use native.Mathlib.Omega.{arith}
use Rattle.message.proofs.Passing.{started, one-more, passed, not-passed}
use Rattle.message.proofs.Bytes.{has-value, no-value, nine-at}
use Rattle.message.proofs.pass.pass_inside.Goals as goal

pub loop-init : goal.loop-init
loop-init c = ([], started _ _ _ (omega arith), omega arith)

pub loop-preserved : goal.loop-preserved
loop-preserved c =
    let l = c.loop in
    let r = has-value c.args.file.now c.loop.j c.in_ok-j.ensures in
    (_, one-more l.invariant.1 c.loop-test.true r.1, omega (arith, nine-at c.args.file.now c.loop.j r.1))

pub returns : goal.returns
returns c = passed c.loop.invariant.1 c.loop-test.false

pub returns-in_err-j : goal.returns-in_err-j
returns-in_err-j c = let p = err_from_is_err_and c.from_residual.result c.from_residual.ensures.1 in rw (p.1, p.2) (not-passed c.loop.invariant.1 c.loop-test.true (no-value c.args.file.now c.loop.j c.in_err-j.ensures))

-- `pass_near` meets its contract: as many numbers as were passed. Assumes nothing.
use Rattle.std.proofs.lemmas.Result.{err_from_is_err_and}
use mathlib.Core.List.{[]}
use Rattle.message.proofs.Passing.{started, one-more, passed, not-passed}
use Rattle.message.proofs.Bytes.{has-value, no-value}
use Rattle.message.proofs.pass.pass_near.Goals as goal

pub loop-init : goal.loop-init
loop-init c = ([], started _ _ _ c.requires)

pub loop-preserved : goal.loop-preserved
loop-preserved c = (_, one-more c.loop.invariant.1 c.loop-test.true (has-value c.args.file.now c.loop.j c.in_ok-j.ensures).1)

pub returns : goal.returns
returns c = passed c.loop.invariant.1 c.loop-test.false

pub returns-in_err-j : goal.returns-in_err-j
returns-in_err-j c = let p = err_from_is_err_and c.from_residual.result c.from_residual.ensures.1 in rw (p.1, p.2) (not-passed c.loop.invariant.1 c.loop-test.true (no-value c.args.file.now c.loop.j c.in_err-j.ensures))

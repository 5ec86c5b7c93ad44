-- `pass_long` meets its contract: as many bytes as were passed. Assumes nothing.
use mathlib.Core.Path.{refl, sym}
use native.Mathlib.Omega.{arith}
use Rattle.message.proofs.NumberSteps.{first-at, ended, zero_last, «last», more, moved, all-nine}
use Rattle.message.proofs.Bytes.{passed-number, not-passed-number}
use Rattle.message.proofs.pass.pass_long.Goals as goal

pub loop-i-init : goal.loop-i-init
loop-i-init c = ((_, _, first-at c.args.file.now c.args.at c.requires.0 refl c.requires.1), omega (arith, c.requires.0))

pub returns-then-file-j : goal.returns-then-file-j
returns-then-file-j c = not-passed-number c.args.file.now c.args.at (sym (ended c.loop-i.invariant.0.2 (omega arith) c.if-file-j.true))

pub returns-then-b-eq0 : goal.returns-then-b-eq0
returns-then-b-eq0 c = not-passed-number c.args.file.now c.args.at (sym (zero_last c.loop-i.invariant.0.2 (omega arith) c.if-file-j.false refl c.if-b-eq0.true))

pub returns-then-b-lt-TOP : goal.returns-then-b-lt-TOP
returns-then-b-lt-TOP c = passed-number c.args.file.now c.args.at (sym («last» c.loop-i.invariant.0.2 (omega arith) c.if-file-j.false refl c.if-b-lt-TOP.true c.if-b-eq0.false))

pub loop-i-preserved : goal.loop-i-preserved
loop-i-preserved c = ((_, _, moved refl refl refl (omega arith) (more c.loop-i.invariant.0.2 (omega arith) c.if-file-j.false refl c.if-b-lt-TOP.false)), omega arith)

pub returns : goal.returns
returns c = not-passed-number c.args.file.now c.args.at (sym (all-nine c.loop-i.invariant.0.2 (omega arith)))

-- `begin_of` meets its contract: bytes that go on are left behind. Assumes nothing.
use borrow.Author.Rules.{rules}
use mathlib.Core.Path.{sym, ◌∙◌}
use Rattle.message.proofs.Blocks.{begin-none, begin-here, begin-before}
use Rattle.message.proofs.pass.begin_of.Goals as goal

pub returns-then-file-j-lt-TOP : goal.returns-then-file-j-lt-TOP
returns-then-file-j-lt-TOP c = sym (c.loop-j.invariant.1 ∙ begin-here c.args.file.now c.loop-j.j c.loop-j-test.true c.if-file-j-lt-TOP.true)

pub loop-j-preserved : goal.loop-j-preserved
loop-j-preserved c = (search rules, c.loop-j.invariant.1 ∙ begin-before c.args.file.now c.loop-j.j c.loop-j-test.true c.if-file-j-lt-TOP.false)

pub returns : goal.returns
returns c = sym (c.loop-j.invariant.1 ∙ begin-none c.args.file.now c.loop-j.j c.loop-j-test.false)

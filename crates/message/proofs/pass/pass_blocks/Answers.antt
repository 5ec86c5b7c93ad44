-- `pass_blocks` meets its contract, a block at a time; it begins behind a last byte. Assumes nothing.
use borrow.Author.Rules.{rules}
use Prim.Native.Nat.{◌-◌}
use mathlib.Core.Path.{sym, ◌∙◌}
use native.Mathlib.Omega.{arith}
use borrow.Author.Tests.{not-false}
use Rattle.message.proofs.Blocks.{halfway, blocks-on, reaches, reaches-none}
use Rattle.message.proofs.pass.pass_blocks.Goals as goal

pub returns-then-at-lt-BEHIND : goal.returns-then-at-lt-BEHIND
returns-then-at-lt-BEHIND c = reaches-none c.args.file.now c.args.at c.args.n c.requires

pub returns-then-file-at-ge-TOP : goal.returns-then-file-at-ge-TOP
returns-then-file-at-ge-TOP c = reaches-none c.args.file.now c.args.at c.args.n c.requires

pub loop-i-init : goal.loop-i-init
loop-i-init c = (search rules, search rules, search rules, halfway c.args.file.now c.args.at c.args.n (c.args.at - 1) (omega arith) c.requires c.if-file-at-ge-TOP.false)

pub returns-then-file-j-lt-BLOCK : goal.returns-then-file-j-lt-BLOCK
returns-then-file-j-lt-BLOCK c = reaches c.loop-i.invariant.3 c.begin_of.ensures

pub returns-then-not-block : goal.returns-then-not-block
returns-then-not-block c = reaches-none c.args.file.now c.args.at c.args.n c.requires

pub loop-i-preserved : goal.loop-i-preserved
loop-i-preserved c =
    let l = c.loop-i in
    let e = c.pass_block-block.ensures in
    (search rules, search rules, search rules, blocks-on (omega arith) l.invariant.3 (omega arith) (omega arith) (sym e.0 ∙ not-false _ c.if-not-block.false) (c.from.ensures ∙ e.1))

pub returns : goal.returns
returns c = reaches c.loop-i.invariant.3 c.begin_of-2.ensures

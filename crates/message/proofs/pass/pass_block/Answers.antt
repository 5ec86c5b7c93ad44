-- `pass_block` meets its contract, a byte at a time. Assumes nothing.
use borrow.Author.Rules.{rules}
use mathlib.Core.Path.{◌≡◌}
use Rattle.message.specs.Block.{stands, sound_to, more_to}
use Rattle.message.proofs.Blocks.{sound-more, more-more}
use Rattle.message.proofs.pass.pass_block.Goals as goal

pub loop-t-init : goal.loop-t-init
unfolding sound_to more_to
loop-t-init c = (search rules, search rules, search rules, search rules)

pub loop-t-preserved : goal.loop-t-preserved
unfolding stands
loop-t-preserved c =
    let l = c.loop-t in
    (search rules, rw (sound-more c.args.file.now c.args.«from» l.t, l.invariant.1, c.stands-sound.ensures), rw (more-more c.args.file.now c.args.«from» l.t, l.invariant.2, c.top_bit-more.ensures.0), search rules)

pub returns : goal.returns
returns c =
    let l = c.loop-t in
    let e : l.t ≡ 32 = search rules in
    (rw e at l.invariant.1, rw e at l.invariant.2, search rules)

-- `put_number` meets its contract: the bytes that were written, and what is left of the number. Assumes nothing.
use Rattle.writer.proofs.Writing.{putting, in-out, put-more, put-last}
use Rattle.writer.proofs.put_number.Goals as goal

pub loop-left-init : goal.loop-left-init
loop-left-init c = putting _ _ _ c.requires.0

pub bounds-output-j : goal.bounds-output-j
bounds-output-j c = in-out c.loop-left.invariant c.requires.1

pub loop-left-preserved : goal.loop-left-preserved
loop-left-preserved c = put-more c.loop-left.invariant c.requires.1 c.loop-left-test.true

pub bounds-output-j-2 : goal.bounds-output-j-2
bounds-output-j-2 c = in-out c.loop-left.invariant c.requires.1

pub returns : goal.returns
returns c = put-last c.loop-left.invariant c.requires.1 c.loop-left-test.false

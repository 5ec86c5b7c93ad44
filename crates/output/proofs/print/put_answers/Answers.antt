-- `put_answers` meets its contract. Assumes nothing.
use mathlib.Core.Path.{◌≡◌}
use native.Mathlib.Omega.{arith}
use lib.ListN.{length}
use Rattle.text.proofs.Texts.{puts-as, puts-few, puts-each, puts-first, answer-few}
use Rattle.output.specs.Fill.{answer_room}
use Rattle.output.proofs.Prints.{answer-next, answers-all}
use borrow.Author.Rules.{rules}
use Rattle.output.proofs.print.put_answers.Goals as goal

pub loop-i-init : goal.loop-i-init
loop-i-init c = puts-first _ _

pub loop-i-preserved : goal.loop-i-preserved
loop-i-preserved c =
    let i = c.loop-i.i in
    let line = puts-few c.answer_line.ensures (search rules) (answer-few _ _ (omega arith) (c.requires.1 i c.loop-i-test.true)) in
    puts-each answer_room _ _ c.loop-i.invariant (puts-as {p = answer_room} line (search rules) (answer-next c.args.answers.now i))

pub returns : goal.returns
returns c =
    let e : c.loop-i.i ≡ length c.args.answers.now = omega arith in
    puts-as (rw e at c.loop-i.invariant) (search rules) (answers-all _)

-- `put_groups` meets its contract. Assumes nothing.
use Rattle.text.proofs.Texts.{puts-as, puts-next, puts-first}
use Rattle.output.specs.Fill.{group_room}
use Rattle.output.proofs.Prints.{group-read}
use borrow.Author.Rules.{rules}
use Rattle.output.proofs.print.put_groups.Goals as goal

pub loop-group-init : goal.loop-group-init
loop-group-init c = puts-first _ _

pub loop-group-preserved : goal.loop-group-preserved
loop-group-preserved c =
    let a = c.args in
    puts-next group_room _ _ (search rules) c.loop-group.invariant (puts-as c.put_group.ensures (search rules) (group-read a.month.now.book.now a.month.now.quarters a.run a.quarter _ _ c.figure-f.ensures))

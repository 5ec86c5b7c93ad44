-- `put_group` meets its contract. Assumes nothing.
use Rattle.text.proofs.Texts.{puts-none, puts-as}
use Rattle.output.proofs.Prints.{group-none, group-line}
use borrow.Author.Rules.{rules}
use Rattle.output.proofs.print.put_group.Goals as goal

pub returns-then-f-ne0 : goal.returns-then-f-ne0
returns-then-f-ne0 c = puts-as c.group_line.ensures (search rules) (group-line _ _ _ _ c.if-f-ne0.true (search rules))

pub returns-else-f-ne0 : goal.returns-else-f-ne0
returns-else-f-ne0 c = puts-as (puts-none _) (search rules) (group-none _ _ _ _ c.if-f-ne0.false)

-- `put_selection` meets its contract. Assumes nothing.
use Rattle.text.proofs.Texts.{puts-none, puts-as}
use Rattle.output.specs.Output.{selection_text}
use borrow.Author.Rules.{rules}
use Rattle.output.proofs.selections.put_selection.Goals as goal

pub returns-in-Selected : goal.returns-in-Selected
unfolding selection_text
returns-in-Selected c = puts-as c.selection_line.ensures (search rules) (rw (c.in-Selected.is, c.from.ensures))

pub returns-in_default : goal.returns-in_default
unfolding selection_text
returns-in_default c = puts-as (puts-none _) (search rules) (rw c.in_default.is)

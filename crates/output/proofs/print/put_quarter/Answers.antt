-- `put_quarter` meets its contract. Assumes nothing.
use Rattle.text.proofs.Texts.{puts-then, puts-as}
use Rattle.output.specs.Fill.{total_room}
use Rattle.output.specs.Output.{quarter_text}
use Rattle.output.proofs.Prints.{total-read}
use borrow.Author.Rules.{rules}
use Rattle.output.proofs.print.put_quarter.Goals as goal

pub returns : goal.returns
unfolding quarter_text
returns c =
    let a = c.args in
    puts-then c.put_groups.ensures
    (puts-as {p = total_room} c.total_line.ensures (search rules) (total-read a.month.now.month.book.now a.month.now.month.quarters _ _ _ a.month.now.summed c.requires.0 c.total-sum.ensures))

-- `put_picks` meets its contract. Assumes nothing.
use Rattle.text.proofs.Texts.{puts-as, puts-each, puts-first}
use Rattle.output.specs.Fill.{selection_room}
use Rattle.output.proofs.Prints.{pick-next}
use borrow.Author.Rules.{rules}
use Rattle.output.proofs.selections.put_picks.Goals as goal

pub loop-i-init : goal.loop-i-init
loop-i-init c = puts-first _ _

pub loop-i-preserved : goal.loop-i-preserved
loop-i-preserved c =
    let a = c.args in
    puts-each selection_room _ _ c.loop-i.invariant (puts-as c.put_selection.ensures (search rules) (pick-next a.run a.picks.now c.loop-i.i _ c.selected_in.ensures))

-- `put_selections` meets its contract. Assumes nothing.
use Rattle.text.proofs.Texts.{puts-then, puts-as}
use Rattle.output.proofs.Prints.{selections-read}
use borrow.Author.Rules.{rules}
use Rattle.output.proofs.selections.put_selections.Goals as goal

pub returns : goal.returns
returns c = puts-as (puts-then c.put_picks.ensures c.put_picks-2.ensures) (search rules) (selections-read _ _ c.picks_of-picks.ensures)

-- `stands` meets its contract. Assumes nothing.
use borrow.Author.Rules.{rules}
use Rattle.message.specs.Block.{standing}
use Rattle.message.proofs.pass.stands.Goals as goal

pub returns : goal.returns
unfolding standing
returns c = search rules

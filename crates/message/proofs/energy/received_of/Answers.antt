-- `received_of` meets its contract, by the laws of an energy's word. Assumes nothing.
use borrow.Author.Rules.{rules}
use Rattle.message.proofs.Energies.{word-even, word-odd}
use Rattle.message.proofs.energy.received_of.Goals as goal

pub returns-then-n-eq0 : goal.returns-then-n-eq0
returns-then-n-eq0 c = word-even _ (search rules) c.if-n-eq0.true

pub returns-else-n-eq0 : goal.returns-else-n-eq0
returns-else-n-eq0 c = word-odd _ (search rules) c.if-n-eq0.false

-- `sent_of` meets its contract, by the laws of an energy's word. Assumes nothing.
use borrow.Author.Rules.{rules}
use Rattle.message.proofs.Energies.{sent-up, sent-down}
use Rattle.message.proofs.energy.sent_of.Goals as goal

pub returns-then-is_negative : goal.returns-then-is_negative
returns-then-is_negative c = sent-down _ (search rules) (search rules)

pub returns-else-is_negative : goal.returns-else-is_negative
returns-else-is_negative c = sent-up _ (search rules)

-- `is_negative` meets its contract. Assumes nothing.
use Rattle.quantity.proofs.Words.{negative-word}
use Rattle.quantity.proofs.word.is_negative.Goals as goal

pub returns-clause-read : goal.returns-clause-read
returns-clause-read c = negative-word _

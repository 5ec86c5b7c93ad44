-- `put_field` meets its contract. Assumes nothing.
use Rattle.text.proofs.Texts.{puts-then}
use Rattle.text.proofs.field.Text.put_field.Goals as goal

pub returns : goal.returns
returns c = puts-then c.put_byte.ensures c.put_number.ensures

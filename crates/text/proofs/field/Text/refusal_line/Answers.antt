-- `refusal_line` meets its contract. Assumes nothing.
use Rattle.text.proofs.Texts.{puts-then}
use Rattle.text.proofs.field.Text.refusal_line.Goals as goal

pub returns : goal.returns
returns c =
    puts-then (puts-then (puts-then c.put_byte.ensures c.put_field.ensures) c.put_field-2.ensures) c.put_byte-2.ensures

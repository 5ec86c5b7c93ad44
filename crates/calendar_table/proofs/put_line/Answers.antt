-- `put_line` meets its contract. Assumes nothing.
use Rattle.text.proofs.Texts.{puts-then}
use Rattle.calendar_table.proofs.put_line.Goals as goal

pub returns : goal.returns
returns c = puts-then c.put_number.ensures c.put_byte.ensures

-- `read_fields` meets its contract: the fields that were read, and 0 behind them. Assumes nothing.
use Rattle.reader.proofs.Filling.{Filling}
use Rattle.reader.proofs.read_fields.Given as goal

abbrev pub invariant-loop-i : goal.invariant-loop-i
invariant-loop-i l = Filling l.file l.at l.n l.fields l.next l.i

-- `pad_fields` meets its contract: the fields that were copied. Assumes nothing.
use Rattle.writer.proofs.Padding.{Padded}
use Rattle.writer.proofs.fields.pad_fields.Given as goal

abbrev pub invariant-loop-i : goal.invariant-loop-i
invariant-loop-i l = Padded l.fields l.padded l.i

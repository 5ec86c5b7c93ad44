-- `pad_fields` meets its contract: the fields that were copied. Assumes nothing.
use Rattle.std.proofs.Common.{◌≡◌, refl, arith}
use Rattle.writer.proofs.Padding.{padded-more, padded-all}
use Rattle.writer.proofs.fields.pad_fields.Goals as goal

pub loop-i-init : goal.loop-i-init
loop-i-init c = record { long = refl; same = refl }

pub loop-i-preserved : goal.loop-i-preserved
loop-i-preserved c = padded-more c.loop-i.invariant c.loop-i-test.true c.field_at.ensures

pub returns : goal.returns
returns c = let whole : c.loop-i.i ≡ 21 = omega arith in padded-all (rw whole at c.loop-i.invariant)

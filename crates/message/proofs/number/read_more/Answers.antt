-- `read_more` meets its contract: as many bytes as were read, and what they give. Assumes nothing.
use Prim.Native.Nat.{◌%◌}
use Rattle.message.proofs.NumberSteps.{started, fits-in, all-nine, ended, zero_last, «last», more, moved}
use mathlib.Core.Path.{refl}
use native.Mathlib.Omega.{arith}
use Rattle.message.proofs.number.read_more.Goals as goal

pub loop-i-init : goal.loop-i-init
loop-i-init c = (moved refl refl refl (omega arith) (started _ _ c.args.at c.requires), λ z. omega arith)

pub returns-then-file-j : goal.returns-then-file-j
returns-then-file-j c = ended c.loop-i.invariant.0 (omega arith) c.if-file-j.true

pub returns-then-b-eq0 : goal.returns-then-b-eq0
returns-then-b-eq0 c = zero_last c.loop-i.invariant.0 (omega arith) c.if-file-j.false c.from-b.ensures c.if-b-eq0.true

pub overflow_mul-result : goal.overflow_mul-result
overflow_mul-result c = let v = c.loop-i.invariant.0 in omega (arith, fits-in _ _ _ _ (omega arith) v.power v.so_far c.if-b-lt-SEVEN_BITS.true)

pub overflow_add-result : goal.overflow_add-result
overflow_add-result c = let v = c.loop-i.invariant.0 in omega (arith, fits-in _ _ _ _ (omega arith) v.power v.so_far c.if-b-lt-SEVEN_BITS.true)

pub returns-then-b-lt-SEVEN_BITS : goal.returns-then-b-lt-SEVEN_BITS
returns-then-b-lt-SEVEN_BITS c = «last» c.loop-i.invariant.0 (omega arith) c.if-file-j.false c.from-b.ensures c.if-b-lt-SEVEN_BITS.true c.if-b-eq0.false

pub overflow_mul-value : goal.overflow_mul-value
overflow_mul-value c = let v = c.loop-i.invariant.0 in omega (arith, fits-in _ _ _ (c.from-b.result % 128) (omega arith) v.power v.so_far (omega arith))

pub overflow_add-value : goal.overflow_add-value
overflow_add-value c = let v = c.loop-i.invariant.0 in omega (arith, fits-in _ _ _ (c.from-b.result % 128) (omega arith) v.power v.so_far (omega arith))

pub overflow_mul-place : goal.overflow_mul-place
overflow_mul-place c = let v = c.loop-i.invariant.0 in omega (arith, fits-in _ _ _ 127 (omega arith) v.power v.so_far (omega arith))

pub loop-i-preserved : goal.loop-i-preserved
loop-i-preserved c = (moved refl refl refl (omega arith) (more c.loop-i.invariant.0 (omega arith) c.if-file-j.false c.from-b.ensures c.if-b-lt-SEVEN_BITS.false), λ z. omega arith)

pub returns : goal.returns
returns c = all-nine c.loop-i.invariant.0 (omega arith)

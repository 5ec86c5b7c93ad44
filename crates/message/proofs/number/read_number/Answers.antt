-- `read_number` meets its contract, by its first three bytes. Assumes nothing.
use mathlib.Core.Path.{refl}
use native.Mathlib.Omega.{arith}
use Rattle.message.proofs.NumberSteps.{none-at, only-at, more-at, first-at, second-at, zero_last, last-as}
use Rattle.message.proofs.number.read_number.Goals as goal

pub returns-then-file-at : goal.returns-then-file-at
returns-then-file-at c = none-at _ _ c.if-file-at.true

pub returns-then-a-lt-SEVEN_BITS : goal.returns-then-a-lt-SEVEN_BITS
returns-then-a-lt-SEVEN_BITS c = only-at c.args.file.now c.args.at c.if-file-at.false c.from-a.ensures c.if-a-lt-SEVEN_BITS.true

pub returns-then-file-at-lt3 : goal.returns-then-file-at-lt3
returns-then-file-at-lt3 c = more-at c.args.file.now c.args.at c.if-file-at.false c.from-a.ensures c.if-a-lt-SEVEN_BITS.false c.read_more.ensures

pub returns-then-b-eq0 : goal.returns-then-b-eq0
returns-then-b-eq0 c = zero_last (first-at c.args.file.now c.args.at c.if-file-at.false c.from-a.ensures c.if-a-lt-SEVEN_BITS.false) (omega arith) (omega arith) c.from-b.ensures c.if-b-eq0.true

pub returns-then-b-lt-SEVEN_BITS : goal.returns-then-b-lt-SEVEN_BITS
returns-then-b-lt-SEVEN_BITS c = last-as (first-at c.args.file.now c.args.at c.if-file-at.false c.from-a.ensures c.if-a-lt-SEVEN_BITS.false) (omega arith) (omega arith) c.from-b.ensures refl (omega arith) c.if-b-lt-SEVEN_BITS.true c.if-b-eq0.false

pub returns-then-c-eq0 : goal.returns-then-c-eq0
returns-then-c-eq0 c = zero_last (second-at c.args.file.now c.args.at c.if-file-at.false c.from-a.ensures c.if-a-lt-SEVEN_BITS.false (omega arith) c.from-b.ensures c.if-b-lt-SEVEN_BITS.false) (omega arith) (omega arith) c.from-c.ensures c.if-c-eq0.true

pub returns-then-c-lt-SEVEN_BITS : goal.returns-then-c-lt-SEVEN_BITS
returns-then-c-lt-SEVEN_BITS c = last-as (second-at c.args.file.now c.args.at c.if-file-at.false c.from-a.ensures c.if-a-lt-SEVEN_BITS.false (omega arith) c.from-b.ensures c.if-b-lt-SEVEN_BITS.false) (omega arith) (omega arith) c.from-c.ensures refl (omega arith) c.if-c-lt-SEVEN_BITS.true c.if-c-eq0.false

pub returns : goal.returns
returns c = more-at c.args.file.now c.args.at c.if-file-at.false c.from-a.ensures c.if-a-lt-SEVEN_BITS.false c.read_more-2.ensures

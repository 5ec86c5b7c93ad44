-- `known_number` meets its contract, byte after byte. Assumes nothing.
use native.Mathlib.Omega.{arith}
use Rattle.message.proofs.KnownSteps.{has-first, one, has-second, two, has-third, three, has-fourth, four}
use Rattle.message.proofs.number.known_number.Goals as goal

pub bounds-file-at : goal.bounds-file-at
bounds-file-at c = omega (arith, has-first c.args.file.now c.args.at c.type_inv.file c.requires)

pub overflow_add-result : goal.overflow_add-result
overflow_add-result c = omega (arith, has-first c.args.file.now c.args.at c.type_inv.file c.requires)

pub returns-then-a-lt-SEVEN_BITS : goal.returns-then-a-lt-SEVEN_BITS
returns-then-a-lt-SEVEN_BITS c = one c.args.file.now c.args.at c.type_inv.file c.requires c.from-a.ensures c.if-a-lt-SEVEN_BITS.true

pub overflow_add-at : goal.overflow_add-at
overflow_add-at c = omega (arith, has-second c.args.file.now c.args.at c.type_inv.file c.requires c.from-a.ensures c.if-a-lt-SEVEN_BITS.false)

pub bounds-file-at-2 : goal.bounds-file-at-2
bounds-file-at-2 c = omega (arith, has-second c.args.file.now c.args.at c.type_inv.file c.requires c.from-a.ensures c.if-a-lt-SEVEN_BITS.false)

pub overflow_add-result-then-b-lt-SEVEN_BITS-2 : goal.overflow_add-result-then-b-lt-SEVEN_BITS-2
overflow_add-result-then-b-lt-SEVEN_BITS-2 c = omega (arith, has-second c.args.file.now c.args.at c.type_inv.file c.requires c.from-a.ensures c.if-a-lt-SEVEN_BITS.false)

pub returns-then-b-lt-SEVEN_BITS : goal.returns-then-b-lt-SEVEN_BITS
returns-then-b-lt-SEVEN_BITS c = two c.args.file.now c.args.at c.type_inv.file c.requires c.from-a.ensures c.if-a-lt-SEVEN_BITS.false c.from-b.ensures c.if-b-lt-SEVEN_BITS.true

pub overflow_add-at-2 : goal.overflow_add-at-2
overflow_add-at-2 c = omega (arith, has-third c.args.file.now c.args.at c.type_inv.file c.requires c.from-a.ensures c.if-a-lt-SEVEN_BITS.false c.from-b.ensures c.if-b-lt-SEVEN_BITS.false)

pub bounds-file-at-3 : goal.bounds-file-at-3
bounds-file-at-3 c = omega (arith, has-third c.args.file.now c.args.at c.type_inv.file c.requires c.from-a.ensures c.if-a-lt-SEVEN_BITS.false c.from-b.ensures c.if-b-lt-SEVEN_BITS.false)

pub overflow_add-result-then-c-lt-SEVEN_BITS-4 : goal.overflow_add-result-then-c-lt-SEVEN_BITS-4
overflow_add-result-then-c-lt-SEVEN_BITS-4 c = omega (arith, has-third c.args.file.now c.args.at c.type_inv.file c.requires c.from-a.ensures c.if-a-lt-SEVEN_BITS.false c.from-b.ensures c.if-b-lt-SEVEN_BITS.false)

pub returns-then-c-lt-SEVEN_BITS : goal.returns-then-c-lt-SEVEN_BITS
returns-then-c-lt-SEVEN_BITS c = three c.args.file.now c.args.at c.type_inv.file c.requires c.from-a.ensures c.if-a-lt-SEVEN_BITS.false c.from-b.ensures c.if-b-lt-SEVEN_BITS.false c.from-c.ensures c.if-c-lt-SEVEN_BITS.true

pub overflow_add-at-3 : goal.overflow_add-at-3
overflow_add-at-3 c = omega (arith, has-fourth c.args.file.now c.args.at c.type_inv.file c.requires c.from-a.ensures c.if-a-lt-SEVEN_BITS.false c.from-b.ensures c.if-b-lt-SEVEN_BITS.false c.from-c.ensures c.if-c-lt-SEVEN_BITS.false)

pub bounds-file-at-4 : goal.bounds-file-at-4
bounds-file-at-4 c = omega (arith, has-fourth c.args.file.now c.args.at c.type_inv.file c.requires c.from-a.ensures c.if-a-lt-SEVEN_BITS.false c.from-b.ensures c.if-b-lt-SEVEN_BITS.false c.from-c.ensures c.if-c-lt-SEVEN_BITS.false)

pub overflow_add-result-then-d-lt-SEVEN_BITS-6 : goal.overflow_add-result-then-d-lt-SEVEN_BITS-6
overflow_add-result-then-d-lt-SEVEN_BITS-6 c = omega (arith, has-fourth c.args.file.now c.args.at c.type_inv.file c.requires c.from-a.ensures c.if-a-lt-SEVEN_BITS.false c.from-b.ensures c.if-b-lt-SEVEN_BITS.false c.from-c.ensures c.if-c-lt-SEVEN_BITS.false)

pub returns-then-d-lt-SEVEN_BITS : goal.returns-then-d-lt-SEVEN_BITS
returns-then-d-lt-SEVEN_BITS c = four c.args.file.now c.args.at c.type_inv.file c.requires c.from-a.ensures c.if-a-lt-SEVEN_BITS.false c.from-b.ensures c.if-b-lt-SEVEN_BITS.false c.from-c.ensures c.if-c-lt-SEVEN_BITS.false c.from-d.ensures c.if-d-lt-SEVEN_BITS.true

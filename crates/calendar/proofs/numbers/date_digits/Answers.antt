-- `date_digits` meets its contract. Assumes nothing.
use Rattle.std.proofs.Common.{arith}
use Rattle.calendar.proofs.Back.{its-date}
use Rattle.calendar.proofs.numbers.date_digits.Goals as goal

pub overflow_mul-result : goal.overflow_mul-result
overflow_mul-result c = omega (arith, its-date _ _ _ _ c.date_for.ensures c.in-Some.is)

pub overflow_mul-result-in-Some : goal.overflow_mul-result-in-Some
overflow_mul-result-in-Some c = omega (arith, its-date _ _ _ _ c.date_for.ensures c.in-Some.is)

pub overflow_add-result : goal.overflow_add-result
overflow_add-result c = omega (arith, its-date _ _ _ _ c.date_for.ensures c.in-Some.is)

pub overflow_add-result-in-Some : goal.overflow_add-result-in-Some
overflow_add-result-in-Some c = omega (arith, its-date _ _ _ _ c.date_for.ensures c.in-Some.is)

-- `row_start` meets its contract. Assumes nothing.
use native.Mathlib.Omega.{arith}
use Rattle.book.proofs.Places.{row-within}
use borrow.Author.Rules.{rules}
use Rattle.book.proofs.place.row_start.Goals as goal

pub overflow_mul-result-2 : goal.overflow_mul-result-2
overflow_mul-result-2 c = omega (arith, row-within c.args.q c.args.run c.args.k (search rules) (search rules) (search rules))

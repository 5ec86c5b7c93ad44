-- What the drivers of the row adder give.
use Rattle.std.specs.Prelude.{cond, List, ℕ, eqb, length}
use Rattle.book.specs.declared.Way.TheVariants.{In, Out}
use Rattle.book.specs.Row.{zip, changed}

-- the series in the row, where the lengths are equal
unfoldable pub added : (row series : List ℕ) → List ℕ
added row series = cond (eqb (length series) (length row)) (zip (changed In) row series) row

-- the old series out and the new one in, where the lengths are equal
unfoldable pub replaced : (row old new : List ℕ) → List ℕ
replaced row old new =
    cond (eqb (length old) (length row))
    (cond (eqb (length new) (length row)) (zip (changed In) (zip (changed Out) row old) new) row)
    row

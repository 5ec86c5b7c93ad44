-- The sum of a row of the book over the month.
use Rattle.std.specs.Prelude.{ℕ, zero, suc, ◌+◌, ◌-◌, ◌≤◌, ◌<◌, ◌≡◌, Bool, cond, ◌&&◌, List, ltb, ℤ, ◌-ℤ◌, get_or}
use Rattle.quantity.specs.Limits.{runs, run_rows, quarters_ok, run_ok}
use Rattle.quantity.specs.Sum.{sum_to}
use Rattle.quantity.specs.Word.{signed, plus, minus}
use Rattle.book.specs.Place.{row_start}
use Rattle.model.specs.Call.{Told}
use Rattle.model.specs.Plain.{opening_of, figure}

-- the sum of n figures from `start` on; what lies past the book counts as 0. "sums wrap at 64 bits"
unfoldable pub sum_from : (book : List ℕ) (start n : ℕ) → ℕ
sum_from s at zero = 0
sum_from s at (suc n) = plus (sum_from s at n) (get_or s (at + n) 0)

-- a row that a book of Q quarter hours has
abbrev pub row_ok : (quarters run row : ℕ) → Bool
row_ok q r k = quarters_ok q && (run_ok r && ltb k run_rows)

-- the sum of a run's row over the month, 0 where there is no such row
abbrev pub month_of : (book : List ℕ) (quarters run row : ℕ) → ℕ
month_of s q r k = cond (row_ok q r k) (sum_from s (row_start q r k) q) 0

-- run 2's sum less run 1's
abbrev pub difference_of : (book : List ℕ) (quarters row : ℕ) → ℕ
difference_of s q k = minus (month_of s q 2 k) (month_of s q 1 k)

-- the month of the plain desk with its list h of accepted calls: the exact sum of its figures of a run's row
abbrev pub plain_month : (h : List Told) (run row : ℕ) → ℤ
plain_month h run row = sum_to (opening_of h).quarters (λ (n : ℕ). figure h run row (n - 1))

-- sums and differences over a book, read as signed numbers, are exact: the plain desk's months, and run 2's less run 1's
pub record Exact (h : List Told) (book : List ℕ) : Type 0 where
  pub sum : (run row : ℕ) → 1 ≤ run → run ≤ runs → row < run_rows → signed (month_of book (opening_of h).quarters run row) ≡ plain_month h run row
  pub difference : (row : ℕ) → row < run_rows → signed (difference_of book (opening_of h).quarters row) ≡ plain_month h 2 row -ℤ plain_month h 1 row

-- Laws of places: a row ends within the book, and two rows never overlap, for any run and Q. Assumes nothing.
use Prim.Native.Nat.{ℕ, ◌+◌, ◌*◌, ◌≤◌, ◌<◌}
use mathlib.Core.Path.{◌≡◌}
use mathlib.Core.Logic.{◌⊎◌, inl, inr}
use native.Mathlib.Decide.{dec_lt}
use native.Mathlib.Nat.{mul-le-mul_right, suc-mul}
use native.Mathlib.Omega.{arith}
use Rattle.quantity.specs.Limits.{runs, run_rows, book_rows}
use Rattle.book.specs.Place.{book_row, row_start}

-- a row that the book has is one of its 162
pub row-below : (run k : ℕ) → 1 ≤ run → run ≤ runs → k < run_rows → book_row run k < book_rows
row-below run k low high h = omega arith

-- a row before another ends where that begins, or sooner
pub row-before : (a b q : ℕ) → a < b → a * q + q ≤ b * q
row-before a b q h = omega (arith, mul-le-mul_right q h, suc-mul a q)

-- a row ends within the book
pub row-within : (q run k : ℕ) → 1 ≤ run → run ≤ runs → k < run_rows → row_start q run k + q ≤ book_rows * q
row-within q run k low high h = row-before (book_row run k) book_rows q (row-below run k low high h)

-- two different rows are at different places
row-differs : (run k run' k' : ℕ) → 1 ≤ run → run ≤ runs → 1 ≤ run' → run' ≤ runs → k < run_rows → k' < run_rows → book_row run k ≡ book_row run' k' → (run ≡ run') × (k ≡ k')
row-differs run k run' k' low high low' high' h h' e = (omega arith, omega arith)

-- two different rows never overlap: one ends before the other begins
module _ (q run k run' k' : ℕ) (low : 1 ≤ run) (high : run ≤ runs) (low' : 1 ≤ run') (high' : run' ≤ runs) (h : k < run_rows) (h' : k' < run_rows) where
  pub rows-apart : ((run ≡ run') × (k ≡ k') → ⊥) → (row_start q run k + q ≤ row_start q run' k') ⊎ (row_start q run' k' + q ≤ row_start q run k)
  rows-apart ne = by (dec_lt (book_row run k) (book_row run' k')) (dec_lt (book_row run' k') (book_row run k))
    where
      by : Dec (book_row run k < book_row run' k') → Dec (book_row run' k' < book_row run k)
          → (row_start q run k + q ≤ row_start q run' k') ⊎ (row_start q run' k' + q ≤ row_start q run k)
      by (yes l) t = inl (row-before (book_row run k) (book_row run' k') q l)
      by (no g) (yes l) = inr (row-before (book_row run' k') (book_row run k) q l)
      by (no g) (no l) = absurd (ne (row-differs run k run' k' low high low' high' h h' (omega arith)))

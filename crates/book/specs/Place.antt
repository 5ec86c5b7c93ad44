-- "Book: run r, row k, quarter q at index ((r-1) × 81 + k) × Q + q-1. Rows 0..63 are groups 1..64, row 64 delta T, rows 65..80 areas 1..16."
use Rattle.std.specs.Prelude.{ℕ, ◌+◌, ◌-◌, ◌*◌, ◌≤◌, ◌<◌}
use Rattle.quantity.specs.Limits.{groups, runs, run_rows, most_quarters}

-- "Rows 0..63 are groups 1..64"
abbrev pub group_row : (group : ℕ) → ℕ
group_row g = g - 1

-- "row 64 delta T, rows 65..80 areas 1..16": T is 0 here
abbrev pub delta_row : (area : ℕ) → ℕ
delta_row a = groups + a

-- the rows of both runs, counted on
abbrev pub book_row : (run k : ℕ) → ℕ
book_row r k = (r - 1) * run_rows + k

-- where the row begins
abbrev pub row_start : (quarters run k : ℕ) → ℕ
row_start q r k = book_row r k * q

-- the index of the figure
abbrev pub figure_at : (quarters run k quarter : ℕ) → ℕ
figure_at q r k n = row_start q r k + (n - 1)

-- a row that the book has
pub record IsRow (run k quarters : ℕ) : Type 0 where
  pub low : 1 ≤ run
  pub high : run ≤ runs
  pub row : k < run_rows
  pub few : quarters ≤ most_quarters

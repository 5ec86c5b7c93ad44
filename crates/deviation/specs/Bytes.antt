-- The report from a book and schedules as bytes, eight to a number, lowest first, two's complement: 3 for a number outside its range, else 2 for a
-- book or schedules of another length, else 0; and "both sums over the month in watt-hours .., both 0 when refused."
use Rattle.std.specs.Prelude.{Bool, cond, ◌&&◌, List, ℕ, ◌+◌, ◌*◌, eqb, length}
use Rattle.quantity.specs.Limits.{quarters_ok, run_ok, group_ok}
use Rattle.book.specs.Bytes.{bytes_at}
use Rattle.book.specs.Place.{group_row, row_start}
use Rattle.deviation.specs.Deviation.{over_sum}
use Rattle.deviation.specs.Place.{schedule_start}

-- Q, run and group, each within its range
abbrev pub report_ok : (quarters run group : ℕ) → Bool
report_ok q r g = quarters_ok q && (run_ok r && group_ok g)

-- "a store of 64 × Q numbers", and a book of 162 × Q figures: their lengths in bytes
abbrev pub lengths_ok : (book schedules quarters : ℕ) → Bool
lengths_ok b s q = eqb b (1296 * q) && eqb s (512 * q)

-- 3 for a number outside its range, else 2 for another length than 1,296 × Q and 512 × Q, else 0
unfoldable pub report_refusal : (book schedules quarters run group : ℕ) → ℕ
report_refusal b s q r g = cond (report_ok q r g) (cond (lengths_ok b s q) 0 2) 3

-- the k-th figure of a run's row of a group
abbrev pub figure_bytes : (book : List ℕ) (quarters run group : ℕ) → ℕ → ℕ
figure_bytes b q r g k = bytes_at b (8 * (row_start q r (group_row g) + k))

-- the k-th energy of a group's schedule
abbrev pub schedule_bytes : (schedules : List ℕ) (quarters group : ℕ) → ℕ → ℕ
schedule_bytes s q g k = bytes_at s (8 * (schedule_start q g + k))

-- "both sums over the month in watt-hours .., both 0 when refused": the surplus
unfoldable pub surplus_in : (book schedules : List ℕ) (quarters run group : ℕ) → ℕ
surplus_in b s q r g =
    cond (eqb (report_refusal (length b) (length s) q r g) 0) (over_sum (schedule_bytes s q g) (figure_bytes b q r g) q) 0

-- and the shortfall
unfoldable pub shortfall_in : (book schedules : List ℕ) (quarters run group : ℕ) → ℕ
shortfall_in b s q r g =
    cond (eqb (report_refusal (length b) (length s) q r g) 0) (over_sum (figure_bytes b q r g) (schedule_bytes s q g) q) 0

-- "A report of run and group gives both sums over the month in watt-hours".
use Rattle.std.specs.Prelude.{ℕ, ◌*◌, ◌≤◌, ◌≡◌, List}
use Rattle.quantity.specs.Limits.{most_quarters, runs, groups, book_rows, schedule_rows}
use Rattle.book.specs.Place.{group_row, row_start}
use Rattle.deviation.specs.Deviation.{over_sum}
use Rattle.deviation.specs.Place.{schedule_start, word_from}

-- a group's surplus over the month, from the two stores; a word
unfoldable pub month_surplus : (schedules book : List ℕ) (quarters run group : ℕ) → ℕ
month_surplus s b q r g = over_sum (word_from s (schedule_start q g)) (word_from b (row_start q r (group_row g))) q

-- its shortfall over the month
unfoldable pub month_shortfall : (schedules book : List ℕ) (quarters run group : ℕ) → ℕ
month_shortfall s b q r g = over_sum (word_from b (row_start q r (group_row g))) (word_from s (schedule_start q g)) q

-- a run and a group of a month, with stores of its lengths
pub record Reported (schedules book quarters run group : ℕ) : Type 0 where
  pub few : quarters ≤ most_quarters
  pub run_low : 1 ≤ run
  pub run_high : run ≤ runs
  pub group_low : 1 ≤ group
  pub group_high : group ≤ groups
  pub planned : schedules ≡ schedule_rows * quarters
  pub booked : book ≡ book_rows * quarters

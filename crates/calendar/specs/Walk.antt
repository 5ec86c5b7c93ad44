-- What the way back finds on its way: the month that reaches a count, and the day in it.
use Rattle.std.specs.Prelude.{ℕ, ◌+◌, ◌-◌, ◌≤◌, ◌<◌, ◌≡◌, Option, Some, None}
use Rattle.quantity.specs.Meaning.{Between}
use Rattle.workdays.specs.declared.Month.{Month}
use Rattle.workdays.specs.declared.Date.{Date}
use Rattle.workdays.specs.Date.{months, length_of, month_of}
use Rattle.workdays.specs.Count.{worked, before}

-- the last month from a place on with fewer working days before it than a count
pub record MonthWith (start count found : ℕ) : Type 0 where
  pub from : start ≤ found
  pub inside : found < months
  pub low : before found < count
  pub high : found + 1 < months → count ≤ before (found + 1)

-- a month's day of which so many working days are the first up to it; none where the month has fewer
abbrev pub DayWith : Month → (count : ℕ) → Option Date → Type 0
DayWith m k (Some d) =
    (month_of d ≡ m) × (Between 1 (length_of m) d.day × ((worked m d.day ≡ k) × (worked m (d.day - 1) < k)))
DayWith m k None = worked m (length_of m) < k

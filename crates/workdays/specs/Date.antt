-- Months and dates of the years 2020 to 2059.
use Rattle.std.specs.Prelude.{ℕ, zero, suc, ◌+◌, ◌*◌, ◌-◌, ◌/◌, ◌%◌, Bool, cond, not, ◌&&◌, ◌||◌, eqb}
use Rattle.quantity.specs.Limits.{within}
use Rattle.quantity.specs.Meaning.{Between}
use Rattle.workdays.specs.declared.Month.{Month}
use Rattle.workdays.specs.declared.Date.{Date}

-- "a constant table for the years 2020 to 2059": for each month an entry
abbrev pub months : ℕ
months = 480

-- "the years 2020 to 2059"
abbrev pub year_ok : (year : ℕ) → Bool
year_ok y = within 2020 2059 y

-- the Gregorian rule: every fourth year, of the full centuries every fourth
unfoldable pub leap : (year : ℕ) → Bool
leap y = eqb (y % 4) 0 && (not (eqb (y % 100) 0) || eqb (y % 400) 0)

-- 1 day more in a leap year
abbrev pub leap_day : (year : ℕ) → ℕ
leap_day y = cond (leap y) 1 0

-- April, June, September, November have 30 days, February 28 or 29, the others 31
unfoldable pub days_in : (year month : ℕ) → ℕ
days_in y m = cond (eqb m 2) (28 + leap_day y) (cond (eqb m 4 || (eqb m 6 || (eqb m 9 || eqb m 11))) 30 31)

-- "a settled month .. that does not exist or lies outside those years" is none of these
abbrev pub month_ok : Month → Bool
month_ok m = year_ok m.year && within 1 12 m.month

-- the same in numbers
abbrev pub IsMonth : Month → Type 0
IsMonth m = Between 2020 2059 m.year × Between 1 12 m.month

-- a month of its numbers; there may be no such month
abbrev pub month_named : (year month : ℕ) → Month
month_named y m = record { year = y; month = m }

-- a date of its numbers; there may be no such date
abbrev pub date_named : (year month day : ℕ) → Date
date_named y m d = record { year = y; month = m; day = d }

-- a date's month
abbrev pub month_of : Date → Month
month_of d = record { year = d.year; month = d.month }

-- a month's days
abbrev pub length_of : Month → ℕ
length_of m = days_in m.year m.month

-- "a date that does not exist or lies outside those years" is none of these
abbrev pub date_ok : Date → Bool
date_ok d = month_ok (month_of d) && within 1 (length_of (month_of d)) d.day

-- the same in numbers
abbrev pub IsDate : Date → Type 0
IsDate d = IsMonth (month_of d) × Between 1 (length_of (month_of d)) d.day

-- a day of a month
abbrev pub day_in : Month → ℕ → Date
day_in m n = record { year = m.year; month = m.month; day = n }

-- the month's last day
abbrev pub last_of : Month → Date
last_of m = day_in m (length_of m)

-- the month's place in the table: January 2020 has 0
abbrev pub index_of : Month → ℕ
index_of m = (m.year - 2020) * 12 + (m.month - 1)

-- the month at a place of the table
abbrev pub month_at : ℕ → Month
month_at i = record { year = 2020 + i / 12; month = 1 + i % 12 }

-- a date's digits, 20261112 for 12 November 2026: a later date has the larger number
abbrev pub digits_of : Date → ℕ
digits_of d = d.year * 10000 + d.month * 100 + d.day

-- month and day alone, 1112 for 12 November
abbrev pub month_day : Date → ℕ
month_day d = d.month * 100 + d.day

-- the days of the first months of a year
unfoldable pub days_of : (year months : ℕ) → ℕ
days_of y zero = 0
days_of y (suc k) = days_of y k + days_in y (suc k)

-- a date's place in its year: 1 January has 1
abbrev pub day_of_year : Date → ℕ
day_of_year d = days_of d.year (d.month - 1) + d.day

-- the days from 1 January 2020 up to the year's first day: 365 a year, and one for each leap year, 2020 and every fourth after it
abbrev pub days_before : (year : ℕ) → ℕ
days_before y = 365 * (y - 2020) + (y - 2017) / 4

-- Monday is 1, Sunday 7, and 1 January 2020 was a Wednesday; by a year and the place in it
unfoldable pub weekday : (year place : ℕ) → ℕ
weekday y n = 1 + (days_before y + n + 1) % 7

-- Dates, Easter and the rule in other words.
use Rattle.std.specs.Prelude.{ℕ, zero, suc, ◌+◌, ◌/◌, ◌%◌, ◌≤◌, ◌<◌, ◌≡◌, false, cond, List, [], ◌∷◌, ltb}
use Rattle.workdays.specs.declared.Month.{Month}
use Rattle.workdays.specs.declared.Date.{Date}
use Rattle.workdays.specs.Date.{leap_day, days_in, IsMonth, IsDate, month_named, date_named, month_of, length_of, day_in, last_of, index_of, digits_of, day_of_year, weekday}
use Rattle.workdays.specs.Rule.{easter_day, working}
use Rattle.workdays.specs.Count.{before, number_of}

-- the first day of the month after
abbrev pub first_after : Month → Date
first_after m = cond (ltb m.month 12) (date_named m.year (m.month + 1) 1) (date_named (m.year + 1) 1 1)

-- the day after
abbrev pub next_day : Date → Date
next_day d = cond (ltb d.day (length_of (month_of d))) (date_named d.year d.month (d.day + 1)) (first_after (month_of d))

-- a date's weekday
abbrev pub weekday_of : Date → ℕ
weekday_of d = weekday d.year (day_of_year d)

-- of a list's elements, each with its number, counted from this one on
abbrev pub EachFrom : (number : ℕ) → List ℕ → (ℕ → ℕ → Type 0) → Type 0
EachFrom i [] P = Unit {0}
EachFrom i (n ∷ l) P = P i n × EachFrom (suc i) l P

-- 2020, 2024 .. 2056 have a day more
abbrev pub leap_days : List ℕ
leap_days =
    1 ∷ 0 ∷ 0 ∷ 0 ∷ 1 ∷ 0 ∷ 0 ∷ 0 ∷ 1 ∷ 0 ∷ 0 ∷ 0 ∷ 1 ∷ 0 ∷ 0 ∷ 0 ∷ 1 ∷ 0 ∷ 0 ∷ 0 ∷ 1 ∷ 0 ∷ 0 ∷ 0 ∷ 1 ∷ 0 ∷ 0 ∷ 0 ∷ 1 ∷ 0 ∷ 0 ∷ 0 ∷ 1 ∷ 0 ∷ 0 ∷ 0 ∷ 1 ∷ 0 ∷ 0 ∷ 0 ∷ []

-- Easter Sunday of each year, month and day: 12 April 2020, 4 April 2021 .. 25 April 2038, 18 April 2049, 30 March 2059
abbrev pub easter_dates : List ℕ
easter_dates =
    412 ∷ 404 ∷ 417 ∷ 409 ∷ 331 ∷ 420 ∷ 405 ∷ 328 ∷ 416 ∷ 401 ∷ 421 ∷ 413 ∷ 328 ∷ 417 ∷ 409 ∷ 325 ∷ 413 ∷ 405 ∷ 425 ∷ 410 ∷ 401 ∷ 421 ∷ 406 ∷ 329 ∷ 417 ∷ 409 ∷ 325 ∷ 414 ∷ 405 ∷ 418 ∷ 410 ∷ 402 ∷ 421 ∷ 406 ∷ 329 ∷ 418 ∷ 402 ∷ 422 ∷ 414 ∷ 330 ∷ []

-- the definitions of dates and Easter, judged in numbers
pub record Reckoned : Type 0 where
  -- "1 January 2020" was a Wednesday, and each day has the weekday behind that of the day before
  pub first_weekday : weekday_of (date_named 2020 1 1) ≡ 3
  pub next_weekday : (d : Date) → IsDate d → (next_day d).year ≤ 2059 → weekday_of (next_day d) ≡ weekday_of d % 7 + 1
  -- a date's place in its year: 1 January has 1, each day one more than the day before, 31 December 365 or 366
  pub first_place : (y : ℕ) → day_of_year (date_named y 1 1) ≡ 1
  pub next_place : (d : Date) → IsDate d → (next_day d).year ≡ d.year → day_of_year (next_day d) ≡ day_of_year d + 1
  pub last_place : (y : ℕ) → day_of_year (date_named y 12 31) ≡ 365 + leap_day y
  -- the digits of the day after are the larger number
  pub next_digits : (d : Date) → IsDate d → digits_of d < digits_of (next_day d)
  -- how long months are
  pub leap_years : EachFrom 2020 leap_days (λ (y n : ℕ). leap_day y ≡ n)
  pub lengths : (y : ℕ) → EachFrom 1 (31 ∷ (28 + leap_day y) ∷ 31 ∷ 30 ∷ 31 ∷ 30 ∷ 31 ∷ 31 ∷ 30 ∷ 31 ∷ 30 ∷ 31 ∷ []) (λ (m n : ℕ). days_in y m ≡ n)
  -- "Easter by the Gregorian rule"
  pub easters : EachFrom 2020 easter_dates (λ (y n : ℕ). easter_day y ≡ day_of_year (date_named y (n / 100) (n % 100)))

-- on this day of this month
abbrev pub On : (month day : ℕ) → Date → Type 0
On m n d = (d.month ≡ m) × (d.day ≡ n)

-- so many days behind Easter Sunday
abbrev pub BehindEaster : (days : ℕ) → Date → Type 0
BehindEaster n d = day_of_year d ≡ easter_day d.year + n

-- the paper's list, a case for each of its days
pub data Listed (d : Date) : Type 0 where
  -- "Saturdays, Sundays, 24 and 31 December"
  saturday : weekday_of d ≡ 6 → Listed d
  sunday : weekday_of d ≡ 7 → Listed d
  christmas-eve : On 12 24 d → Listed d
  new-years-eve : On 12 31 d → Listed d
  -- "1 and 6 January, 8 March, Good Friday, Easter Monday, 1 May"
  new-year : On 1 1 d → Listed d
  epiphany : On 1 6 d → Listed d
  womens-day : On 3 8 d → Listed d
  good-friday : day_of_year d + 2 ≡ easter_day d.year → Listed d
  easter-monday : BehindEaster 1 d → Listed d
  labour-day : On 5 1 d → Listed d
  -- "Easter + 39, + 50 and + 60 days"
  ascension : BehindEaster 39 d → Listed d
  whit-monday : BehindEaster 50 d → Listed d
  corpus-christi : BehindEaster 60 d → Listed d
  -- "15 August, 20 September, 3 and 31 October, 1 November"
  assumption : On 8 15 d → Listed d
  childrens-day : On 9 20 d → Listed d
  unity-day : On 10 3 d → Listed d
  reformation-day : On 10 31 d → Listed d
  all-saints : On 11 1 d → Listed d
  -- "the last Wednesday before 23 November": a Wednesday before it, with no other in between
  repentance-day : weekday_of d ≡ 3 → d.month ≡ 11 → d.day < 23 → 23 ≤ d.day + 7 → Listed d
  -- "25 and 26 December, and in 2020 and 2025 also 8 May"
  christmas-day : On 12 25 d → Listed d
  second-day : On 12 26 d → Listed d
  may_2020 : d.year ≡ 2020 → On 5 8 d → Listed d
  may_2025 : d.year ≡ 2025 → On 5 8 d → Listed d

-- what is not a working day: the paper's list, no day less and no day more
pub record DaysOff : Type 0 where
  -- each day of the list, in whatever year
  pub off : (d : Date) → Listed d → working d ≡ false
  -- and no other date of those years
  pub only : (d : Date) → IsDate d → working d ≡ false → Listed d

-- so many days behind the month's last one
unfoldable pub after : Month → ℕ → Date
after m zero = last_of m
after m (suc k) = next_day (after m k)

-- how many of them are working days, day by day
unfoldable pub working_after : Month → ℕ → ℕ
working_after m zero = 0
working_after m (suc k) = working_after m k + cond (working (after m (suc k))) 1 0

-- the count of working days, for any settled month
pub record Counting (m : Month) : Type 0 where
  -- "A date's number counts the working days after the settled month up to and including it", day by day, however many they are
  pub numbers : (k : ℕ) → IsMonth m → (after m k).year ≤ 2059 → number_of m (after m k) ≡ working_after m k
  -- every date of those years from the month's last day on is such a day
  pub reaches : (d : Date) → IsMonth m → IsDate d → digits_of (last_of m) ≤ digits_of d → (k : ℕ) × (after m k ≡ d)
  -- "for each month the number of working days before its first day, counted from 1 January 2020", which lies behind December 2019
  pub table : (k : ℕ) → IsMonth m → after (month_named 2019 12) (suc k) ≡ day_in m 1 → before (index_of m) ≡ working_after (month_named 2019 12) k

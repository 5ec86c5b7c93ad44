-- What a date's number and a number's date are, in other words.
use Rattle.std.specs.Prelude.{ℕ, ◌+◌, ◌*◌, ◌%◌, ◌≤◌, ◌<◌, ◌≡◌, ◌⊎◌, Option, Some, None}
use Rattle.quantity.specs.Meaning.{Between}
use Rattle.workdays.specs.declared.Month.{Month}
use Rattle.workdays.specs.declared.Date.{Date}
use Rattle.workdays.specs.Date.{IsMonth, IsDate, date_named, last_of, digits_of}
use Rattle.workdays.specs.Laws.{next_day, after, working_after}
use Rattle.workdays.specs.Count.{number_of}
use Rattle.calendar.specs.Answer.{number, day_for, FirstWith, day_refusal, day_number, date_refusal, date_digits, OfFirst, weekday_for}

-- the last day of those years
abbrev pub last_date : Date
last_date = date_named 2059 12 31

-- what a date's number and a number's date are, for any settled month
pub record Answers (m : Month) : Type 0 where
  -- "A date's number counts the working days after the settled month up to and including it", day by day
  pub counts : (k : ℕ) → IsMonth m → (after m k).year ≤ 2059 → working_after m k ≤ 400 → day_for m (after m k) ≡ number (working_after m k)
  -- a later date never has a smaller number
  pub rises : (d e : Date) (a b : ℕ) → digits_of d ≤ digits_of e → day_for m d ≡ number a → day_for m e ≡ number b → a ≤ b
  -- number, date, number: the same
  pub back : (n : ℕ) (d : Date) → FirstWith m n (Some d) → day_for m d ≡ number n
  -- there is one answer
  pub only : (n : ℕ) (a b : Option Date) → FirstWith m n a → FirstWith m n b → a ≡ b
  -- "for 0 the month's last day"
  pub zero_last : IsMonth m → FirstWith m 0 (Some (last_of m))
  -- any numbers get an answer of the table: 36, or a number up to 400; 36, or a date of those years
  pub day_range : (d : Date) → Between 0 400 (day_number (day_for m d)) × ((day_refusal (day_for m d) ≡ 0) ⊎ (day_refusal (day_for m d) ≡ 36))
  pub date_range : (n r s : ℕ) → OfFirst date_digits m n r → OfFirst date_refusal m n s → (Between 20200101 20591231 r × (s ≡ 0)) ⊎ ((r ≡ 0) × (s ≡ 36))
  -- "36 for a settled month or a date that does not exist or lies outside those years, for a date before the settled month's last day, and for a number, .. worked out, above 400"
  pub no_day : (d : Date) → (IsMonth m → IsDate d → digits_of (last_of m) ≤ digits_of d → 400 < number_of m d) → day_for m d ≡ None
  pub only_no_day : (d : Date) → day_for m d ≡ None → IsMonth m → IsDate d → digits_of (last_of m) ≤ digits_of d → 400 < number_of m d
  -- 36 for "a number, given .., above 400 or whose date would lie outside those years"
  pub no_date : (n : ℕ) → (IsMonth m → n ≤ 400 → number_of m last_date < n) → FirstWith m n None
  pub only_no_date : (n : ℕ) → FirstWith m n None → IsMonth m → n ≤ 400 → number_of m last_date < n

-- the first of those days up to which so many are working days
pub record FirstDay (m : Month) (working k : ℕ) : Type 0 where
  pub inside : (after m k).year ≤ 2059
  pub counted : working_after m k ≡ working
  pub first : (j : ℕ) → j < k → working_after m j < working

-- the answers as numbers, for any settled month: a refusal, and beside it a day number or a date
pub record AsNumbers (m : Month) : Type 0 where
  -- "36 for a settled month or a date that does not exist or lies outside those years, for a date before the settled month's last day, and for a number, .. worked out, above 400"
  pub no_day : (d : Date) → (IsMonth m → IsDate d → digits_of (last_of m) ≤ digits_of d → 400 < number_of m d) → (day_refusal (day_for m d) ≡ 36) × (day_number (day_for m d) ≡ 0)
  -- otherwise 0, and the number is the count
  pub day : (d : Date) → IsMonth m → IsDate d → digits_of (last_of m) ≤ digits_of d → number_of m d ≤ 400 → (day_refusal (day_for m d) ≡ 0) × (day_number (day_for m d) ≡ number_of m d)
  -- 36 for "a settled month .. that does not exist or lies outside those years", for "a number, given .., above 400 or whose date would lie outside those years"
  pub no_date : (n r s : ℕ) → OfFirst date_refusal m n r → OfFirst date_digits m n s → (IsMonth m → n ≤ 400 → number_of m last_date < n) → (r ≡ 36) × (s ≡ 0)
  -- otherwise 0, and "the first date with that number", by year, month and day
  pub date : (n r s : ℕ) → OfFirst date_refusal m n r → OfFirst date_digits m n s → IsMonth m → n ≤ 400 → n ≤ number_of m last_date → (r ≡ 0) × ((k : ℕ) × (FirstDay m n k × (s ≡ (after m k).year * 10000 + (after m k).month * 100 + (after m k).day)))

-- weekdays as numbers
pub record Weekdays : Type 0 where
  -- 0 of what is no date of those years, and of no other
  pub none : (d : Date) → (IsDate d → ⊥) → weekday_for d ≡ 0
  pub named : (d : Date) → IsDate d → Between 1 7 (weekday_for d)
  -- Monday is 1: 1 January 2020 was a Wednesday, and each day has the weekday behind that of the day before
  pub first : weekday_for (date_named 2020 1 1) ≡ 3
  pub next : (d : Date) → IsDate d → (next_day d).year ≤ 2059 → weekday_for (next_day d) ≡ weekday_for d % 7 + 1

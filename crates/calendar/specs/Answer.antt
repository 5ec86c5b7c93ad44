-- The answers: a date's day number, a number's date, or 36.
use Rattle.std.specs.Prelude.{ℕ, ◌≤◌, ◌≡◌, Bool, cond, ◌&&◌, leb, Option, Some, None}
use Rattle.quantity.specs.Limits.{day_ok}
use Rattle.quantity.specs.declared.Day.{Day}
use Rattle.workdays.specs.declared.Month.{Month}
use Rattle.workdays.specs.declared.Date.{Date}
use Rattle.workdays.specs.Date.{month_ok, date_ok, last_of, digits_of, day_of_year, weekday}
use Rattle.workdays.specs.Count.{number_of}

-- "Answers: 36"
abbrev pub no_date : ℕ
no_date = 36

-- a date that counts for the settled month: both "exist" and lie in "those years", and the date is not "before the settled month's last day"
abbrev pub counts : Month → Date → Bool
counts m d = month_ok m && (date_ok d && leb (digits_of (last_of m)) (digits_of d))

-- a day number, "its own case of the answer"
abbrev pub number : ℕ → Option Day
number n = Some (record { 0 = n })

-- a date's day number; 36 also "for a number, .. worked out, above 400"
unfoldable pub day_for : (settled : Month) → Date → Option Day
day_for m d = cond (counts m d && day_ok (number_of m d)) (number (number_of m d)) None

-- "the way back gives the first date with that number"; 36 where no date has it
abbrev pub FirstWith : (settled : Month) (number : ℕ) → Option Date → Type 0
FirstWith m n (Some d) = (day_for m d ≡ number n) × ((e : Date) → day_for m e ≡ number n → digits_of d ≤ digits_of e)
FirstWith m n None = (e : Date) → day_for m e ≡ number n → ⊥

-- the answers as numbers, for a host: one entry gives the refusal, 0 where there is none
abbrev pub refusal_of : {A : Type 0} → Option A → ℕ
refusal_of (Some a) = 0
refusal_of None = no_date

abbrev pub day_refusal : Option Day → ℕ
day_refusal a = refusal_of a

-- another the number, 0 where it is refused
abbrev pub day_number : Option Day → ℕ
day_number (Some n) = n.0
day_number None = 0

-- the same of a date
abbrev pub date_refusal : Option Date → ℕ
date_refusal a = refusal_of a

-- the date, 20261112 for 12 November 2026, and 0 where it is refused
abbrev pub date_digits : Option Date → ℕ
date_digits (Some d) = digits_of d
date_digits None = 0

-- such a number of the first date with a day number
abbrev pub OfFirst : (Option Date → ℕ) → (settled : Month) (number : ℕ) → ℕ → Type 0
OfFirst f m n r = (a : Option Date) × (FirstWith m n a × (r ≡ f a))

-- Monday is 1, Sunday 7; 0 of what is no date of those years
abbrev pub weekday_for : Date → ℕ
weekday_for d = cond (date_ok d) (weekday d.year (day_of_year d)) 0

-- Working days counted.
use Rattle.std.specs.Prelude.{ℕ, zero, suc, ◌+◌, ◌-◌, ◌<◌, ◌≡◌, Bool, cond, List, get_or}
use Rattle.workdays.specs.declared.Month.{Month}
use Rattle.workdays.specs.declared.Date.{Date}
use Rattle.workdays.specs.Date.{months, length_of, month_of, day_in, last_of, index_of, month_at}
use Rattle.workdays.specs.Rule.{working}

-- 1 for a working day
abbrev pub one : Bool → ℕ
one b = cond b 1 0

-- the working days among the first days of a month
unfoldable pub worked : Month → (days : ℕ) → ℕ
worked m zero = 0
worked m (suc n) = worked m n + one (working (day_in m (suc n)))

-- "for each month the number of working days before its first day, counted from 1 January 2020"
unfoldable pub before : (index : ℕ) → ℕ
before zero = 0
before (suc i) = before i + worked (month_at i) (length_of (month_at i))

-- the working days from 1 January 2020 up to and including a date
abbrev pub up_to : Date → ℕ
up_to d = before (index_of (month_of d)) + worked (month_of d) d.day

-- "A date's number counts the working days after the settled month up to and including it"
abbrev pub number_of : (settled : Month) → Date → ℕ
number_of m d = up_to d - up_to (last_of m)

-- "for each month the number of working days before its first day": an entry a month
abbrev pub TableOf : List ℕ → Type 0
TableOf l = (i : ℕ) → i < months → get_or l i 0 ≡ before i

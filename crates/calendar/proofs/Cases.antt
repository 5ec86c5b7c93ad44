-- The cases, computed. Assumes nothing.
use mathlib.Core.Path.{◌≡◌, refl}
use Prim.Native.Nat.{ℕ, ◌+◌}
use mathlib.Core.Bool.{true}
use borrow.Author.Tests.{eqb-true, leb-true}
use lib.Dec.{eqb, leb}
use Rattle.std.specs.Prelude.{None}
use Rattle.workdays.specs.declared.Month.{Month}
use Rattle.workdays.specs.declared.Date.{Date}
use native.Mathlib.Omega.{arith}
use Rattle.workdays.specs.Date.{leap, days_in, days_of, weekday, month_named, date_named, month_of, index_of, month_ok, date_ok}
use Rattle.workdays.specs.Rule.{full_moon, easter_day, off}
use Rattle.workdays.specs.Count.{worked, before}
use Rattle.calendar.specs.Answer.{number, day_for, FirstWith}
use Rattle.calendar.specs.Laws.{last_date}
use Rattle.calendar.specs.Cases.{Cases}
use Rattle.calendar.proofs.Days.{day-known, last-zero, month-behind}
use Rattle.workdays.proofs.Lengths.{means-month, means-date}
use Rattle.calendar.proofs.Theorems.{answers}

-- The answers computed by the rule, without the table.
by-count : (m : Month) (d : Date) (n : ℕ) → month_ok m ≡ true → date_ok d ≡ true → eqb (index_of (month_of d)) (index_of m + 1) ≡ true → leb n 400 ≡ true → worked (month_of d) d.day ≡ n → day_for m d ≡ number n
by-count m d n p q e s w =
    month-behind m d ((means-month m).holds p) ((means-date d).holds q) (eqb-true (index_of (month_of d)) (index_of m + 1) e) n w (leb-true n 400 s)

end-day : day_for (month_named 2059 11) last_date ≡ number 19
unfolding worked off easter_day full_moon weekday days_of days_in leap
end-day = by-count _ _ 19 refl refl refl refl refl

none : FirstWith (month_named 2059 11) 20 None
none = (answers (month_named 2059 11)).no_date 20 (λ _ _. omega (arith, (day-known (month_named 2059 11) last_date 19 end-day).counted))

pub cases : Cases
unfolding day_for before worked off easter_day full_moon weekday days_of days_in leap
cases =
    record {
      last_day = last-zero (month_named 2022 10) ((means-month (month_named 2022 10)).holds refl);
      day_before = refl;
      friday = by-count (month_named 2020 11) (date_named 2020 12 4) 4 refl refl refl refl refl;
      saturday = by-count (month_named 2020 11) (date_named 2020 12 5) 4 refl refl refl refl refl;
      year_end = by-count (month_named 2020 11) (date_named 2020 12 30) 20 refl refl refl refl refl;
      year_behind = refl;
      most = refl;
      beyond = refl;
      too_early = refl;
      no_february = refl;
      no_month = refl;
      end = end-day;
      none_left = none;
    }

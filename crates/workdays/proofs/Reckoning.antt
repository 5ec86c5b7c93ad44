-- The definitions of dates and Easter, judged. Assumes nothing.
use Rattle.std.proofs.lemmas.Grind.{common_steps}
use Prim.Native.Nat.{ℕ, suc, ◌+◌, ◌-◌, ◌/◌, ◌%◌, ◌<◌, ◌≤◌}
use mathlib.Core.Path.{◌≡◌, refl, ap, ◌∙◌}
use mathlib.Core.Bool.{Bool, true, ◌&&◌}
use mathlib.Core.List.{List, [], ◌∷◌}
use native.Mathlib.Omega.{arith}
use borrow.Author.Tests.{eqb-true}
use lib.Dec.{eqb}
use Rattle.quantity.specs.Meaning.{Between}
use Rattle.quantity.proofs.Tests.{and-left, and-right}
use Rattle.workdays.specs.declared.Date.{Date}
use Rattle.workdays.specs.Date.{leap, leap_day, days_in, days_of, IsDate, month_of, length_of, date_named, digits_of, days_before, day_of_year, weekday}
use Rattle.workdays.specs.Rule.{easter_day, full_moon}
use Rattle.workdays.specs.Laws.{Reckoned, next_day, weekday_of, EachFrom, leap_days, easter_dates}
use Rattle.workdays.proofs.Lengths.{month-length, days-more}

-- a day more in a year
weekday-on : (y p : ℕ) → weekday y (p + 1) ≡ weekday y p % 7 + 1
unfolding weekday
weekday-on y p = omega arith

-- a law of each year, by one test that is computed year by year
tested : (f : ℕ → ℕ) (g : ℕ → ℕ → ℕ) → ℕ → List ℕ → Bool
tested f g y [] = true
tested f g y (n ∷ l) = eqb (f y) (g y n) && tested f g (suc y) l

each-equal : (f : ℕ → ℕ) (g : ℕ → ℕ → ℕ) (y : ℕ) (l : List ℕ) → tested f g y l ≡ true → EachFrom y l (λ (y n : ℕ). f y ≡ g y n)
unfolding tested
each-equal f g y [] e = tt
each-equal f g y (n ∷ l) e =
    (eqb-true (f y) (g y n) (and-left _ (tested f g (suc y) l) e), each-equal f g (suc y) l (and-right (eqb (f y) (g y n)) _ e))

-- from a year's first day to the next one's
year-days : (y : ℕ) → Between 2020 2059 y → days_before (y + 1) ≡ days_before y + 365 + leap_day y
unfolding leap
year-days y h = grind (arith, common_steps)

weekday-year : (y p : ℕ) → Between 2020 2059 y → p ≡ 365 + leap_day y → weekday (y + 1) 1 ≡ weekday y p % 7 + 1
unfolding weekday
weekday-year y p h e = omega (arith, year-days y h)

last_place : (y : ℕ) → day_of_year (date_named y 12 31) ≡ 365 + leap_day y
unfolding days_of days_in
last_place y = omega arith

december : (y : ℕ) → days_in y 12 ≡ 31
unfolding days_in
december y = refl

-- what holds of a day that follows another: inside a month, behind its end, behind a year's end
module _ (P : Date → Type 0) (d : Date) (q : IsDate d) where
  pub at-next : (d.day < length_of (month_of d) → P (date_named d.year d.month (d.day + 1))) → (d.day ≡ length_of (month_of d) → d.month < 12 → P (date_named d.year (d.month + 1) 1)) → (d.day ≡ length_of (month_of d) → d.month ≡ 12 → P (date_named (d.year + 1) 1 1)) → P (next_day d)
  at-next inside month year = grind (arith, common_steps)

module _ (d : Date) (q : IsDate d) where
  -- the place in the year, a day on
  later-place : day_of_year (date_named d.year d.month (d.day + 1)) ≡ day_of_year d + 1
  later-place = omega arith

  month-place : d.day ≡ length_of (month_of d) → day_of_year (date_named d.year (d.month + 1) 1) ≡ day_of_year d + 1
  month-place l =
      let m : d.month - 1 + 1 ≡ d.month = omega (arith, q) in
      let n : d.month - 1 + 1 ≡ d.month + 1 - 1 = omega (arith, q) in
      let a : days_of d.year (d.month - 1 + 1) ≡ days_of d.year (d.month + 1 - 1) = ap (days_of d.year) n in
      let b : days_in d.year (d.month - 1 + 1) ≡ days_in d.year d.month = ap (days_in d.year) m in
      omega (arith, days-more d.year (d.month - 1))

  next_place : (next_day d).year ≡ d.year → day_of_year (next_day d) ≡ day_of_year d + 1
  next_place =
      at-next (λ (k : Date). k.year ≡ d.year → day_of_year k ≡ day_of_year d + 1) d q
      (λ _ _. later-place)
      (λ l _ _. month-place l)
      (λ _ _ y. absurd (omega arith))

  -- the weekday, a day on
  next-year : d.day ≡ length_of (month_of d) → d.month ≡ 12 → weekday_of (date_named (d.year + 1) 1 1) ≡ weekday_of d % 7 + 1
  unfolding days_of
  next-year l t =
      let n : d.month - 1 ≡ 11 = omega arith in
      let a : days_of d.year (d.month - 1) ≡ days_of d.year 11 = ap (days_of d.year) n in
      let b : length_of (month_of d) ≡ days_in d.year 12 = ap (days_in d.year) t in
      weekday-year d.year (day_of_year d) q.0.0 (omega (arith, last_place d.year, december d.year))

  next_weekday : weekday_of (next_day d) ≡ weekday_of d % 7 + 1
  next_weekday =
      at-next (λ (k : Date). weekday_of k ≡ weekday_of d % 7 + 1) d q
      (λ _. ap (weekday d.year) later-place ∙ weekday-on d.year (day_of_year d))
      (λ l _. ap (weekday d.year) (month-place l) ∙ weekday-on d.year (day_of_year d))
      next-year

  next_digits : digits_of d < digits_of (next_day d)
  next_digits =
      let s : d.day ≤ 31 = omega (arith, month-length d.year d.month, q) in
      at-next (λ (k : Date). digits_of d < digits_of k) d q
      (λ _. omega arith)
      (λ _ _. omega arith)
      (λ _ _. omega arith)

pub reckoned : Reckoned
unfolding weekday days_of days_in leap easter_day full_moon tested
reckoned =
    record {
      first_weekday = refl;
      next_weekday = λ d q h. next_weekday d q;
      first_place = λ y. refl;
      next_place = next_place;
      last_place = last_place;
      next_digits = next_digits;
      leap_years = each-equal leap_day (λ (y n : ℕ). n) 2020 leap_days refl;
      lengths = λ y. (refl, (refl, (refl, (refl, (refl, (refl, (refl, (refl, (refl, (refl, (refl, (refl, tt))))))))))));
      easters = each-equal easter_day (λ (y n : ℕ). day_of_year (date_named y (n / 100) (n % 100))) 2020 easter_dates refl;
    }

-- The paper's list of days off, line by line. Assumes nothing.
use Rattle.std.proofs.lemmas.Grind.{common_steps}
use Rattle.std.proofs.lemmas.Grind.{common_steps}
use Prim.Native.Nat.{ℕ, ◌+◌, ◌*◌, ◌≤◌, ◌<◌}
use mathlib.Core.Path.{◌≡◌, refl, ap, sym, ◌∙◌}
use mathlib.Core.Bool.{Bool, true, false, not, ◌||◌}
use mathlib.Core.Logic.{◌⊎◌, inl, inr}
use native.Mathlib.Nat.{eq-or-lt_of_le}
use native.Mathlib.Omega.{arith}
use borrow.Author.Tests.{eq-eqb, eqb-true, le-leb, leb-true, not-false}
use lib.Dec.{eqb, leb}
use Rattle.quantity.proofs.Tests.{and-left, and-right, and-both}
use Rattle.quantity.specs.Meaning.{Between}
use Rattle.workdays.specs.declared.Date.{Date}
use Rattle.workdays.specs.Date.{weekday, day_of_year, month_day, IsDate}
use Rattle.workdays.specs.Rule.{weekend, off, fixed_off, easter_day, easter_off, wednesday_off, once_off, working}
use Rattle.workdays.specs.Laws.{DaysOff, On, Listed, weekday_of}
use Rattle.workdays.specs.Laws.Listed.{saturday, sunday, christmas-eve, new-years-eve, new-year, epiphany, womens-day, good-friday, easter-monday, labour-day, ascension, whit-monday, corpus-christi, assumption, childrens-day, unity-day, reformation-day, all-saints, repentance-day, christmas-day, second-day, may_2020, may_2025}
use Rattle.workdays.proofs.Lengths.{month-length, means-within}

-- a day off, by one of the rule's five lines
module _ (y n p : ℕ) where
  by-weekday : 6 ≤ weekday y p → not (off y n p) ≡ false
  unfolding off
  by-weekday h = grind (arith, common_steps)

  by-date : fixed_off n ≡ true → not (off y n p) ≡ false
  unfolding off
  by-date h = grind (arith, common_steps)

  by-easter : easter_off (easter_day y) p ≡ true → not (off y n p) ≡ false
  unfolding off
  by-easter h = grind (arith, common_steps)

  by-wednesday : wednesday_off (weekday y p) n ≡ true → not (off y n p) ≡ false
  unfolding off
  by-wednesday h = grind (arith, common_steps)

  by-year : once_off y n ≡ true → not (off y n p) ≡ false
  unfolding off
  by-year h = grind (arith, common_steps)

-- one of the five days of Easter
module _ (e p : ℕ) where
  on-friday : p + 2 ≡ e → easter_off e p ≡ true
  on-friday h = grind (arith, common_steps)

  on-monday : p ≡ e + 1 → easter_off e p ≡ true
  on-monday h = grind (arith, common_steps)

  thirty-nine : p ≡ e + 39 → easter_off e p ≡ true
  thirty-nine h = grind (arith, common_steps)

  fifty : p ≡ e + 50 → easter_off e p ≡ true
  fifty h = grind (arith, common_steps)

  sixty : p ≡ e + 60 → easter_off e p ≡ true
  sixty h = grind (arith, common_steps)

-- the month and day of a date, as one number
module _ (d : Date) where
  by-day : {m n : ℕ} → On m n d → fixed_off (m * 100 + n) ≡ true → working d ≡ false
  by-day {m} {n} h e = let s : m * 100 + n ≡ month_day d = omega arith in by-date d.year (month_day d) (day_of_year d) (ap fixed_off (sym s) ∙ e)

  in-may : {y : ℕ} → d.year ≡ y → On 5 8 d → once_off y 508 ≡ true → working d ≡ false
  in-may {y} s h e =
      let n : month_day d ≡ 508 = omega arith in
      by-year d.year (month_day d) (day_of_year d) (simp (s, n) e)

  each-off : Listed d → working d ≡ false
  each-off (saturday e) = by-weekday d.year (month_day d) (day_of_year d) (omega arith)
  each-off (sunday e) = by-weekday d.year (month_day d) (day_of_year d) (omega arith)
  each-off (christmas-eve h) = by-day h refl
  each-off (new-years-eve h) = by-day h refl
  each-off (new-year h) = by-day h refl
  each-off (epiphany h) = by-day h refl
  each-off (womens-day h) = by-day h refl
  each-off (good-friday e) = by-easter d.year (month_day d) (day_of_year d) (on-friday (easter_day d.year) (day_of_year d) e)
  each-off (easter-monday e) = by-easter d.year (month_day d) (day_of_year d) (on-monday (easter_day d.year) (day_of_year d) e)
  each-off (labour-day h) = by-day h refl
  each-off (ascension e) = by-easter d.year (month_day d) (day_of_year d) (thirty-nine (easter_day d.year) (day_of_year d) e)
  each-off (whit-monday e) = by-easter d.year (month_day d) (day_of_year d) (fifty (easter_day d.year) (day_of_year d) e)
  each-off (corpus-christi e) = by-easter d.year (month_day d) (day_of_year d) (sixty (easter_day d.year) (day_of_year d) e)
  each-off (assumption h) = by-day h refl
  each-off (childrens-day h) = by-day h refl
  each-off (unity-day h) = by-day h refl
  each-off (reformation-day h) = by-day h refl
  each-off (all-saints h) = by-day h refl
  each-off (repentance-day w m h l) =
      by-wednesday d.year (month_day d) (day_of_year d)
      (and-both (eqb (weekday_of d) 3) _ (eq-eqb (weekday_of d) 3 w) (and-both (leb 1116 (month_day d)) _ (le-leb 1116 (month_day d) (omega arith)) (le-leb (month_day d) 1122 (omega arith))))
  each-off (christmas-day h) = by-day h refl
  each-off (second-day h) = by-day h refl
  each-off (may_2020 y h) = in-may y h refl
  each-off (may_2025 y h) = in-may y h refl

-- Monday is 1, Sunday 7
pub week : (y p : ℕ) → Between 1 7 (weekday y p)
unfolding weekday
week y p = (omega arith, omega arith)

-- one of two tests that hold
either : {P : Type 0} (a b : Bool) → (a || b) ≡ true → (a ≡ true → P) → (b ≡ true → P) → P
either true b e f g = f refl
either false b e f g = g e

-- what each line of the rule lets off is on the list
module _ (d : Date) (q : IsDate d) where
  short : d.day ≤ 31
  short = omega (arith, month-length d.year d.month, q)

  only-weekend : weekend (weekday_of d) ≡ true → Listed d
  only-weekend h = by (eq-or-lt_of_le w)
    where
      w : 6 ≤ weekday_of d
      w = omega (arith, leb-true)

      by : (6 ≡ weekday_of d) ⊎ (6 < weekday_of d) → Listed d
      by (inl e) = saturday (sym e)
      by (inr l) = sunday (omega (arith, week d.year (day_of_year d)))

  on-day : {m n : ℕ} → eqb (month_day d) (m * 100 + n) ≡ true → leb n 99 ≡ true → On m n d
  on-day {m} {n} e s =
      let t : month_day d ≡ m * 100 + n = eqb-true _ _ e in
      let l : n ≤ 99 = leb-true _ _ s in
      (omega (arith, short), omega (arith, short))

  only-dates : fixed_off (month_day d) ≡ true → Listed d
  only-dates h =
      either (eqb (month_day d) 1224) _ h (λ e. christmas-eve (on-day e refl))
      (λ h. either (eqb (month_day d) 1231) _ h (λ e. new-years-eve (on-day e refl))
      (λ h. either (eqb (month_day d) 101) _ h (λ e. new-year (on-day e refl))
      (λ h. either (eqb (month_day d) 106) _ h (λ e. epiphany (on-day e refl))
      (λ h. either (eqb (month_day d) 308) _ h (λ e. womens-day (on-day e refl))
      (λ h. either (eqb (month_day d) 501) _ h (λ e. labour-day (on-day e refl))
      (λ h. either (eqb (month_day d) 815) _ h (λ e. assumption (on-day e refl))
      (λ h. either (eqb (month_day d) 920) _ h (λ e. childrens-day (on-day e refl))
      (λ h. either (eqb (month_day d) 1003) _ h (λ e. unity-day (on-day e refl))
      (λ h. either (eqb (month_day d) 1031) _ h (λ e. reformation-day (on-day e refl))
      (λ h. either (eqb (month_day d) 1101) _ h (λ e. all-saints (on-day e refl))
      (λ h. either (eqb (month_day d) 1225) _ h (λ e. christmas-day (on-day e refl))
      (λ e. second-day (on-day e refl)))))))))))))

  only-easter : easter_off (easter_day d.year) (day_of_year d) ≡ true → Listed d
  only-easter h = grind (arith, common_steps)

  only-wednesday : wednesday_off (weekday_of d) (month_day d) ≡ true → Listed d
  only-wednesday h =
      let w : weekday_of d ≡ 3 = eqb-true _ _ (and-left (eqb (weekday_of d) 3) _ h) in
      let n : Between 1116 1122 (month_day d) = (means-within 1116 1122 (month_day d)).holds (and-right (eqb (weekday_of d) 3) _ h) in
      let s = short in
      repentance-day w (omega arith) (omega arith) (omega arith)

  only-may : once_off d.year (month_day d) ≡ true → Listed d
  only-may h =
      let on : On 5 8 d = on-day (and-left (eqb (month_day d) 508) _ h) refl in
      either (eqb d.year 2020) _ (and-right (eqb (month_day d) 508) _ h)
      (λ e. may_2020 (eqb-true _ _ e) on)
      (λ e. may_2025 (eqb-true _ _ e) on)

  only-listed : working d ≡ false → Listed d
  unfolding off
  only-listed h =
      either _ _ (not-false _ h) only-weekend
      (λ h. either _ _ h only-dates (λ h. either _ _ h only-easter (λ h. either _ _ h only-wednesday only-may)))

pub days-off : DaysOff
days-off = record { off = each-off; only = only-listed }

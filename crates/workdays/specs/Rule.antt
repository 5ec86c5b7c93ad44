-- The rule: which days are working days. "Saturdays, Sundays, 24 and 31 December and every public holiday of any federal state are not working days".
use Rattle.std.specs.Prelude.{ℕ, ◌+◌, ◌*◌, ◌-◌, ◌%◌, Bool, cond, not, ◌&&◌, ◌||◌, eqb, leb, ltb}
use Rattle.quantity.specs.Limits.{within}
use Rattle.workdays.specs.declared.Date.{Date}
use Rattle.workdays.specs.Date.{leap_day, month_day, day_of_year, weekday}

-- behind the eleventh year of the cycle of 19 years, counted from 0
abbrev pub late : (cycle : ℕ) → Bool
late a = ltb 10 a

-- days from 21 March to the full moon, with their exceptions: 29 becomes 28, and 28 becomes 27 late in the cycle
abbrev pub exceptions : (cycle days : ℕ) → ℕ
exceptions a d = cond (eqb d 29) 28 (cond (eqb d 28 && late a) 27 d)

-- the full moon of spring in the years 1900 to 2199, in days from 21 March
unfoldable pub full_moon : (year : ℕ) → ℕ
full_moon y = exceptions (y % 19) ((19 * (y % 19) + 24) % 30)

-- "Easter by the Gregorian rule": the Sunday after the full moon, as its place in the year; 21 March has 80 or 81
unfoldable pub easter_day : (year : ℕ) → ℕ
easter_day y = moon + (7 - weekday y moon % 7) where
  moon : ℕ
  moon = 80 + leap_day y + full_moon y

-- "Saturdays, Sundays"
abbrev pub weekend : (weekday : ℕ) → Bool
weekend w = leb 6 w

-- "24 and 31 December"; "1 and 6 January, 8 March, .. 1 May, .. 15 August, 20 September, 3 and 31 October, 1 November, .. 25 and 26 December"
abbrev pub fixed_off : (month_day : ℕ) → Bool
fixed_off n =
    eqb n 1224
    || (eqb n 1231
    || (eqb n 101
    || (eqb n 106
    || (eqb n 308
    || (eqb n 501
    || (eqb n 815
    || (eqb n 920
    || (eqb n 1003
    || (eqb n 1031
    || (eqb n 1101
    || (eqb n 1225
    || eqb n 1226)))))))))))

-- "Good Friday, Easter Monday, .. Easter + 39, + 50 and + 60 days", by places in the year
abbrev pub easter_off : (easter place : ℕ) → Bool
easter_off e n = eqb (n + 2) e || (eqb n (e + 1) || (eqb n (e + 39) || (eqb n (e + 50) || eqb n (e + 60))))

-- "the last Wednesday before 23 November": the one from 16 to 22 November
abbrev pub wednesday_off : (weekday month_day : ℕ) → Bool
wednesday_off w n = eqb w 3 && within 1116 1122 n

-- "in 2020 and 2025 also 8 May"
abbrev pub once_off : (year month_day : ℕ) → Bool
once_off y n = eqb n 508 && (eqb y 2020 || eqb y 2025)

-- not a working day: one of the paper's list, by year, month and day, and the place in the year
unfoldable pub off : (year month_day place : ℕ) → Bool
off y n p =
    weekend (weekday y p)
    || (fixed_off n || (easter_off (easter_day y) p || (wednesday_off (weekday y p) n || once_off y n)))

-- a working day is every other date
abbrev pub working : Date → Bool
working d = not (off d.year (month_day d) (day_of_year d))

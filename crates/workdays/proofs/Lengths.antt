-- How long months are, in numbers; the days of a year in front of a month. Assumes nothing.
use Rattle.std.proofs.lemmas.Grind.{common_steps}
use Rattle.std.proofs.lemmas.Grind.{common_steps}
use Prim.Native.Nat.{ℕ, zero, suc, ◌+◌, ◌*◌, ◌≤◌, ◌<◌}
use mathlib.Core.Path.{◌≡◌}
use native.Mathlib.Omega.{arith}
use Rattle.quantity.specs.Meaning.{Means, Between}
use Rattle.quantity.specs.Limits.{within}
use Rattle.workdays.specs.declared.Month.{Month}
use Rattle.workdays.specs.declared.Date.{Date}
use Rattle.workdays.specs.Date.{days_in, days_of, month_ok, IsMonth, date_ok, IsDate}
use Rattle.workdays.specs.Rule.{full_moon}

pub means-within : (low high n : ℕ) → Means (within low high n) (Between low high n)
means-within low high n = grind (arith, common_steps)

pub means-month : (m : Month) → Means (month_ok m) (IsMonth m)
means-month m = grind (arith, common_steps)

pub means-date : (d : Date) → Means (date_ok d) (IsDate d)
means-date d = grind (arith, common_steps)

pub month-length : (y m : ℕ) → Between 28 31 (days_in y m)
unfolding days_in
month-length y m = grind (arith, common_steps)

pub days-more : (y k : ℕ) → days_of y (k + 1) ≡ days_of y k + days_in y (k + 1)
unfolding days_of
days-more y k = grind (arith, common_steps)

pub days-most : (y k : ℕ) → days_of y k ≤ 31 * k
unfolding days_of
days-most y zero = omega arith
days-most y (suc k) = omega (arith, days-most y k, month-length y (suc k))

-- the full moon lies at most 28 days behind 21 March
pub moon-days : (y : ℕ) → full_moon y < 29
unfolding full_moon
moon-days y = grind (arith, common_steps)

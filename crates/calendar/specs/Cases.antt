-- Cases that tell readings of the rule apart, in its own numbers.
use Rattle.std.specs.Prelude.{◌≡◌, None}
use Rattle.workdays.specs.Date.{month_named, date_named}
use Rattle.calendar.specs.Answer.{number, day_for, FirstWith}

-- dates with their numbers, or 36
pub record Cases : Type 0 where
  -- "for a date before the settled month's last day": 31 October 2022 is 0, the day before it is 36
  pub last_day : day_for (month_named 2022 10) (date_named 2022 10 31) ≡ number 0
  pub day_before : day_for (month_named 2022 10) (date_named 2022 10 30) ≡ None
  -- "up to and including it": a Saturday has the number of the Friday before it
  pub friday : day_for (month_named 2020 11) (date_named 2020 12 4) ≡ number 4
  pub saturday : day_for (month_named 2020 11) (date_named 2020 12 5) ≡ number 4
  -- "24 and 31 December": the last working day of 2020 is the 30th
  pub year_end : day_for (month_named 2020 11) (date_named 2020 12 30) ≡ number 20
  pub year_behind : day_for (month_named 2020 11) (date_named 2021 1 3) ≡ number 20
  -- "above 400"
  pub most : day_for (month_named 2020 1) (date_named 2021 9 9) ≡ number 400
  pub beyond : day_for (month_named 2020 1) (date_named 2021 9 10) ≡ None
  -- "a settled month .. outside those years", although the days after it stand in the table
  pub too_early : day_for (month_named 2019 12) (date_named 2020 1 2) ≡ None
  -- "does not exist"
  pub no_february : day_for (month_named 2021 1) (date_named 2021 2 29) ≡ None
  pub no_month : day_for (month_named 2021 13) (date_named 2021 2 1) ≡ None
  -- "whose date would lie outside those years": behind November 2059 there are 19
  pub end : day_for (month_named 2059 11) (date_named 2059 12 31) ≡ number 19
  pub none_left : FirstWith (month_named 2059 11) 20 None

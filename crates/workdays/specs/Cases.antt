-- Cases that tell readings of the rule apart, in its own numbers.
use Rattle.std.specs.Prelude.{◌≡◌, true, false}
use Rattle.workdays.specs.Date.{date_named}
use Rattle.workdays.specs.Rule.{working}

-- days that are off, and days that are not
pub record Cases : Type 0 where
  -- "the last Wednesday before 23 November": in 2022 the 16th, in 2023 the 22nd
  pub sixteenth : working (date_named 2022 11 16) ≡ false
  pub twenty_third : working (date_named 2022 11 23) ≡ true
  pub twenty_second : working (date_named 2023 11 22) ≡ false
  pub fifteenth : working (date_named 2023 11 15) ≡ true
  -- "1 and 6 January": 2 January 2020 was a Thursday
  pub second : working (date_named 2020 1 2) ≡ true
  -- "in 2020 and 2025 also 8 May"; 8 August is not on the list
  pub may_2020 : working (date_named 2020 5 8) ≡ false
  pub may_2025 : working (date_named 2025 5 8) ≡ false
  pub may_2023 : working (date_named 2023 5 8) ≡ true
  pub may_2045 : working (date_named 2045 5 8) ≡ true
  pub august : working (date_named 2022 8 8) ≡ true
  -- "Easter + 39, + 50 and + 60 days" of 2049, whose Easter is 18 April: 27 May, 7 June, 17 June; "Good Friday, Easter Monday"
  pub friday_2049 : working (date_named 2049 4 16) ≡ false
  pub monday_2049 : working (date_named 2049 4 19) ≡ false
  pub ascension_2049 : working (date_named 2049 5 27) ≡ false
  pub pentecost_2049 : working (date_named 2049 6 7) ≡ false
  pub corpus_2049 : working (date_named 2049 6 17) ≡ false
  pub week_later_2049 : working (date_named 2049 6 24) ≡ true

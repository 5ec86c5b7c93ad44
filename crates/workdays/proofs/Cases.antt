-- The cases, computed. Assumes nothing.
use mathlib.Core.Path.{refl}
use Rattle.workdays.specs.Date.{leap, days_in, days_of, weekday}
use Rattle.workdays.specs.Rule.{full_moon, easter_day, off}
use Rattle.workdays.specs.Cases.{Cases}

pub cases : Cases
unfolding off easter_day full_moon weekday days_of days_in leap
cases =
    record {
      sixteenth = refl;
      twenty_third = refl;
      twenty_second = refl;
      fifteenth = refl;
      second = refl;
      may_2020 = refl;
      may_2025 = refl;
      may_2023 = refl;
      may_2045 = refl;
      august = refl;
      friday_2049 = refl;
      monday_2049 = refl;
      ascension_2049 = refl;
      pentecost_2049 = refl;
      corpus_2049 = refl;
      week_later_2049 = refl;
    }

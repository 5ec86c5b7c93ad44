-- What the answers are as numbers. Assumes nothing.
use Rattle.std.proofs.lemmas.Grind.{common_steps}
use Prim.Native.Nat.{ℕ, ◌+◌, ◌*◌, ◌%◌, ◌≤◌, ◌<◌}
use mathlib.Core.Path.{◌≡◌, refl, ap, sym, subst⁻¹, ◌∙◌}
use mathlib.Core.Logic.{◌⊎◌, inl, inr}
use native.Mathlib.Nat.{eq-or-lt_of_le}
use native.Mathlib.Omega.{arith}
use Rattle.std.specs.Prelude.{Option, Some, None}
use Rattle.quantity.specs.Meaning.{Between}
use Rattle.workdays.specs.declared.Month.{Month}
use Rattle.workdays.specs.declared.Date.{Date}
use Rattle.workdays.specs.Date.{leap, days_in, days_of, IsMonth, IsDate, last_of, digits_of, day_of_year, weekday}
use Rattle.workdays.specs.Count.{up_to, number_of}
use Rattle.workdays.specs.Laws.{next_day, weekday_of, after, working_after}
use Rattle.calendar.specs.Answer.{number, day_for, FirstWith, day_refusal, day_number, date_refusal, date_digits, OfFirst, weekday_for}
use Rattle.calendar.specs.Laws.{AsNumbers, FirstDay, Weekdays, last_date}
use Rattle.workdays.proofs.Counts.{later, last-date}
use Rattle.workdays.proofs.Listed.{week}
use Rattle.workdays.proofs.Reckoning.{reckoned}
use Rattle.calendar.proofs.Days.{Counted, day-known, day-given}
use Rattle.workdays.proofs.Walking.{walked, reaches, earlier, follows}
use Rattle.calendar.proofs.Theorems.{walked-number, one-answer, refused, no-first, only-no-first}

module _ (m : Month) where
  no-day-told : (d : Date) → (IsMonth m → IsDate d → digits_of (last_of m) ≤ digits_of d → 400 < number_of m d) → (day_refusal (day_for m d) ≡ 36) × (day_number (day_for m d) ≡ 0)
  no-day-told d f = let e = refused m d f in (ap day_refusal e, ap day_number e)

  day-told : (d : Date) → IsMonth m → IsDate d → digits_of (last_of m) ≤ digits_of d → number_of m d ≤ 400 → (day_refusal (day_for m d) ≡ 0) × (day_number (day_for m d) ≡ number_of m d)
  day-told d p q h s = (ap day_refusal e, ap day_number e)
    where
      e : day_for m d ≡ number (number_of m d)
      e =
          day-given m d (number_of m d)
          (record { settled = p; exists = q; after = h; counted = omega (arith, later (last_of m) d (last-date m p) q h); small = s })

  -- the first date with a number, found day by day
  first-day : (n : ℕ) (d : Date) → FirstWith m n (Some d) → (k : ℕ) → after m k ≡ d → FirstDay m n k
  first-day n d f k e =
      record {
        inside = inside;
        counted = count;
        first = λ j h. fewer j (earlier m p j k h inside);
      }
    where
      c : Counted m d n
      c = day-known m d n f.0

      p : IsMonth m
      p = c.settled

      inside : (after m k).year ≤ 2059
      inside = omega (arith, ap (λ (k : Date). k.year) e, c.exists)

      count : working_after m k ≡ n
      count = omega (arith, (walked m p k inside).counted, ap up_to e, c.counted)

      -- an earlier day with this count has this number
      again : (j : ℕ) → (after m j).year ≤ 2059 → working_after m j ≡ n → digits_of (after m j) < digits_of (after m k) → ⊥
      again j y s l = omega (arith, f.1 (after m j) (walked-number m j p y (omega (arith, c.small)) ∙ ap number s), ap digits_of e)

      fewer : (j : ℕ) → ((after m j).year ≤ 2059) × ((digits_of (after m j) < digits_of (after m k)) × (working_after m j ≤ working_after m k)) → working_after m j < n
      fewer j r = by (eq-or-lt_of_le r.1.1)
        where
          by : (working_after m j ≡ working_after m k) ⊎ (working_after m j < working_after m k) → working_after m j < n
          by (inl s) = absurd (again j r.0 (s ∙ count) r.1.0)
          by (inr l) = omega (arith, count)

  date-told : (n r s : ℕ) → OfFirst date_refusal m n r → OfFirst date_digits m n s → IsMonth m → n ≤ 400 → n ≤ number_of m last_date → (r ≡ 0) × ((k : ℕ) × (FirstDay m n k × (s ≡ (after m k).year * 10000 + (after m k).month * 100 + (after m k).day)))
  date-told n r s x y p l h = by x.0 x.1.0 x.1.1 (y.1.1 ∙ ap date_digits (one-answer m n y.0 x.0 y.1.0 x.1.0))
    where
      digits : (d : Date) (k : ℕ) → after m k ≡ d → s ≡ digits_of d → s ≡ (after m k).year * 10000 + (after m k).month * 100 + (after m k).day
      digits d k e t = t ∙ ap digits_of (sym e)

      by : (a : Option Date) → FirstWith m n a → r ≡ date_refusal a → s ≡ date_digits a → (r ≡ 0) × ((k : ℕ) × (FirstDay m n k × (s ≡ (after m k).year * 10000 + (after m k).month * 100 + (after m k).day)))
      by (Some d) f e t =
          let c : Counted m d n = day-known m d n f.0 in
          let w = reaches m p d c.exists c.after in
          (e, (w.0, (first-day n d f w.0 w.1, digits d w.0 w.1 t)))
      by None f e t = absurd (omega (arith, only-no-first m n f p l))

  no-date-told : (n r s : ℕ) → OfFirst date_refusal m n r → OfFirst date_digits m n s → (IsMonth m → n ≤ 400 → number_of m last_date < n) → (r ≡ 36) × (s ≡ 0)
  no-date-told n r s x y f = (x.1.1 ∙ ap date_refusal (same x.0 x.1.0), y.1.1 ∙ ap date_digits (same y.0 y.1.0))
    where
      same : (a : Option Date) → FirstWith m n a → a ≡ None
      same a h = one-answer m n a None h (no-first m n f)

pub as-numbers : (m : Month) → AsNumbers m
as-numbers m =
    record {
      no_day = no-day-told m;
      day = day-told m;
      no_date = no-date-told m;
      date = date-told m;
    }

-- a date's weekday, and 0 of what is none
weekday-told : (d : Date) → IsDate d → weekday_for d ≡ weekday_of d
weekday-told d q = grind (arith, common_steps)

no-weekday-told : (d : Date) → (IsDate d → ⊥) → weekday_for d ≡ 0
no-weekday-told d n = grind (arith, common_steps)

next_weekday : (d : Date) → IsDate d → (next_day d).year ≤ 2059 → weekday_for (next_day d) ≡ weekday_for d % 7 + 1
next_weekday d q y =
    weekday-told (next_day d) ((follows d q).exists y) ∙ reckoned.next_weekday d q y ∙ ap (λ (n : ℕ). n % 7 + 1) (sym (weekday-told d q))

pub weekdays : Weekdays
unfolding weekday days_of days_in leap
weekdays =
    record {
      none = no-weekday-told;
      named = λ d q. subst⁻¹ (Between 1 7) (weekday-told d q) (week d.year (day_of_year d));
      first = refl;
      next = next_weekday;
    }

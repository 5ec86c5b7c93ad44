-- The years walked day by day: each day's count, and that every date is reached. Assumes nothing.
use Rattle.std.proofs.lemmas.Grind.{common_steps}
use Rattle.std.proofs.lemmas.Grind.{common_steps}
use Prim.Native.Nat.{ℕ, zero, suc, ◌+◌, ◌-◌, ◌≤◌, ◌<◌}
use mathlib.Core.Path.{◌≡◌, refl, sym, ap, ◌∙◌}
use mathlib.Core.Bool.{Bool, true, false}
use mathlib.Core.Logic.{◌⊎◌, inl, inr}
use native.Mathlib.Nat.{add-zero, add-suc, eq-or-lt_of_le}
use native.Mathlib.Omega.{arith}
use Rattle.workdays.specs.declared.Month.{Month}
use Rattle.workdays.specs.declared.Date.{Date}
use Rattle.workdays.specs.Date.{months, days_in, IsMonth, IsDate, month_named, date_named, month_of, month_at, day_in, last_of, length_of, index_of, digits_of}
use Rattle.workdays.specs.Rule.{working}
use Rattle.workdays.specs.Count.{one, worked, before, up_to, number_of}
use Rattle.workdays.specs.Laws.{next_day, first_after, after, working_after, Counting}
use Rattle.workdays.proofs.Lengths.{month-length}
use Rattle.workdays.proofs.Reckoning.{at-next}
use Rattle.workdays.proofs.Counts.{one-more, end_of, last-date, same-date, month-at, same-place, place-rises, day-rises}

-- what holds of a day that follows another
pub record Follows (d k : Date) : Type 0 where
  pub exists : k.year ≤ 2059 → IsDate k
  pub counted : k.year ≤ 2059 → up_to k ≡ up_to d + one (working k)
  pub later : digits_of d < digits_of k

module _ (d : Date) (q : IsDate d) where
  -- a month's first day, behind the last one of the month before
  first-day : (m : Month) → d.day ≡ length_of (month_of d) → IsMonth m → index_of m ≡ index_of (month_of d) + 1 → up_to (day_in m 1) ≡ up_to d + one (working (day_in m 1))
  unfolding worked
  first-day m l p e =
      let a : before (index_of m) ≡ before (index_of (month_of d) + 1) = ap before e in
      let b : worked (month_of d) d.day ≡ worked (month_of d) (length_of (month_of d)) = ap (worked (month_of d)) l in
      omega (arith, end_of (month_of d) q.0, one-more m 0)

  next-day : d.day < length_of (month_of d) → Follows d (date_named d.year d.month (d.day + 1))
  next-day h =
      record {
        exists = λ _. (q.0, (omega arith, omega arith));
        counted = λ _. omega (arith, one-more (month_of d) d.day);
        later = omega arith;
      }

  next-month : d.day ≡ length_of (month_of d) → d.month < 12 → Follows d (date_named d.year (d.month + 1) 1)
  next-month l h =
      let p : IsMonth (month_named d.year (d.month + 1)) = (q.0.0, (omega arith, omega arith)) in
      record {
        exists = λ _. (p, (omega arith, omega (arith, month-length d.year (d.month + 1))));
        counted = λ _. first-day (month_named d.year (d.month + 1)) l p (omega (arith, q));
        later = omega (arith, month-length d.year d.month);
      }

  next-year : d.day ≡ length_of (month_of d) → d.month ≡ 12 → Follows d (date_named (d.year + 1) 1 1)
  next-year l h =
      record {
        exists = λ y. (p y, (omega arith, omega (arith, month-length (d.year + 1) 1)));
        counted = λ y. first-day (month_named (d.year + 1) 1) l (p y) (omega (arith, q));
        later = omega (arith, month-length d.year d.month);
      }
    where
      p : d.year + 1 ≤ 2059 → IsMonth (month_named (d.year + 1) 1)
      p y = ((omega (arith, q), omega arith), (omega arith, omega arith))

  pub follows : Follows d (next_day d)
  follows = at-next (Follows d) d q next-day next-month next-year

pub year-rises : (d : Date) → d.year ≤ (next_day d).year
year-rises d = grind (arith, common_steps)

day_before : (d : Date) → IsDate d → (d.day - 1 < length_of (month_of d)) × (d.day - 1 + 1 ≡ d.day)
day_before d q = (omega arith, omega arith)

-- the day after, inside a month and at its end
day-on : (t : Month) (n : ℕ) → n < length_of t → next_day (day_in t n) ≡ day_in t (n + 1)
day-on t n h = grind (arith, common_steps)

month-on : (t : Month) → next_day (last_of t) ≡ first_after t
month-on t = grind (arith, common_steps)

first-after : (i : ℕ) → i + 1 < months → first_after (month_at i) ≡ day_in (month_at (i + 1)) 1
first-after i h = grind (arith, common_steps)

-- the day reached, and its count
pub record Walked (m : Month) (k : ℕ) : Type 0 where
  pub exists : IsDate (after m k)
  pub counted : up_to (after m k) ≡ up_to (last_of m) + working_after m k
  pub later : digits_of (last_of m) ≤ digits_of (after m k)

module _ (m : Month) (p : IsMonth m) where
  pub walked : (k : ℕ) → (after m k).year ≤ 2059 → Walked m k
  unfolding after working_after
  walked zero y = record { exists = last-date m p; counted = omega arith; later = omega arith }
  walked (suc k) y =
      let w : Walked m k = walked k (omega (arith, year-rises (after m k))) in
      let f : Follows (after m k) (next_day (after m k)) = follows (after m k) w.exists in
      record {
        exists = f.exists y;
        counted = omega (arith, w.counted, f.counted y);
        later = omega (arith, w.later, f.later);
      }

  numbers : (k : ℕ) → (after m k).year ≤ 2059 → number_of m (after m k) ≡ working_after m k
  numbers k y = omega (arith, (walked k y).counted)

  -- every number up to a day's count is the count of a day before it
  pub between : (n k : ℕ) → n ≤ working_after m k → (after m k).year ≤ 2059 → (j : ℕ) × ((working_after m j ≡ n) × ((after m j).year ≤ 2059))
  unfolding after working_after
  between n zero h y = (zero, (omega arith, y))
  between n (suc k) h y = by (eq-or-lt_of_le h) (λ l. between n k l (omega (arith, year-rises (after m k))))
    where
      step : (b : Bool) → one b ≤ 1
      step true = omega arith
      step false = omega arith

      by : (n ≡ working_after m (suc k)) ⊎ (n < working_after m (suc k)) → (n ≤ working_after m k → (j : ℕ) × ((working_after m j ≡ n) × ((after m j).year ≤ 2059))) → (j : ℕ) × ((working_after m j ≡ n) × ((after m j).year ≤ 2059))
      by (inl e) f = (suc k, (sym e, y))
      by (inr l) f = f (omega (arith, l, step (working (after m (suc k)))))

  -- an earlier day has the smaller digits, and no larger count
  pub earlier : (j k : ℕ) → j < k → (after m k).year ≤ 2059 → ((after m j).year ≤ 2059) × ((digits_of (after m j) < digits_of (after m k)) × (working_after m j ≤ working_after m k))
  unfolding after working_after
  earlier j zero h y = absurd (omega arith)
  earlier j (suc k) h y =
      let l : j ≤ k = omega arith in
      let z : (after m k).year ≤ 2059 = omega (arith, year-rises (after m k)) in
      by z (follows (after m k) (walked k z).exists).later (eq-or-lt_of_le l) (λ s. earlier j k s z)
    where
      by : (after m k).year ≤ 2059 → digits_of (after m k) < digits_of (next_day (after m k)) → (j ≡ k) ⊎ (j < k) → (j < k → ((after m j).year ≤ 2059) × ((digits_of (after m j) < digits_of (after m k)) × (working_after m j ≤ working_after m k))) → ((after m j).year ≤ 2059) × ((digits_of (after m j) < digits_of (next_day (after m k))) × (working_after m j ≤ working_after m (suc k)))
      by z step (inl e) f = rw e (z, (step, omega arith))
      by z step (inr s) f = let r = f s in (r.0, (omega (arith, r), omega (arith, r)))

  -- from a month's first day to any other day of it
  in-month : (k : ℕ) (t : Month) → after m k ≡ day_in t 1 → (j : ℕ) → j < length_of t → after m (k + j) ≡ day_in t (j + 1)
  unfolding after
  in-month k t e zero h = ap (after m) (add-zero k) ∙ e
  in-month k t e (suc j) h =
      ap (after m) (add-suc k j)
      ∙ ap next_day (in-month k t e j (omega arith))
      ∙ day-on t (j + 1) (omega arith)
      ∙ same-date refl refl (omega arith)

  -- the first day of each later month
  month-first : (i : ℕ) → index_of m + 1 + i < months → (k : ℕ) × (after m k ≡ day_in (month_at (index_of m + 1 + i)) 1)
  unfolding after
  month-first zero h =
      (1, ap next_day refl ∙ month-on m ∙ ap first_after (sym (month-at m p)) ∙ first-after (index_of m) (omega arith) ∙ ap (λ (n : ℕ). day_in (month_at n) 1) (omega arith))
  month-first (suc i) h =
      let r = month-first i (omega arith) in
      let t : Month = month_at (index_of m + 1 + i) in
      let l : 28 ≤ length_of t = (month-length t.year t.month).0 in
      let n : index_of m + 1 + i + 1 ≡ index_of m + 1 + suc i = omega arith in (
        suc (r.0 + (length_of t - 1)),
        ap next_day (in-month r.0 t r.1 (length_of t - 1) (omega arith) ∙ same-date refl refl (omega arith))
            ∙ month-on t
            ∙ first-after (index_of m + 1 + i) (omega arith)
            ∙ ap (λ (j : ℕ). day_in (month_at j) 1) n,
      )

  -- a date of a later month
  day-of : (d : Date) → IsDate d → (t : Month) → t ≡ month_of d → (k : ℕ) → after m k ≡ day_in t 1 → after m (k + (d.day - 1)) ≡ d
  day-of d q t s k e =
      in-month k (month_of d) (e ∙ ap (λ (n : Month). day_in n 1) s) (d.day - 1) (day_before d q).0
      ∙ same-date refl refl (day_before d q).1

  in-later : (d : Date) → IsDate d → (i : ℕ) → index_of m + 1 + i ≡ index_of (month_of d) → (k : ℕ) × (after m k ≡ d)
  in-later d q i n = by (month-first i (omega (arith, q)))
    where
      by : (k : ℕ) × (after m k ≡ day_in (month_at (index_of m + 1 + i)) 1) → (k : ℕ) × (after m k ≡ d)
      by r = (r.0 + (d.day - 1), day-of d q (month_at (index_of m + 1 + i)) (ap month_at n ∙ month-at (month_of d) q.0) r.0 r.1)

  in-same : (d : Date) → IsDate d → m ≡ month_of d → length_of m ≤ d.day → after m 0 ≡ d
  unfolding after
  in-same d q s h = grind (arith, common_steps)

  pub reaches : (d : Date) → IsDate d → digits_of (last_of m) ≤ digits_of d → (k : ℕ) × (after m k ≡ d)
  reaches d q l = by (eq-or-lt_of_le (place-rises (last_of m) d (last-date m p) q l))
    where
      gap : (a b : ℕ) → a < b → a + 1 + (b - a - 1) ≡ b
      gap a b h = omega arith

      by : (index_of m ≡ index_of (month_of d)) ⊎ (index_of m < index_of (month_of d)) → (k : ℕ) × (after m k ≡ d)
      by (inl e) = let s : m ≡ month_of d = same-place m (month_of d) p q.0 e in (0, in-same d q s (day-rises (last_of m) d s l))
      by (inr e) = in-later d q (index_of (month_of d) - index_of m - 1) (gap (index_of m) (index_of (month_of d)) e)

-- from 1 January 2020 on the days behind December 2019 are the dates of those years, and their count is that of the table
from-first : (k : ℕ) → (after (month_named 2019 12) (suc k)).year ≤ 2059 → IsDate (after (month_named 2019 12) (suc k)) × (up_to (after (month_named 2019 12) (suc k)) ≡ working_after (month_named 2019 12) (suc k))
unfolding after working_after before worked days_in
from-first zero y = ((((omega arith, omega arith), (omega arith, omega arith)), (omega arith, omega arith)), omega arith)
from-first (suc k) y =
    let w = from-first k (omega (arith, year-rises (after (month_named 2019 12) (suc k)))) in
    let f = follows (after (month_named 2019 12) (suc k)) w.0 in
    (f.exists y, omega (arith, w, f.counted y))

before-first : (m : Month) (k : ℕ) → IsMonth m → after (month_named 2019 12) (suc k) ≡ day_in m 1 → before (index_of m) ≡ working_after (month_named 2019 12) k
unfolding worked working_after
before-first m k p e =
    let y : (after (month_named 2019 12) (suc k)).year ≡ m.year = ap (λ (d : Date). d.year) e in
    let w : one (working (after (month_named 2019 12) (suc k))) ≡ one (working (day_in m 1)) = ap (λ (d : Date). one (working d)) e in
    omega (arith, (from-first k (omega (arith, p))).1, ap up_to e, one-more m 0)

pub counting : (m : Month) → Counting m
counting m =
    record {
      numbers = λ k p y. numbers m p k y;
      reaches = λ d p q h. reaches m p d q h;
      table = before-first m;
    }

-- The way back: "the first date with that number", or none. Assumes nothing.
use Rattle.std.proofs.lemmas.Grind.{common_steps}
use Prim.Native.Nat.{ℕ, ◌+◌, ◌-◌, ◌≤◌, ◌<◌}
use mathlib.Core.Path.{◌≡◌, refl, ap, subst, subst⁻¹, ◌∙◌}
use mathlib.Core.Bool.{Bool, true, false}
use mathlib.Core.Logic.{◌⊎◌, inl, inr}
use native.Mathlib.Nat.{eq-or-lt_of_le}
use native.Mathlib.Omega.{arith}
use borrow.Author.Tests.{leb-true, leb-false}
use lib.Dec.{leb}
use Rattle.std.specs.Prelude.{Option, Some, None}
use Rattle.workdays.specs.declared.Month.{Month}
use Rattle.workdays.specs.declared.Date.{Date}
use Rattle.workdays.specs.Date.{months, IsMonth, IsDate, last_of, length_of, day_in, month_of, month_at, index_of, digits_of}
use Rattle.workdays.specs.Count.{worked, before, up_to}
use Rattle.calendar.specs.Answer.{FirstWith}
use Rattle.calendar.specs.Walk.{MonthWith, DayWith}
use Rattle.workdays.proofs.Lengths.{month-length}
use Rattle.workdays.proofs.Counts.{month-more, end_of, month-end, same-place, place-rises, before-rises, worked-rises}
use Rattle.calendar.proofs.Days.{Counted, day-known, day-given, last-zero}

pub no_month : (m : Month) (n : ℕ) → (IsMonth m → ⊥) → FirstWith m n None
no_month m n none e h = none (day-known m e n h).settled

pub no-number : (m : Month) (n : ℕ) → 400 < n → FirstWith m n None
no-number m n l e h = omega (arith, (day-known m e n h).small)

-- "for 0 the month's last day"
pub zero_last : (m : Month) → IsMonth m → FirstWith m 0 (Some (last_of m))
zero_last m p = (last-zero m p, λ e h. (day-known m e 0 h).after)

pub zero-day : (m : Month) (n k : ℕ) → IsMonth m → n ≡ 0 → k ≡ length_of m → FirstWith m n (Some (day_in m k))
zero-day m n k p e l =
    subst⁻¹ (λ (i : ℕ). FirstWith m i (Some (day_in m k))) e (subst⁻¹ (λ (i : ℕ). FirstWith m 0 (Some (day_in m i))) l (zero_last m p))

-- no working day lies behind the last month
pub last-month : (m : Month) (n : ℕ) → IsMonth m → index_of m + 1 ≡ months → 0 < n → FirstWith m n None
last-month m n p l z e h =
    let k : Counted m e n = day-known m e n h in
    omega
    (arith, k.counted, end_of m p, month-end e k.exists, before-rises (index_of (month_of e) + 1) (index_of m + 1) (omega (arith, k.exists)))

-- the month in front of the first one that reaches the count, or of the end of the table
pub month-found : (s k i : ℕ) → s < i → i ≤ months → before s < k → ((j : ℕ) → s < j → j < i → before j < k) → (i < months → k ≤ before i) → MonthWith s k (i - 1)
month-found s k i h e l low high =
    record {
      from = omega arith;
      inside = omega arith;
      low = by (eq-or-lt_of_le from);
      high = λ x. omega (arith, high (omega arith), ap before here);
    }
  where
    from : s ≤ i - 1
    from = omega arith

    here : i - 1 + 1 ≡ i
    here = omega arith

    by : (s ≡ i - 1) ⊎ (s < i - 1) → before (i - 1) < k
    by (inl x) = omega (arith, ap before x)
    by (inr x) = low (i - 1) x (omega arith)

place-at : (i : ℕ) → i < months → index_of (month_at i) ≡ i
place-at i h = omega arith

-- The month that reaches the count, and the day in it.
module _ (m : Month) (n f : ℕ) (p : IsMonth m) (s : n ≤ 400) (w : MonthWith (index_of m + 1) (before (index_of m + 1) + n) f) (at : IsMonth (month_at f)) where
  -- a date with the number has the count
  has-count : (e : Date) → Counted m e n → up_to e ≡ before (index_of m + 1) + n
  has-count e k = omega (arith, k.counted, end_of m p)

  pub none_left : worked (month_at f) (length_of (month_at f)) < before (index_of m + 1) + n - before f → FirstWith m n None
  none_left l e h =
      let k : Counted m e n = day-known m e n h in
      omega
      (arith, has-count e k, month-more f, month-end e k.exists, before-rises (index_of (month_of e) + 1) (f + 1) (reach k.exists))
    where
      reach : IsDate e → index_of (month_of e) + 1 ≤ f + 1
      reach q = let i : f + 1 ≤ months = omega (arith, w.inside) in by (eq-or-lt_of_le i)
        where
          by : (f + 1 ≡ months) ⊎ (f + 1 < months) → index_of (month_of e) + 1 ≤ f + 1
          by (inl x) = omega (arith, q)
          by (inr x) = absurd (omega (arith, w.high x, w.low, l, month-more f))

  module _ (d : Date) (is : month_of d ≡ month_at f) (low : 1 ≤ d.day) (high : d.day ≤ length_of (month_at f)) (reaches : worked (month_at f) d.day ≡ before (index_of m + 1) + n - before f) (fewer : worked (month_at f) (d.day - 1) < before (index_of m + 1) + n - before f) where
    place : index_of (month_of d) ≡ f
    place = ap index_of is ∙ place-at f w.inside

    exists : IsDate d
    exists = grind (arith, common_steps)

    reached : up_to d ≡ before (index_of m + 1) + n
    reached = grind (arith, common_steps)

    its-number : Counted m d n
    its-number =
        record {
          settled = p;
          exists = exists;
          after = omega (arith, w.from, place, exists, month-length d.year d.month, month-length m.year m.month);
          counted = omega (arith, reached, end_of m p);
          small = s;
        }

    -- no earlier date has the count
    first : (e : Date) → Counted m e n → digits_of e < digits_of d → ⊥
    first e k h = by (eq-or-lt_of_le (place-rises e d k.exists exists (omega arith)))
      where
        by : (index_of (month_of e) ≡ index_of (month_of d)) ⊎ (index_of (month_of e) < index_of (month_of d)) → ⊥
        by (inl x) =
            let q : month_of e ≡ month_of d = same-place (month_of e) (month_of d) k.exists.0 exists.0 x in
            let y : e.year ≡ d.year = ap (λ (k : Month). k.year) q in
            let o : e.month ≡ d.month = ap (λ (k : Month). k.month) q in
            let a : before (index_of (month_of e)) ≡ before f = ap before (x ∙ place) in
            let b : worked (month_of e) e.day ≡ worked (month_at f) e.day = ap (λ (k : Month). worked k e.day) (q ∙ is) in
            omega (arith, has-count e k, w.low, worked-rises (month_at f) e.day (d.day - 1) (omega arith))
        by (inr x) =
            omega (arith, has-count e k, w.low, month-end e k.exists, before-rises (index_of (month_of e) + 1) f (omega (arith, place)))

    pub first-found : FirstWith m n (Some d)
    first-found = (day-given m d n its-number, λ e h. by (day-known m e n h) (leb (digits_of d) (digits_of e)) refl)
      where
        by : {e : Date} → Counted m e n → (b : Bool) → leb (digits_of d) (digits_of e) ≡ b → digits_of d ≤ digits_of e
        by {e} k true h = leb-true (digits_of d) (digits_of e) h
        by {e} k false h = absurd (first e k (leb-false (digits_of d) (digits_of e) h))

  pub first_of : (r : Option Date) → DayWith (month_at f) (before (index_of m + 1) + n - before f) r → FirstWith m n r
  first_of (Some d) h = first-found d h.0 h.1.0.0 h.1.0.1 h.1.1.0 h.1.1.1
  first_of None h = none_left h

-- the same with what the walk has in hand
pub way-back : (m : Month) (n i a b f : ℕ) (k : Month) (r : Option Date) → IsMonth m → n ≤ 400 → i ≡ index_of m → a ≡ before (i + 1) → MonthWith (i + 1) (a + n) f → k ≡ month_at f → IsMonth k → b ≡ before f → DayWith k (a + n - b) r → FirstWith m n r
way-back m n i a b f k r p s e x w y q z h =
    let x' : a ≡ before (index_of m + 1) = x ∙ ap (λ (j : ℕ). before (j + 1)) e in
    first_of m n f p s
    (subst (λ (j : ℕ). MonthWith (j + 1) (before (index_of m + 1) + n) f) e (subst (λ (c : ℕ). MonthWith (i + 1) (c + n) f) x' w))
    (subst IsMonth y q)
    r
    (subst (λ (c : ℕ). DayWith (month_at f) (c + n - before f) r) x'
    (subst (λ (c : ℕ). DayWith (month_at f) (a + n - c) r) z (subst (λ (l : Month). DayWith l (a + n - b) r) y h)))

-- the date given is a date
pub its-date : (m : Month) (n : ℕ) (r : Option Date) (d : Date) → FirstWith m n r → r ≡ Some d → IsDate d × (d.day ≤ 31)
its-date m n r d h e = let q : IsDate d = (day-known m d n (subst (FirstWith m n) e h).0).exists in (q, omega (arith, month-length d.year d.month))

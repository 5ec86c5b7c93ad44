-- When a date has a day number, and which, in numbers. Assumes nothing.
use Rattle.std.proofs.lemmas.Grind.{common_steps}
use Prim.Native.Nat.{ℕ, ◌+◌, ◌-◌, ◌≤◌, ◌<◌}
use mathlib.Core.Path.{◌≡◌, refl, sym, ap, subst, ◌∙◌}
use mathlib.Core.Bool.{Bool, true, false, cond, ◌&&◌}
use native.Mathlib.Omega.{arith}
use Rattle.std.specs.Prelude.{None}
use borrow.Author.Tests.{eqb-true, eqb-false, leb-true, leb-false}
use lib.Dec.{eqb, leb}
use Rattle.std.specs.Bool.{then_some}
use Rattle.quantity.proofs.Meanings.{means-and, means-le, means-so}
use Rattle.quantity.specs.Limits.{day_ok}
use Rattle.quantity.specs.Meaning.{Means}
use Rattle.workdays.specs.declared.Month.{Month}
use Rattle.workdays.specs.declared.Date.{Date}
use Rattle.workdays.specs.Date.{month_ok, date_ok, IsMonth, IsDate, last_of, length_of, digits_of, index_of, month_of}
use Rattle.workdays.specs.Count.{up_to, number_of, worked, before}
use Rattle.calendar.specs.Answer.{counts, number, day_number, day_for}
use Rattle.workdays.proofs.Lengths.{means-month, means-date, month-length}
use Rattle.workdays.proofs.Counts.{later, end_of, last-date, same-date, same-place, place-rises, day-rises, before-rises}

-- the number n of a date: month and date exist, the date is not before the month's last day, and n more working days are counted up to it than up to that day
pub record Counted (m : Month) (d : Date) (n : ℕ) : Type 0 where
  pub settled : IsMonth m
  pub exists : IsDate d
  pub after : digits_of (last_of m) ≤ digits_of d
  pub counted : up_to d ≡ up_to (last_of m) + n
  pub small : n ≤ 400

means-counts : (m : Month) (d : Date) → Means (counts m d) (IsMonth m × (IsDate d × (digits_of (last_of m) ≤ digits_of d)))
means-counts m d = means-and _ _ (means-month m) (λ _. means-and _ _ (means-date d) (λ _. means-le _ _))

means-number : (m : Month) (d : Date) → Means (counts m d && day_ok (number_of m d)) (Counted m d (number_of m d))
means-number m d =
    means-so (means-and _ _ (means-counts m d) (λ _. means-le (number_of m d) 400))
    (λ q.
    record {
      settled = q.0.0;
      exists = q.0.1.0;
      after = q.0.1.1;
      counted = omega (arith, later (last_of m) d (last-date m q.0.0) q.0.1.0 q.0.1.1);
      small = q.1;
    })
    (λ r. ((r.settled, (r.exists, r.after)), r.small))

module _ (m : Month) (d : Date) where
  pub day-known : (n : ℕ) → day_for m d ≡ number n → Counted m d n
  unfolding day_for
  day-known n = of _ (means-number m d)
    where
      of : (t : Bool) → Means t (Counted m d (number_of m d)) → cond t (number (number_of m d)) None ≡ number n → Counted m d n
      of true k e = subst (Counted m d) (ap day_number e) (k.holds refl)
      of false k e = let z : ◌≡◌ {A = ℕ} 0 1 = cc in absurd (omega arith)

  pub day-given : (n : ℕ) → Counted m d n → day_for m d ≡ number n
  unfolding day_for
  day-given n r = grind (arith, common_steps)

  pub day-refused : ((n : ℕ) → Counted m d n → ⊥) → day_for m d ≡ None
  unfolding day_for
  day-refused none = of _ (means-number m d)
    where
      of : (t : Bool) → Means t (Counted m d (number_of m d)) → cond t (number (number_of m d)) None ≡ None
      of true k = absurd (none (number_of m d) (k.holds refl))
      of false k = refl

-- "for 0 the month's last day"
pub last-zero : (m : Month) → IsMonth m → day_for m (last_of m) ≡ number 0
last-zero m p =
    day-given m (last_of m) 0
    (record {
      settled = p;
      exists = last-date m p;
      after = omega arith;
      counted = omega arith;
      small = omega arith;
    })

-- A date's month against the settled one, by their places.
module _ (m : Month) (d : Date) (p : IsMonth m) (q : IsDate d) (i j : ℕ) (from : i ≡ index_of m) (to : j ≡ index_of (month_of d)) where
  pub month-before : j < i → day_for m d ≡ None
  month-before h = day-refused m d (λ n r. omega (arith, place-rises (last_of m) d (last-date m p) q r.after))

  same : j ≡ i → month_of d ≡ m
  same h = same-place (month_of d) m q.0 p (sym to ∙ h ∙ from)

  pub last_day : j ≡ i → d.day ≡ length_of m → day_for m d ≡ number 0
  last_day h e =
      let y : d.year ≡ m.year = ap (λ (k : Month). k.year) (same h) in
      let n : d.month ≡ m.month = ap (λ (k : Month). k.month) (same h) in
      let is : d ≡ last_of m = same-date y n e in
      ap (day_for m) is ∙ last-zero m p

  pub earlier-day : j ≡ i → (d.day ≡ length_of m → ⊥) → day_for m d ≡ None
  earlier-day h other = day-refused m d (λ n r. other (omega (arith, day-rises (last_of m) d (sym (same h)) r.after, ap length_of (same h))))

  -- in the settled month the last day alone has a number
  pub in-same : j ≡ i → (l : ℕ) → l ≡ length_of m → then_some (eqb d.day l) (record { 0 = 0 }) ≡ day_for m d
  in-same h l e = of (eqb d.day l) refl
    where
      of : (b : Bool) → eqb d.day l ≡ b → then_some b (record { 0 = 0 }) ≡ day_for m d
      of true t = sym (last_day h (eqb-true d.day l t ∙ e))
      of false t = sym (earlier-day h (λ x. eqb-false d.day l t (x ∙ sym e)))

  module _ (h : i < j) (a w b : ℕ) (x : a ≡ before j) (y : w ≡ worked (month_of d) d.day) (z : b ≡ before (i + 1)) where
    base : up_to (last_of m) ≡ b
    base = end_of m p ∙ ap (λ (k : ℕ). before (k + 1)) (sym from) ∙ sym z

    whole : up_to d ≡ a + w
    whole = cc (ap before to)

    pub least : b ≤ a + w
    least = omega (arith, before-rises (i + 1) j (omega arith))

    pub number-given : a + w - b ≤ 400 → day_for m d ≡ number (a + w - b)
    number-given s =
        day-given m d (a + w - b)
        (record {
          settled = p;
          exists = q;
          after = omega (arith, month-length d.year d.month, month-length m.year m.month);
          counted = omega (arith, base, whole, least);
          small = s;
        })

    pub number-refused : 400 < a + w - b → day_for m d ≡ None
    number-refused s = day-refused m d (λ n r. omega (arith, base, whole, r.counted, r.small))

    pub in-later : then_some (leb (a + w - b) 400) (record { 0 = a + w - b }) ≡ day_for m d
    in-later = of (leb (a + w - b) 400) refl
      where
        of : (t : Bool) → leb (a + w - b) 400 ≡ t → then_some t (record { 0 = a + w - b }) ≡ day_for m d
        of true e = sym (number-given (leb-true (a + w - b) 400 e))
        of false e = sym (number-refused (leb-false (a + w - b) 400 e))

-- "a settled month or a date that does not exist or lies outside those years"
pub no-such : (m : Month) (d : Date) (a b : Bool) → a ≡ month_ok m → b ≡ date_ok d → (a && b) ≡ false → day_for m d ≡ None
no-such m d a b p q e = day-refused m d (λ n r. (means-and _ _ (means-month m) (λ _. means-date d)).fails (cc e) (r.settled, r.exists))

-- in the month after the settled one the number is the month's own count
pub month-behind : (m : Month) (d : Date) → IsMonth m → IsDate d → index_of (month_of d) ≡ index_of m + 1 → (n : ℕ) → worked (month_of d) d.day ≡ n → n ≤ 400 → day_for m d ≡ number n
month-behind m d p q e n w s =
    let b : before (index_of (month_of d)) ≡ before (index_of m + 1) = ap before e in
    day-given m d n
    (record {
      settled = p;
      exists = q;
      after = omega (arith, month-length d.year d.month, month-length m.year m.month);
      counted = omega (arith, end_of m p);
      small = s;
    })

-- What the answers are, for any settled month. Assumes nothing.
use Rattle.std.proofs.lemmas.Grind.{common_steps}
use Prim.Native.Nat.{ℕ, ◌≤◌, ◌<◌}
use mathlib.Core.Path.{◌≡◌, refl, ap, ◌∙◌}
use mathlib.Core.Bool.{Bool, true, false}
use mathlib.Core.Logic.{◌⊎◌, inl, inr}
use native.Mathlib.Omega.{arith}
use borrow.Author.Tests.{leb-true, leb-false}
use lib.Dec.{leb}
use Rattle.std.specs.Prelude.{Option, Some, None}
use Rattle.quantity.specs.Meaning.{Between}
use Rattle.quantity.specs.declared.Day.{Day}
use Rattle.workdays.specs.declared.Month.{Month}
use Rattle.workdays.specs.declared.Date.{Date}
use Rattle.workdays.specs.Date.{days_in, IsMonth, IsDate, last_of, digits_of}
use Rattle.workdays.specs.Count.{up_to, number_of}
use Rattle.workdays.specs.Laws.{after, working_after}
use Rattle.calendar.specs.Answer.{number, day_for, FirstWith, day_refusal, day_number, date_refusal, date_digits, OfFirst}
use Rattle.calendar.specs.Laws.{Answers, last_date}
use Rattle.workdays.proofs.Lengths.{month-length}
use Rattle.workdays.proofs.Counts.{later, last-date, same-date}
use Rattle.calendar.proofs.Days.{Counted, day-known, day-given, day-refused}
use Rattle.calendar.proofs.Back.{zero_last}
use Rattle.workdays.proofs.Walking.{Walked, walked, between, reaches}

-- two dates with the same digits
same-digits : (d e : Date) → IsDate d → IsDate e → digits_of d ≡ digits_of e → d ≡ e
same-digits d e p q h =
    let a = month-length d.year d.month in
    let b = month-length e.year e.month in
    same-date (omega arith) (omega arith) (omega arith)

-- the last day of those years is a date, and none is later
last-is : IsDate last_date
unfolding days_in
last-is = grind (arith, common_steps)

none-later : (d : Date) → IsDate d → digits_of d ≤ digits_of last_date
none-later d q = let a = month-length d.year d.month in omega arith

module _ (m : Month) where
  pub walked-number : (k : ℕ) → IsMonth m → (after m k).year ≤ 2059 → working_after m k ≤ 400 → day_for m (after m k) ≡ number (working_after m k)
  walked-number k p y s =
      let w : Walked m k = walked m p k y in
      day-given m (after m k) (working_after m k)
      (record { settled = p; exists = w.exists; after = w.later; counted = w.counted; small = s })

  risen : (d e : Date) (a b : ℕ) → digits_of d ≤ digits_of e → day_for m d ≡ number a → day_for m e ≡ number b → a ≤ b
  risen d e a b h x y =
      let r : Counted m d a = day-known m d a x in
      let s : Counted m e b = day-known m e b y in
      omega (arith, r.counted, s.counted, later d e r.exists s.exists h)

  pub one-answer : (n : ℕ) (a b : Option Date) → FirstWith m n a → FirstWith m n b → a ≡ b
  one-answer n (Some d) (Some e) x y =
      ap Some (same-digits d e (day-known m d n x.0).exists (day-known m e n y.0).exists (le-both (x.1 e y.0) (y.1 d x.0)))
    where
      le-both : {a b : ℕ} → a ≤ b → b ≤ a → a ≡ b
      le-both p q = omega arith
  one-answer n (Some d) None x y = absurd (y d x.0)
  one-answer n None (Some d) x y = absurd (x d y.0)
  one-answer n None None x y = refl

  pub refused : (d : Date) → (IsMonth m → IsDate d → digits_of (last_of m) ≤ digits_of d → 400 < number_of m d) → day_for m d ≡ None
  refused d f = day-refused m d (λ n r. omega (arith, f r.settled r.exists r.after, r.counted, r.small))

  only-refused : (d : Date) → day_for m d ≡ None → IsMonth m → IsDate d → digits_of (last_of m) ≤ digits_of d → 400 < number_of m d
  only-refused d e p q h = by (leb (number_of m d) 400) refl
    where
      given : number_of m d ≤ 400 → day_for m d ≡ number (number_of m d)
      given s =
          day-given m d (number_of m d)
          (record { settled = p; exists = q; after = h; counted = omega (arith, later (last_of m) d (last-date m p) q h); small = s })

      by : (b : Bool) → leb (number_of m d) 400 ≡ b → 400 < number_of m d
      by true x = let z : ◌≡◌ {A = ℕ} 0 1 = cc (given (leb-true (number_of m d) 400 x)) in absurd (omega arith)
      by false x = leb-false (number_of m d) 400 x

  pub no-first : (n : ℕ) → (IsMonth m → n ≤ 400 → number_of m last_date < n) → FirstWith m n None
  no-first n f e x =
      let r : Counted m e n = day-known m e n x in
      omega (arith, f r.settled r.small, r.counted, later e last_date r.exists last-is (none-later e r.exists))

  pub only-no-first : (n : ℕ) → FirstWith m n None → IsMonth m → n ≤ 400 → number_of m last_date < n
  only-no-first n f p s = by (leb n (number_of m last_date)) refl
    where
      reached : n ≤ number_of m last_date → (k : ℕ) × (after m k ≡ last_date) → ⊥
      reached h r = at-day (between m p n r.0 enough (in-years r.1))
        where
          in-years : {d : Date} → d ≡ last_date → d.year ≤ 2059
          in-years e = omega (arith, ap (λ (k : Date). k.year) e)

          enough : n ≤ working_after m r.0
          enough = omega (arith, (walked m p r.0 (in-years r.1)).counted, ap up_to r.1)

          at-day : (j : ℕ) × ((working_after m j ≡ n) × ((after m j).year ≤ 2059)) → ⊥
          at-day t = f (after m t.0) (walked-number t.0 p t.1.1 (omega (arith, t.1.0)) ∙ ap number t.1.0)

      found : n ≤ number_of m last_date → ⊥
      found h = reached h (reaches m p last_date last-is (none-later (last_of m) (last-date m p)))

      by : (b : Bool) → leb n (number_of m last_date) ≡ b → number_of m last_date < n
      by true x = absurd (found (leb-true n (number_of m last_date) x))
      by false x = leb-false n (number_of m last_date) x

  in-range : (d : Date) (a : Option Day) → day_for m d ≡ a → Between 0 400 (day_number a) × ((day_refusal a ≡ 0) ⊎ (day_refusal a ≡ 36))
  in-range d (Some n) e = ((omega arith, (day-known m d n.0 e).small), inl refl)
  in-range d None e = ((omega arith, omega arith), inr refl)

  in-years : (n r s : ℕ) → OfFirst date_digits m n r → OfFirst date_refusal m n s → (Between 20200101 20591231 r × (s ≡ 0)) ⊎ ((r ≡ 0) × (s ≡ 36))
  in-years n r s x y = by x.0 x.1.0 x.1.1 (y.1.1 ∙ ap date_refusal (one-answer n y.0 x.0 y.1.0 x.1.0))
    where
      by : (a : Option Date) → FirstWith m n a → r ≡ date_digits a → s ≡ date_refusal a → (Between 20200101 20591231 r × (s ≡ 0)) ⊎ ((r ≡ 0) × (s ≡ 36))
      by (Some d) h e f =
          let q : IsDate d = (day-known m d n h.0).exists in
          let l = none-later d q in
          inl ((omega arith, omega arith), f)
      by None h e f = inr (e, f)

pub answers : (m : Month) → Answers m
answers m =
    record {
      counts = walked-number m;
      rises = risen m;
      back = λ n d h. h.0;
      only = one-answer m;
      zero_last = zero_last m;
      day_range = λ d. in-range m d (day_for m d) refl;
      date_range = in-years m;
      no_day = refused m;
      only_no_day = only-refused m;
      no_date = no-first m;
      only_no_date = only-no-first m;
    }

-- Laws of the count: a day more, a month more, and that it never falls. Assumes nothing.
use Rattle.std.proofs.lemmas.Grind.{common_steps}
use Rattle.std.proofs.lemmas.Grind.{common_steps}
use Prim.Native.Nat.{ℕ, zero, suc, ◌+◌, ◌*◌, ◌-◌, ◌≤◌, ◌<◌}
use mathlib.Core.Path.{◌≡◌, sym, ap, subst, subst⁻¹, ◌∙◌}
use mathlib.Core.Bool.{Bool, true, false}
use mathlib.Core.Logic.{◌⊎◌, inl, inr}
use native.Mathlib.Nat.{add-zero, eq-or-lt_of_le}
use native.Mathlib.Omega.{arith}
use Rattle.workdays.specs.declared.Month.{Month}
use Rattle.workdays.specs.declared.Date.{Date}
use Rattle.workdays.specs.Date.{day_in, length_of, last_of, month_of, month_at, index_of, digits_of, IsMonth, IsDate}
use Rattle.workdays.specs.Rule.{working}
use Rattle.workdays.specs.Count.{one, worked, before, up_to}
use Rattle.workdays.proofs.Lengths.{month-length}

pub one-more : (m : Month) (n : ℕ) → worked m (n + 1) ≡ worked m n + one (working (day_in m (n + 1)))
unfolding worked
one-more m n = grind (arith, common_steps)

-- a day's step, by what the walk has in hand: the count up to the day before, and the verdict on the day
pub worked-on : (m : Month) (day k : ℕ) (b : Bool) → 1 ≤ day → k ≡ worked m (day - 1) → b ≡ working (day_in m day) → k + one b ≡ worked m day
worked-on m day k b h p q =
    let e : day - 1 + 1 ≡ day = omega arith in
    subst (λ (n : ℕ). b ≡ working (day_in m n) → k + one b ≡ worked m n) e (λ r. cc (one-more m (day - 1))) q

-- what never falls from one number to the next never falls
rises : (f : ℕ → ℕ) → ((n : ℕ) → f n ≤ f (n + 1)) → (a b : ℕ) → a ≤ b → f a ≤ f b
rises f step a b h =
    let e : a + (b - a) ≡ b = omega arith in
    subst (λ (n : ℕ). f a ≤ f n) e (by (b - a))
  where
    by : (k : ℕ) → f a ≤ f (a + k)
    by zero = subst⁻¹ (λ (n : ℕ). f a ≤ f n) (add-zero a) (omega arith)
    by (suc k) =
        let e : a + k + 1 ≡ a + suc k = omega arith in
        subst (λ (n : ℕ). f a ≤ f n) e (omega (arith, step (a + k), by k))

pub worked-rises : (m : Month) (a b : ℕ) → a ≤ b → worked m a ≤ worked m b
worked-rises m = rises (worked m) (λ n. omega (arith, one-more m n))

pub month-more : (i : ℕ) → before (i + 1) ≡ before i + worked (month_at i) (length_of (month_at i))
unfolding before
month-more i = grind (arith, common_steps)

pub before-rises : (i j : ℕ) → i ≤ j → before i ≤ before j
before-rises = rises before (λ i. omega (arith, month-more i))

pub same-date : {a b c x y z : ℕ} → a ≡ x → b ≡ y → c ≡ z → ◌≡◌ {A = Date} (record { year = a; month = b; day = c }) (record { year = x; month = y; day = z })
same-date p q r = cc

-- a month stands at its own place
pub month-at : (m : Month) → IsMonth m → month_at (index_of m) ≡ m
month-at m h = grind (arith, common_steps)

-- up to a month's last day it is what stands before the next month
pub end_of : (m : Month) → IsMonth m → up_to (last_of m) ≡ before (index_of m + 1)
end_of m h =
    sym
    (month-more (index_of m)
    ∙ ap (λ (k : Month). before (index_of m) + worked k (length_of k)) (month-at m h))

-- a month's last day is a date
pub last-date : (m : Month) → IsMonth m → IsDate (last_of m)
last-date m h = (h, (omega (arith, month-length m.year m.month), omega arith))

-- no date of a month lies behind it
pub month-end : (d : Date) → IsDate d → up_to d ≤ before (index_of (month_of d) + 1)
month-end d h =
    omega (arith, end_of (month_of d) h.0, worked-rises (month_of d) d.day (length_of (month_of d)) h.1.1)

-- months are in the order of their places
pub same-place : (m n : Month) → IsMonth m → IsMonth n → index_of m ≡ index_of n → m ≡ n
same-place m n p q e = grind (arith, common_steps)

-- the later of two dates has the later place, and in one month the later day
pub place-rises : (d e : Date) → IsDate d → IsDate e → digits_of d ≤ digits_of e → index_of (month_of d) ≤ index_of (month_of e)
place-rises d e p q h = omega (arith, month-length d.year d.month, month-length e.year e.month)

pub day-rises : (d e : Date) → month_of d ≡ month_of e → digits_of d ≤ digits_of e → d.day ≤ e.day
day-rises d e m h = grind (arith, common_steps)

-- "a later date never has a smaller number": the count never falls
pub later : (d e : Date) → IsDate d → IsDate e → digits_of d ≤ digits_of e → up_to d ≤ up_to e
later d e p q h = by (eq-or-lt_of_le (place-rises d e p q h))
  where
    by : (index_of (month_of d) ≡ index_of (month_of e)) ⊎ (index_of (month_of d) < index_of (month_of e)) → up_to d ≤ up_to e
    by (inl s) =
        let m : month_of d ≡ month_of e = same-place (month_of d) (month_of e) p.0 q.0 s in
        subst⁻¹ (λ (k : Month). before (index_of k) + worked k d.day ≤ up_to e) m
        (omega (arith, worked-rises (month_of e) d.day e.day (day-rises d e m h)))
    by (inr l) = omega (arith, month-end d p, before-rises (index_of (month_of d) + 1) (index_of (month_of e)) (omega arith))

-- fewer up to a day, and so up to the same day
pub fewer-at : (m : Month) (w a b : ℕ) → a ≡ b → worked m a < w → worked m b < w
fewer-at m w a b e = grind (arith, common_steps)

pub worked-most : (m : Month) (n : ℕ) → worked m n ≤ n
unfolding worked
worked-most m zero = omega arith
worked-most m (suc n) = omega (arith, worked-most m n, at-most (working (day_in m (suc n))))
  where
    at-most : (b : Bool) → one b ≤ 1
    at-most true = omega arith
    at-most false = omega arith

-- a month has at most 31 working days
pub before-most : (i : ℕ) → before i ≤ 31 * i
unfolding before
before-most zero = omega arith
before-most (suc i) = omega (arith, before-most i, worked-most (month_at i) (length_of (month_at i)), month-length (month_at i).year (month_at i).month)

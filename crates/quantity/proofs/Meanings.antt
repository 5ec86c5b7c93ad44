-- What tests say: comparisons, joined tests, tests of lists. Assumes nothing.
use Rattle.std.proofs.Common.{◌≡◌, ℕ, zero, suc, ◌<◌, ◌≤◌, Bool, true, false, not, ◌&&◌, ◌||◌, eqb, ltb, leb, ◌⊎◌, List, [], ◌∷◌, sym, refl, ◌∙◌, inl, inr, true≢false, arith, ltb-false, ltb-true, eqb-true, leb-false, leb-true}
use mathlib.Core.Bool.{false≢true}
use borrow.Author.Tests.{eqb-false, not-true, not-false}
use Rattle.quantity.specs.Lists.{all, any}
use Rattle.quantity.specs.Meaning.{Means, Each, Among}

pub means-le : (a b : ℕ) → Means (leb a b) (a ≤ b)
means-le a b = record { holds = leb-true a b; fails = λ e p. omega (arith, leb-false a b e) }

pub means-lt : (a b : ℕ) → Means (ltb a b) (a < b)
means-lt a b = record { holds = ltb-true a b; fails = λ e p. omega (arith, ltb-false a b e) }

pub means-eq : (a b : ℕ) → Means (eqb a b) (a ≡ b)
means-eq a b = record { holds = eqb-true a b; fails = eqb-false a b }

-- a test by itself
pub means-test : (t : Bool) → Means t (t ≡ true)
means-test t = record { holds = λ e. e; fails = λ e p. false≢true (sym e ∙ p) }

pub means-not : {P : Type 0} (t : Bool) → Means t P → Means (not t) (P → ⊥)
means-not t m = record { holds = λ e. m.fails (not-true t e); fails = λ e n. n (m.holds (not-false t e)) }

-- in other words
pub means-so : {P Q : Type 0} {t : Bool} → Means t P → (P → Q) → (Q → P) → Means t Q
means-so m f g = record { holds = λ e. f (m.holds e); fails = λ e q. m.fails e (g q) }

-- both; the second is looked at only where the first holds
pub means-and : {P Q : Type 0} (s t : Bool) → Means s P → (P → Means t Q) → Means (s && t) (P × Q)
means-and true t m k = let p = m.holds refl in record { holds = λ e. (p, (k p).holds e); fails = λ e q. (k p).fails e q.1 }
means-and false t m k = record { holds = λ e. absurd (false≢true e); fails = λ e q. m.fails refl q.0 }

-- one or the other
pub means-or : {P Q : Type 0} (s t : Bool) → Means s P → Means t Q → Means (s || t) (P ⊎ Q)
means-or true t m k = record { holds = λ e. inl (m.holds refl); fails = λ e q. true≢false e }
means-or {P} {Q} false t m k = record { holds = λ e. inr (k.holds e); fails = neither }
  where
    neither : t ≡ false → P ⊎ Q → ⊥
    neither e (inl p) = m.fails refl p
    neither e (inr q) = k.fails e q

-- a test that never holds
pub means-never : {P : Type 0} → (P → ⊥) → Means false P
means-never n = record { holds = λ e. absurd (false≢true e); fails = λ e p. n p }

module _ {A : Type 0} (f : A → Bool) (P : A → Type 0) (z : A) (each : (x : A) → Means (f x) (P x)) where
  pub means-all : (l : List A) → Means (all f l) (Each z P l)
  unfolding all
  means-all [] = record { holds = λ e i h. absurd (omega arith); fails = λ e p. true≢false e }
  means-all (x ∷ l) =
      means-so (means-and (f x) (all f l) (each x) (λ _. means-all l))
      (λ q. up q)
      (λ h. (h 0 (omega arith), λ i k. h (suc i) (omega arith)))
    where
      up : P x × Each z P l → Each z P (x ∷ l)
      up q zero h = q.0
      up q (suc i) h = q.1 i (omega arith)

  pub means-any : (l : List A) → Means (any f l) (Among z P l)
  unfolding any
  means-any [] = means-never (λ q. omega (arith, q.1.0))
  means-any (x ∷ l) = means-so (means-or (f x) (any f l) (each x) (means-any l)) to from
    where
      to : P x ⊎ Among z P l → Among z P (x ∷ l)
      to (inl p) = (0, (omega arith, p))
      to (inr q) = (suc q.0, (omega (arith, q.1.0), q.1.1))

      from : Among z P (x ∷ l) → P x ⊎ Among z P l
      from (zero, h) = inl h.1
      from (suc i, h) = inr (i, (omega (arith, h.0), h.1))

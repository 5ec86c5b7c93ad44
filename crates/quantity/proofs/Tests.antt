-- Laws of tests: a joined test taken apart, two tests that say the same, a number within its range. Assumes nothing.
use Rattle.std.proofs.Common.{◌≡◌, ℕ, ◌≤◌, Bool, true, false, cond, ◌&&◌, ◌||◌, leb, refl, true≢false, leb-true}
use mathlib.Core.Bool.{false≢true}
use Rattle.quantity.specs.Limits.{within}

-- by cases on a test
pub by-test : {A : Type 0} (P : A → Type 0) (t : Bool) (x y : A) → (t ≡ true → P x) → (t ≡ false → P y) → P (cond t x y)
by-test P true x y f g = f refl
by-test P false x y f g = g refl

pub and-left : (a b : Bool) → (a && b) ≡ true → a ≡ true
and-left true b p = refl
and-left false b p = p

pub and-right : (a b : Bool) → (a && b) ≡ true → b ≡ true
and-right true b p = p
and-right false b p = absurd (false≢true p)

pub and-both : (a b : Bool) → a ≡ true → b ≡ true → (a && b) ≡ true
and-both a b p q = rw (p, q)

pub or-left : (a b : Bool) → (a || b) ≡ false → a ≡ false
or-left true b p = p
or-left false b p = refl

pub or-right : (a b : Bool) → (a || b) ≡ false → b ≡ false
or-right true b p = absurd (true≢false p)
or-right false b p = p

-- two tests of which each implies the other
pub same-test : (s t : Bool) → (s ≡ true → t ≡ true) → (t ≡ true → s ≡ true) → s ≡ t
same-test true true f g = refl
same-test false false f g = refl
same-test true false f g = absurd (false≢true (f refl))
same-test false true f g = absurd (false≢true (g refl))

pub within-low : (low high n : ℕ) → within low high n ≡ true → low ≤ n
within-low low high n p = leb-true low n (and-left (leb low n) (leb n high) p)

pub within-high : (low high n : ℕ) → within low high n ≡ true → n ≤ high
within-high low high n p = leb-true n high (and-right (leb low n) (leb n high) p)

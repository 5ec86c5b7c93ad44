-- Laws of the larger of 0 and a difference: of two words what it is read as, where it is exact, and in numbers. Assumes nothing.
use Prim.Native.Nat.{ℕ, suc, ◌+◌, ◌-◌, ◌^◌, ◌≤◌, ◌<◌}
use mathlib.Core.Path.{◌≡◌, refl, sym, ap, ap₂, ◌∙◌}
use mathlib.Core.Bool.{Bool, true, false, cond}
use mathlib.Core.Logic.{inl, inr}
use native.Mathlib.Omega.{arith}
use lib.Dec.{ltb}
use lib.IntN.{ℤ, pos, negsuc, neg_ℤ, nat_abs, ◌-ℤ◌, +ℤ_idr, +ℤ_invl}
use mir.Val.{sel}
use Rattle.quantity.specs.Word.{word, signed, minus}
use Rattle.quantity.proofs.Integers.{nat_abs-plus, nat_abs-neg}
use Rattle.quantity.proofs.Words.{word-minus, signed-word, word-signed, small-fits}
use Rattle.deviation.specs.Deviation.{larger, over}
use Rattle.deviation.specs.Laws.{Larger, Over}

-- "the larger of 0 and": one of the two, and neither is above it
pub is-larger : (z : ℤ) → Larger z
unfolding larger
is-larger (pos n) = record { either = inr refl; not_below_zero = (n, refl); not_below = (0, sym (+ℤ_idr (pos n))) }
is-larger (negsuc n) =
    record { either = inl refl; not_below_zero = (0, refl); not_below = (suc n, sym (+ℤ_invl (pos (suc n)))) }

-- it is not larger in size
pub larger-size : (z : ℤ) → nat_abs (larger z) ≤ nat_abs z
unfolding larger
larger-size (pos n) = omega arith
larger-size (negsuc n) = omega arith

-- the size of a difference
pub difference-size : (x y : ℤ) → nat_abs (x -ℤ y) ≤ nat_abs x + nat_abs y
difference-size x y = omega (arith, nat_abs-plus x (neg_ℤ y), nat_abs-neg y)

-- a word, or 0 where it is read as negative
positive : (d : ℕ) → signed (cond (ltb d (2 ^ 63)) d 0) ≡ larger (signed d)
unfolding larger
positive d = go (ltb d (2 ^ 63)) refl
  where
    go : (t : Bool) → ltb d (2 ^ 63) ≡ t → signed (cond t d 0) ≡ larger (sel t (pos d) (negsuc (2 ^ 64 - suc d)))
    go true e = rw e
    go false e = refl

-- the difference of two words is a word
pub over-below : (a b : ℕ) → over a b < 2 ^ 64
unfolding over
over-below a b = go (ltb (minus a b) (2 ^ 63))
  where
    go : (t : Bool) → cond t (minus a b) 0 < 2 ^ 64
    go true = omega arith
    go false = omega arith

-- of the words of two integers, it is read as the larger of 0 and what the wrapped difference is read as
over-of : (x y : ℤ) → signed (over (word x) (word y)) ≡ larger (signed (word (x -ℤ y)))
unfolding over
over-of x y = positive (minus (word x) (word y)) ∙ ap (λ (d : ℕ). larger (signed d)) (sym (word-minus x y))

-- "differences wrap as sums do"
pub over-reads : (a b : ℕ) → a < 2 ^ 64 → b < 2 ^ 64 → signed (over a b) ≡ larger (signed (word (signed a -ℤ signed b)))
over-reads a b h k = ap₂ (λ (m n : ℕ). signed (over m n)) (sym (word-signed a h)) (sym (word-signed b k)) ∙ over-of (signed a) (signed b)

-- where the difference has room in 64 bits it is exact
pub over-fits : (x y : ℤ) → nat_abs x + nat_abs y < 2 ^ 63 → signed (over (word x) (word y)) ≡ larger (x -ℤ y)
over-fits x y h = over-of x y ∙ ap larger (signed-word (x -ℤ y) (small-fits (x -ℤ y) (omega (arith, difference-size x y))))

-- of the words of two small integers, the word of the larger of 0 and their difference
pub over-words : (x y : ℤ) → nat_abs x + nat_abs y < 2 ^ 63 → over (word x) (word y) ≡ word (larger (x -ℤ y))
over-words x y h = sym (word-signed (over (word x) (word y)) (over-below (word x) (word y))) ∙ ap word (over-fits x y h)

-- of any two words, as a word
pub over-word : (a b : ℕ) → a < 2 ^ 64 → b < 2 ^ 64 → over a b ≡ word (larger (signed (word (signed a -ℤ signed b))))
over-word a b h k = sym (word-signed (over a b) (over-below a b)) ∙ ap word (over-reads a b h k)

-- of numbers up to 2^61 in size it is exact
pub over-exact : (a b : ℕ) → a < 2 ^ 64 → b < 2 ^ 64 → nat_abs (signed a) ≤ 2 ^ 61 → nat_abs (signed b) ≤ 2 ^ 61 → signed (over a b) ≡ larger (signed a -ℤ signed b)
over-exact a b h k s t =
    ap₂ (λ (m n : ℕ). signed (over m n)) (sym (word-signed a h)) (sym (word-signed b k))
    ∙ over-fits (signed a) (signed b) (omega arith)

-- and no larger than both together
pub over-size : (a b : ℕ) → a < 2 ^ 64 → b < 2 ^ 64 → nat_abs (signed a) ≤ 2 ^ 61 → nat_abs (signed b) ≤ 2 ^ 61
    → nat_abs (signed (over a b)) ≤ nat_abs (signed a) + nat_abs (signed b)
over-size a b h k s t =
    omega (arith, ap nat_abs (over-exact a b h k s t), larger-size (signed a -ℤ signed b), difference-size (signed a) (signed b))

pub over-law : (a b : ℕ) → a < 2 ^ 64 → b < 2 ^ 64 → Over a b
over-law a b h k = record { reads = over-reads a b h k; exact = over-exact a b h k }

-- 2^63 - 1 over -1, and the other way: both differences wrap
pub wraps : over (2 ^ 63 - 1) (2 ^ 64 - 1) ≡ 0
unfolding over
wraps = refl

pub wraps-back : over (2 ^ 64 - 1) (2 ^ 63 - 1) ≡ 0
unfolding over
wraps-back = refl

-- 7 over 10, and 10 over 7
pub seven-over-ten : over 7 10 ≡ 0
unfolding over
seven-over-ten = refl

pub ten-over-seven : over 10 7 ≡ 3
unfolding over
ten-over-seven = refl

-- Laws of integers: regroupings, and the size of a sum. Assumes nothing.
use Rattle.std.proofs.Common.{◌≡◌, ℕ, zero, suc, ◌+◌, ◌-◌, ◌<◌, ◌≤◌, Bool, true, false, cond, not, T, ltb, ℤ, pos, negsuc, ◌+ℤ◌, neg_ℤ, nat_abs, sym, refl, ap, ◌∙◌, arith, ltb→lt, nltb→le}
use lib.IntN.{sub_ℕ, +ℤ_assoc, +ℤ_comm}

-- a difference of two numbers, by which of them is larger
pub by-order : (P : ℤ → Type 0) (a b : ℕ) → (a < b → P (negsuc (b - suc a))) → (b ≤ a → P (pos (a - b))) → P (sub_ℕ a b)
by-order P a b f g = go (ltb a b) (λ t. f (ltb→lt a b t)) (λ t. g (nltb→le a b t))
  where
    go : (c : Bool) → (T c → P (negsuc (b - suc a))) → (T (not c) → P (pos (a - b))) → P (cond c (negsuc (b - suc a)) (pos (a - b)))
    go true f g = f tt
    go false f g = g tt

-- the last two of three terms change places
pub flip : (a b c : ℤ) → a +ℤ b +ℤ c ≡ a +ℤ c +ℤ b
flip a b c = +ℤ_assoc a b c ∙ ap (λ (x : ℤ). a +ℤ x) (+ℤ_comm b c) ∙ sym (+ℤ_assoc a c b)

-- the middle two of four change places
pub cross : (a b c d : ℤ) → a +ℤ b +ℤ (c +ℤ d) ≡ a +ℤ c +ℤ (b +ℤ d)
cross a b c d = cc (+ℤ_assoc a b (c +ℤ d), +ℤ_assoc a c (b +ℤ d), +ℤ_assoc b c d, +ℤ_assoc c b d, +ℤ_comm b c)

nat_abs-sub : (a b : ℕ) → nat_abs (sub_ℕ a b) ≤ a + b
nat_abs-sub a b = by-order (λ (z : ℤ). nat_abs z ≤ a + b) a b (λ h. omega arith) (λ h. omega arith)

-- the size of a sum
pub nat_abs-plus : (a b : ℤ) → nat_abs (a +ℤ b) ≤ nat_abs a + nat_abs b
nat_abs-plus (pos a) (pos b) = omega arith
nat_abs-plus (pos a) (negsuc b) = nat_abs-sub a (suc b)
nat_abs-plus (negsuc a) (pos b) = omega (arith, nat_abs-sub b (suc a))
nat_abs-plus (negsuc a) (negsuc b) = omega arith

pub nat_abs-neg : (z : ℤ) → nat_abs (neg_ℤ z) ≡ nat_abs z
nat_abs-neg (pos zero) = refl
nat_abs-neg (pos (suc n)) = refl
nat_abs-neg (negsuc n) = refl

-- Laws of exact sums, and of the words of sums: what is amended term by term is the word of the exact sum. Assumes nothing.
use Rattle.std.proofs.Common.{◌≡◌, ℕ, zero, suc, ◌*◌, ◌<◌, ◌≤◌, true, ℤ, pos, ◌+ℤ◌, ◌-ℤ◌, neg_ℤ, nat_abs, sym, refl, ap, mul-le-mul_right, suc-mul, arith, leb-true}
use native.Mathlib.Decide.{ℕ_discrete}
use lib.IntN.{+ℤ_assoc, +ℤ_comm, +ℤ_idr, +ℤ-neg_ℤ_cancel, neg_ℤ-+ℤ}
use Rattle.quantity.specs.Limits.{points, most_energy, energy_ok}
use Rattle.quantity.specs.Word.{word, signed, plus, minus}
use Rattle.quantity.specs.Sum.{sum_to}
use Rattle.quantity.proofs.Integers.{flip, cross, nat_abs-plus}
use Rattle.quantity.proofs.Words.{word-plus, word-minus, signed-word, small-fits}

-- sums with equal terms are equal
pub sum-same : (n : ℕ) (f g : ℕ → ℤ) → ((i : ℕ) → 0 < i → i ≤ n → f i ≡ g i) → sum_to n f ≡ sum_to n g
unfolding sum_to
sum-same zero f g h = refl
sum-same (suc n) f g h = cc (sum-same n f g (λ i lo le. h i lo (omega arith)), h (suc n) (omega arith) (omega arith))

pub sum-zero : (n : ℕ) (f : ℕ → ℤ) → ((i : ℕ) → 0 < i → i ≤ n → f i ≡ pos 0) → sum_to n f ≡ pos 0
unfolding sum_to
sum-zero zero f h = refl
sum-zero (suc n) f h = cc (sum-zero n f (λ i lo le. h i lo (omega arith)), h (suc n) (omega arith) (omega arith), +ℤ_idr (pos 0))

swap : (a b c d : ℤ) → a -ℤ b +ℤ c +ℤ d ≡ a +ℤ d -ℤ b +ℤ c
swap a b c d = simp +ℤ_assoc (cc (+ℤ_comm d (neg_ℤ b +ℤ c), +ℤ_assoc (neg_ℤ b) c d))

-- where only the term at p changes, the sum changes by the difference
pub sum-change : (n : ℕ) (f g : ℕ → ℤ) (p : ℕ) → 0 < p → p ≤ n → ((i : ℕ) → 0 < i → i ≤ n → (i ≡ p → ⊥) → f i ≡ g i) → sum_to n g ≡ sum_to n f -ℤ f p +ℤ g p
unfolding sum_to
sum-change zero f g p lo hi h = absurd (omega arith)
sum-change (suc n) f g p lo hi h = go (ℕ_discrete (suc n) p) (λ le. sum-change n f g p lo le (λ i l k ne. h i l (omega arith) ne))
  where
    go : Dec (suc n ≡ p) → (p ≤ n → sum_to n g ≡ sum_to n f -ℤ f p +ℤ g p) → sum_to n g +ℤ g (suc n) ≡ sum_to n f +ℤ f (suc n) -ℤ f p +ℤ g p
    go (yes e) ih =
        cc (
          sum-same n f g (λ i l le. h i l (omega arith) (λ q. omega arith)),
          ap f e,
          ap g e,
          +ℤ-neg_ℤ_cancel (sum_to n f) (f (suc n)),
        )
    go (no ne) ih =
        let le : p ≤ n = omega arith in
        cc (ih le, h (suc n) (omega arith) (omega arith) ne, swap (sum_to n f) (f p) (g p) (f (suc n)))

-- a sum of sums of two
pub sum-plus : (n : ℕ) (f g : ℕ → ℤ) → sum_to n (λ (i : ℕ). f i +ℤ g i) ≡ sum_to n f +ℤ sum_to n g
unfolding sum_to
sum-plus zero f g = refl
sum-plus (suc n) f g = cc (sum-plus n f g, cross (sum_to n f) (sum_to n g) (f (suc n)) (g (suc n)))

pub sum-neg : (n : ℕ) (f : ℕ → ℤ) → sum_to n (λ (i : ℕ). neg_ℤ (f i)) ≡ neg_ℤ (sum_to n f)
unfolding sum_to
sum-neg zero f = refl
sum-neg (suc n) f = cc (sum-neg n f, neg_ℤ-+ℤ (sum_to n f) (f (suc n)))

-- a sum of sums in either order
pub sum-swap : (n m : ℕ) (f : ℕ → ℕ → ℤ) → sum_to n (λ (i : ℕ). sum_to m (λ (j : ℕ). f i j)) ≡ sum_to m (λ (j : ℕ). sum_to n (λ (i : ℕ). f i j))
unfolding sum_to
sum-swap zero m f = sym (sum-zero m (λ (j : ℕ). pos 0) (λ i lo le. refl))
sum-swap (suc n) m f =
    cc (sum-swap n m f, sum-plus m (λ (j : ℕ). sum_to n (λ (i : ℕ). f i j)) (λ (j : ℕ). f (suc n) j))

-- a sum of small terms is small
pub sum-small : (L n : ℕ) (f : ℕ → ℤ) → ((i : ℕ) → 0 < i → i ≤ n → nat_abs (f i) ≤ L) → nat_abs (sum_to n f) ≤ n * L
unfolding sum_to
sum-small L zero f h = omega arith
sum-small L (suc n) f h =
    omega (arith, nat_abs-plus (sum_to n f) (f (suc n)), h (suc n) (omega arith) (omega arith), sum-small L n f (λ i lo le. h i lo (omega arith)), suc-mul n L)

-- a sum of at most 256 energies is what its word is read as
pub sum-reads : (n : ℕ) (f : ℕ → ℤ) → n ≤ points → ((i : ℕ) → 0 < i → i ≤ n → energy_ok (f i) ≡ true) → signed (word (sum_to n f)) ≡ sum_to n f
sum-reads n f few h =
    signed-word (sum_to n f) (small-fits (sum_to n f) (omega (arith, sum-small most_energy n f (λ i lo le. leb-true (nat_abs (f i)) most_energy (h i lo le)), mul-le-mul_right most_energy few)))

-- the old term out and the new one in, or the other way round: the word of the sum with the new term
module _ (n : ℕ) (f g : ℕ → ℤ) (p : ℕ) (lo : 0 < p) (hi : p ≤ n) (same : (i : ℕ) → 0 < i → i ≤ n → (i ≡ p → ⊥) → f i ≡ g i) where
  pub amended : plus (minus (word (sum_to n f)) (word (f p))) (word (g p)) ≡ word (sum_to n g)
  amended = cc (word-minus (sum_to n f) (f p), word-plus (sum_to n f -ℤ f p) (g p), sum-change n f g p lo hi same)

  pub amended-later : minus (plus (word (sum_to n f)) (word (g p))) (word (f p)) ≡ word (sum_to n g)
  amended-later =
      cc (word-plus (sum_to n f) (g p), word-minus (sum_to n f +ℤ g p) (f p), flip (sum_to n f) (g p) (neg_ℤ (f p)), sum-change n f g p lo hi same)

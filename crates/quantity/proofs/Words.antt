-- Laws of words: the word of a sum is the wrapped sum of the words, and an integer in range is what its word is read as. Assumes nothing.
use Rattle.std.proofs.Common.{◌≡◌, ℕ, zero, suc, ◌+◌, ◌-◌, ◌%◌, ◌^◌, ◌<◌, ◌≤◌, Bool, true, false, ◌||◌, ltb, leb, ℤ, pos, negsuc, ◌+ℤ◌, ◌-ℤ◌, neg_ℤ, nat_abs, refl, ap, ◌∙◌, arith, w64, Fits, SFits, to_z, of_z, ltb-false, ltb-true, le-leb, leb-true}
use mathlib.Core.Bool.{or-false}
use borrow.Author.Tests.{lt-leb}
use lib.IntN.{sub_ℕ}
use mir.Val.{sel}
use mir.ValLaws.{to_z-of_z, of_z-to_z, to_z-Fits}
use Rattle.quantity.specs.Limits.{most_energy, energy_ok}
use Rattle.quantity.specs.Word.{word, signed, negative, plus, minus}
use Rattle.quantity.proofs.Integers.{by-order}
use Rattle.quantity.proofs.Tests.{same-test}

pub word-below : (z : ℤ) → word z < 2 ^ 64
unfolding word
word-below (pos n) = omega arith
word-below (negsuc n) = omega arith

word-sub : (a b : ℕ) → word (sub_ℕ a b) ≡ (a % 2 ^ 64 + (2 ^ 64 - b % 2 ^ 64)) % 2 ^ 64
unfolding word
word-sub a b =
    by-order (λ (z : ℤ). word z ≡ (a % 2 ^ 64 + (2 ^ 64 - b % 2 ^ 64)) % 2 ^ 64) a b (λ h. omega arith) (λ h. omega arith)

-- the word of a sum is the wrapped sum of the words
pub word-plus : (a b : ℤ) → word (a +ℤ b) ≡ plus (word a) (word b)
unfolding word
word-plus (pos a) (pos b) = omega arith
word-plus (pos a) (negsuc b) = omega (arith, word-sub a (suc b))
word-plus (negsuc a) (pos b) = omega (arith, word-sub b (suc a))
word-plus (negsuc a) (negsuc b) = omega arith

word-neg : (b : ℤ) → word (neg_ℤ b) ≡ (2 ^ 64 - word b) % 2 ^ 64
unfolding word
word-neg (pos zero) = refl
word-neg (pos (suc n)) = omega arith
word-neg (negsuc n) = omega arith

-- and of a difference likewise
pub word-minus : (a b : ℤ) → word (a -ℤ b) ≡ minus (word a) (word b)
word-minus a b = word-plus a (neg_ℤ b) ∙ omega (arith, word-neg b, word-below b)

word-is : (z : ℤ) → SFits w64 z → word z ≡ of_z w64 z
unfolding word
word-is (pos n) f = omega (arith, f.sfits)
word-is (negsuc n) f = omega (arith, f.sfits)

-- an integer from -2 ^ 63 to 2 ^ 63 - 1 is what its word is read as
pub signed-word : (z : ℤ) → SFits w64 z → signed (word z) ≡ z
signed-word z f = ap (to_z w64) (word-is z f) ∙ to_z-of_z w64 z f

-- and a word is the word of what it is read as
pub word-signed : (n : ℕ) → n < 2 ^ 64 → word (signed n) ≡ n
word-signed n h = let f : Fits w64 n = record { fits = h } in word-is (to_z w64 n) (to_z-Fits w64 n f) ∙ of_z-to_z w64 n f

pub small-fits : (z : ℤ) → nat_abs z < 2 ^ 63 → SFits w64 z
small-fits (pos n) h = record { sfits = h }
small-fits (negsuc n) h = record { sfits = omega (arith, h) }

-- an energy's range, by its word
pub energy-word : (w : ℕ) → w < 2 ^ 64 → (leb w most_energy || leb (2 ^ 64 - most_energy) w) ≡ energy_ok (signed w)
energy-word w h = go (ltb w (2 ^ 63)) refl
  where
    go : (t : Bool) → ltb w (2 ^ 63) ≡ t → (leb w most_energy || leb (2 ^ 64 - most_energy) w) ≡ energy_ok (sel t (pos w) (negsuc (2 ^ 64 - suc w)))
    go true e =
        let k : w < 2 ^ 63 = ltb-true w (2 ^ 63) e in
        let n : leb (2 ^ 64 - most_energy) w ≡ false = lt-leb (2 ^ 64 - most_energy) w (omega arith) in
        rw (n, or-false)
    go false e =
        let k : 2 ^ 63 ≤ w = ltb-false w (2 ^ 63) e in
        let n : leb w most_energy ≡ false = lt-leb w most_energy (omega arith) in
        rw n (same-test (leb (2 ^ 64 - most_energy) w) (leb (suc (2 ^ 64 - suc w)) most_energy)
        (λ j. le-leb (suc (2 ^ 64 - suc w)) most_energy (omega (arith, leb-true (2 ^ 64 - most_energy) w j)))
        (λ j. le-leb (2 ^ 64 - most_energy) w (omega (arith, leb-true (suc (2 ^ 64 - suc w)) most_energy j))))

-- a word is read as negative from 2 ^ 63 on
pub negative-word : (w : ℕ) → leb (2 ^ 63) w ≡ negative (signed w)
unfolding negative
negative-word w = go (ltb w (2 ^ 63)) refl
  where
    go : (t : Bool) → ltb w (2 ^ 63) ≡ t → leb (2 ^ 63) w ≡ negative (sel t (pos w) (negsuc (2 ^ 64 - suc w)))
    go true e = lt-leb (2 ^ 63) w (ltb-true w (2 ^ 63) e)
    go false e = le-leb (2 ^ 63) w (ltb-false w (2 ^ 63) e)

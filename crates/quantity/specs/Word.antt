-- An energy or a figure in a store is a 64-bit word in two's complement.
use Rattle.std.specs.Prelude.{Bool, true, false, ℕ, suc, ◌+◌, ◌-◌, ◌%◌, ◌^◌, ℤ, pos, negsuc}
use Rattle.std.specs.Int.{w64}
use Rattle.std.proofs.Common.{to_z}

-- the word of an integer: its lowest 64 bits
unfoldable pub word : ℤ → ℕ
word (pos n) = n % 2 ^ 64
word (negsuc n) = 2 ^ 64 - suc (n % 2 ^ 64)

-- the integer that a word is read as
abbrev pub signed : ℕ → ℤ
signed w = to_z w64 w

-- below 0
unfoldable pub negative : ℤ → Bool
negative (pos n) = false
negative (negsuc n) = true

-- "sums wrap at 64 bits": the sum of two words
abbrev pub plus : ℕ → ℕ → ℕ
plus a b = (a + b) % 2 ^ 64

-- "sums wrap at 64 bits": the difference of two words
abbrev pub minus : ℕ → ℕ → ℕ
minus a b = (a + (2 ^ 64 - b)) % 2 ^ 64

-- The figure in a book of bytes, said in document 01's numbers: what the two entries' definitions are judged by.
use Rattle.std.specs.Prelude.{ℕ, ◌+◌, ◌-◌, ◌*◌, ◌≡◌, ◌⊎◌, List, length, get_or}
use Rattle.quantity.specs.Meaning.{Between}
use Rattle.book.specs.Bytes.{figure_refusal, figure_in}

-- "Q, run, group and quarter hour", each within its range
abbrev pub InRange : (quarters run group quarter : ℕ) → Type 0
InRange q r g n = Between 1 2980 q × (((r ≡ 1) ⊎ (r ≡ 2)) × (Between 1 64 g × Between 1 q n))

-- "lowest first": eight bytes of a store from an offset on
abbrev pub eight_bytes : List ℕ → (at : ℕ) → ℕ
eight_bytes s at =
    get_or s at 0
    + 256 * (get_or s (at + 1) 0
    + 256 * (get_or s (at + 2) 0
    + 256 * (get_or s (at + 3) 0
    + 256 * (get_or s (at + 4) 0
    + 256 * (get_or s (at + 5) 0
    + 256 * (get_or s (at + 6) 0
    + 256 * get_or s (at + 7) 0))))))

-- the two entries' answers
pub record Figures (s : List ℕ) (q r g n : ℕ) : Type 0 where
  -- "3 for a number outside its range"
  pub three : (InRange q r g n → ⊥) → figure_refusal (length s) q r g n ≡ 3
  -- "else 2 for a length other than 1,296 × Q"
  pub two : InRange q r g n → (length s ≡ 1296 * q → ⊥) → figure_refusal (length s) q r g n ≡ 2
  -- "else 0"
  pub zero : InRange q r g n → length s ≡ 1296 * q → figure_refusal (length s) q r g n ≡ 0
  -- "another gives the figure": "run r, row k, quarter q at index ((r-1) × 81 + k) × Q + q-1", "eight to a figure"
  pub figure : InRange q r g n → length s ≡ 1296 * q → figure_in s q r g n ≡ eight_bytes s (8 * (((r - 1) * 81 + (g - 1)) * q + (n - 1)))
  -- "and 0 where the first refuses"
  pub none : (figure_refusal (length s) q r g n ≡ 0 → ⊥) → figure_in s q r g n ≡ 0

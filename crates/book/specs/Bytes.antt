-- "For a book as bytes, eight to a figure, lowest first, two's complement, with Q, run, group and quarter hour, one entry gives 3 for a number
-- outside its range, else 2 for a length other than 1,296 × Q, else 0; another gives the figure, and 0 where the first refuses."
use Rattle.std.specs.Prelude.{Bool, cond, ◌&&◌, List, [], ◌∷◌, ℕ, ◌+◌, ◌*◌, eqb, take, drop, length}
use Rattle.quantity.specs.Limits.{within, quarters_ok, run_ok, group_ok}
use Rattle.book.specs.Place.{group_row, figure_at}

-- "lowest first": the number that bytes are
unfoldable pub word_of : List ℕ → ℕ
word_of [] = 0
word_of (b ∷ l) = b + 256 * word_of l

-- "eight to a figure"
abbrev pub bytes_at : List ℕ → (at : ℕ) → ℕ
bytes_at book at = word_of (take 8 (drop at book))

-- Q, run, group and quarter hour, each within its range
abbrev pub figure_ok : (quarters run group quarter : ℕ) → Bool
figure_ok q r g n = quarters_ok q && (run_ok r && (group_ok g && within 1 q n))

-- "3 for a number outside its range, else 2 for a length other than 1,296 × Q, else 0"
unfoldable pub figure_refusal : (bytes quarters run group quarter : ℕ) → ℕ
figure_refusal len q r g n = cond (figure_ok q r g n) (cond (eqb len (1296 * q)) 0 2) 3

-- "the figure, and 0 where the first refuses": a word
unfoldable pub figure_in : List ℕ → (quarters run group quarter : ℕ) → ℕ
figure_in book q r g n = cond (eqb (figure_refusal (length book) q r g n) 0) (bytes_at book (8 * figure_at q r (group_row g) n)) 0

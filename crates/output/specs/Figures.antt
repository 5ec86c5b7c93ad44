-- The figures of a book that the program prints.
use Rattle.std.specs.Prelude.{ℕ, zero, suc, ◌≤◌, ◌≡◌, List, ℤ, get_or}
use Rattle.quantity.specs.Limits.{runs, groups, most_quarters}
use Rattle.quantity.specs.Sum.{sum_to}
use Rattle.quantity.specs.Word.{plus, signed}
use Rattle.book.specs.Place.{figure_at, group_row}

-- a run and a quarter hour of a month of so many
pub record IsPlace (quarters run quarter : ℕ) : Type 0 where
  pub low : 1 ≤ run
  pub high : run ≤ runs
  pub few : quarters ≤ most_quarters
  pub from : 1 ≤ quarter
  pub to : quarter ≤ quarters

-- a group's figure in the book: "Rows 0..63 are groups 1..64"
abbrev pub word_of : (book : List ℕ) (quarters run quarter group : ℕ) → ℕ
word_of s q r n g = get_or s (figure_at q r (group_row g) n) 0

-- what it is read as
abbrev pub read_of : (book : List ℕ) (quarters run quarter group : ℕ) → ℤ
read_of s q r n g = signed (word_of s q r n g)

-- the sum of the first groups' figures: "sums wrap at 64 bits"
unfoldable pub total_of : (book : List ℕ) (quarters run quarter groups : ℕ) → ℕ
total_of s q r n zero = 0
total_of s q r n (suc g) = plus (total_of s q r n g) (word_of s q r n (suc g))

-- in no quarter hour the groups' sum wraps
abbrev pub Summed : (book : List ℕ) (quarters : ℕ) → Type 0
Summed s q = (run quarter : ℕ) → IsPlace q run quarter → signed (total_of s q run quarter groups) ≡ sum_to groups (read_of s q run quarter)

-- The larger of 0 and a difference, the sums over the month and the report from bytes, said in the papers' numbers: what the definitions are judged by.
use Rattle.std.specs.Prelude.{ℕ, ◌+◌, ◌-◌, ◌*◌, ◌^◌, ◌≤◌, ◌<◌, ◌≡◌, ◌⊎◌, List, ℤ, pos, nat_abs, ◌+ℤ◌, ◌-ℤ◌, length, get_or}
use Rattle.quantity.specs.Meaning.{Between}
use Rattle.quantity.specs.Sum.{sum_to}
use Rattle.quantity.specs.Word.{word, signed}
use Rattle.book.specs.Laws.{eight_bytes}
use Rattle.deviation.specs.Deviation.{larger, over}
use Rattle.deviation.specs.Bytes.{report_refusal, surplus_in, shortfall_in}

-- "the larger of 0 and" z: one of the two, and neither is above it
pub record Larger (z : ℤ) : Type 0 where
  pub either : (larger z ≡ pos 0) ⊎ (larger z ≡ z)
  pub not_below_zero : (n : ℕ) × (larger z ≡ pos n)
  pub not_below : (n : ℕ) × (larger z ≡ z +ℤ pos n)

-- the larger of 0 and a difference of two words: it wraps, and is exact for numbers up to 2^61 in size
pub record Over (a b : ℕ) : Type 0 where
  pub reads : signed (over a b) ≡ larger (signed (word (signed a -ℤ signed b)))
  pub exact : nat_abs (signed a) ≤ 2 ^ 61 → nat_abs (signed b) ≤ 2 ^ 61 → signed (over a b) ≡ larger (signed a -ℤ signed b)

-- each is a word
abbrev pub Words : List ℕ → Type 0
Words l = (i : ℕ) → get_or l i 0 < 2 ^ 64

-- "run r, row k, quarter q at index ((r-1) × 81 + k) × Q + q-1": the figure of quarter hour n
abbrev pub figure_at : (book : List ℕ) (quarters run group n : ℕ) → ℤ
figure_at b q r g n = signed (get_or b (((r - 1) * 81 + (g - 1)) * q + (n - 1)) 0)

-- "group g, quarter q at (g-1) × Q + q-1": what is planned for quarter hour n
abbrev pub schedule_at : (schedules : List ℕ) (quarters group n : ℕ) → ℤ
schedule_at s q g n = signed (get_or s ((g - 1) * q + (n - 1)) 0)

-- two words that are both sums over the month, of a run and a group from stores of words
pub record Sums (s b : List ℕ) (q r g more less : ℕ) : Type 0 where
  -- "the surplus is the larger of 0 and schedule minus figure", summed over the month; "differences wrap as sums do"
  pub surplus : Words s → Words b → more ≡ word (sum_to q (λ (n : ℕ). larger (signed (word (schedule_at s q g n -ℤ figure_at b q r g n)))))
  -- "the shortfall the larger of 0 and figure minus schedule", summed over the month
  pub shortfall : Words s → Words b → less ≡ word (sum_to q (λ (n : ℕ). larger (signed (word (figure_at b q r g n -ℤ schedule_at s q g n)))))

-- Q, run and group, each within its range
abbrev pub InRange : (quarters run group : ℕ) → Type 0
InRange q r g = Between 1 2980 q × (((r ≡ 1) ⊎ (r ≡ 2)) × Between 1 64 g)

-- a book of 162 × Q figures and schedules of 64 × Q numbers, eight bytes each
abbrev pub Whole : (book schedules : List ℕ) (quarters : ℕ) → Type 0
Whole b s q = (length b ≡ 1296 * q) × (length s ≡ 512 * q)

-- each is a byte
abbrev pub Bytes : List ℕ → Type 0
Bytes l = (i : ℕ) → get_or l i 0 < 256

-- the figure of quarter hour n, eight bytes of the book
abbrev pub figure_of : (book : List ℕ) (quarters run group n : ℕ) → ℤ
figure_of b q r g n = signed (eight_bytes b (8 * (((r - 1) * 81 + (g - 1)) * q + (n - 1))))

-- what is planned for quarter hour n, eight bytes of the schedules
abbrev pub schedule_of : (schedules : List ℕ) (quarters group n : ℕ) → ℤ
schedule_of s q g n = signed (eight_bytes s (8 * ((g - 1) * q + (n - 1))))

-- the answers on the report from bytes
pub record Reports (b s : List ℕ) (q r g : ℕ) : Type 0 where
  -- 3 for a number outside its range
  pub three : (InRange q r g → ⊥) → report_refusal (length b) (length s) q r g ≡ 3
  -- else 2 for another length
  pub two : InRange q r g → (Whole b s q → ⊥) → report_refusal (length b) (length s) q r g ≡ 2
  -- else 0
  pub zero : InRange q r g → Whole b s q → report_refusal (length b) (length s) q r g ≡ 0
  -- "the surplus is the larger of 0 and schedule minus figure", summed over the month; "differences wrap as sums do"
  pub surplus : InRange q r g → Whole b s q → Bytes b → Bytes s
      → surplus_in b s q r g ≡ word (sum_to q (λ (n : ℕ). larger (signed (word (schedule_of s q g n -ℤ figure_of b q r g n)))))
  -- "the shortfall the larger of 0 and figure minus schedule", summed over the month
  pub shortfall : InRange q r g → Whole b s q → Bytes b → Bytes s
      → shortfall_in b s q r g ≡ word (sum_to q (λ (n : ℕ). larger (signed (word (figure_of b q r g n -ℤ schedule_of s q g n)))))
  -- "both 0 when refused"
  pub none : (report_refusal (length b) (length s) q r g ≡ 0 → ⊥) → (surplus_in b s q r g ≡ 0) × (shortfall_in b s q r g ≡ 0)

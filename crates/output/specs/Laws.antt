-- The whole output as a list of lines, said in the papers' numbers: which lines there are, in which order, and that the output is their texts. What
-- `output_of` is judged by.
use Rattle.std.specs.Prelude.{ℕ, ◌-◌, ◌≤◌, ◌<◌, ◌≡◌, pos, length, get_or, take, drop, Option, Some, None}
use mathlib.Core.List.{List, [], ◌∷◌, ◌++◌, map, Memᴰ}
use Rattle.quantity.specs.Meaning.{Between}
use Rattle.quantity.specs.Sum.{sum_to}
use Rattle.state.specs.Selection.{selected}
use Rattle.state.specs.Status.{status_number}
use Rattle.state.specs.declared.VersionRow.{VersionRow}
use Rattle.state.specs.declared.Selection.TheVariants.{Selected}
use Rattle.message.specs.Call.{Sent}
use Rattle.message.specs.File.{calls_in, verdict_of, refusal_of, offset_of}
use Rattle.model.specs.Call.{Told}
use Rattle.model.specs.Plain.{opening_of, versions_of, figure, plain_replies, plain_end}
use Rattle.replay.specs.Feeding.{tells}
use Rattle.replay.specs.Given.{given, given_in}
use Rattle.replay.specs.Replay.{numbers_of}
use Rattle.text.specs.Laws.{Line, answer, refusal, group, total, chosen, Shows}

-- ---- lists of lines

-- the place of a line, number by number: an answer's by its call, a figure's behind the answers by run, quarter hour and group, a sum's behind group
-- 64, a selection's behind these by run and point; a file refusal stands behind the answers too
abbrev pub place_of : Line → List ℕ
place_of (answer n a) = 1 ∷ n ∷ []
place_of (refusal n o) = 2 ∷ []
place_of (group r q g v) = 2 ∷ r ∷ q ∷ g ∷ []
place_of (total r q v) = 2 ∷ r ∷ q ∷ 65 ∷ []
place_of (chosen r p x s) = 3 ∷ r ∷ p ∷ []

-- the one place is before the other: the first number that differs decides
pub data Earlier : List ℕ → List ℕ → Type 0 where
  here : {a b : ℕ} {l m : List ℕ} → a < b → Earlier (a ∷ l) (b ∷ m)
  behind : {a : ℕ} {l m : List ℕ} → Earlier l m → Earlier (a ∷ l) (a ∷ m)

-- the places rise: each line's is before those of all behind it, so that no line stands there twice
pub data Rising : List Line → Type 0 where
  none : Rising []
  one : {x : Line} {l : List Line} → ((y : Line) → Memᴰ y l → Earlier (place_of x) (place_of y)) → Rising l → Rising (x ∷ l)

-- the lines' texts, one behind the other
pub data Texts : List Line → List ℕ → Type 0 where
  none : Texts [] []
  one : {x : Line} {l : List Line} {u : List ℕ} (t : List ℕ) → Shows x t → Texts l u → Texts (x ∷ l) (t ++ u)

-- a text is that of the lines that are due, of each once, in the order of their places
pub record Printed (Due : Line → Type 0) (text : List ℕ) : Type 0 where
  pub lines : List Line
  pub texts : Texts lines text
  pub rising : Rising lines
  pub only : (x : Line) → Memᴰ x lines → Due x
  pub each : (x : Line) → Due x → Memᴰ x lines

-- ---- the lines of the output

-- "The desk program reads the first 65,536 bytes of standard input as the file"
abbrev pub file_of : (input : List ℕ) → List ℕ
file_of input = take 65536 input

-- its calls: "lends a series buffer of 2,980"
abbrev pub calls_of : (input : List ℕ) → List Sent
calls_of input = (calls_in 2980 (file_of input)).calls

-- what the plain desk is told of them: "4,096 values, 162 × Q book, 512 log rows" of four numbers, document 02's schedules of 64 × Q, for Q up to 8
abbrev pub told_of : (input : List ℕ) → List Told
told_of input = tells (record { values = 4096; book = 1296; log = 2048; schedules = 512 }) [] (map given (given_in (calls_of input)))

-- the calls that it accepts
abbrev pub accepted_of : (input : List ℕ) → List Told
accepted_of input = plain_end [] (told_of input)

-- "0 or the number of the first refusal"
abbrev pub refused_by : (input : List ℕ) → ℕ
refused_by input = refusal_of (verdict_of (file_of input))

-- the lines that are due for an input, by their kinds
abbrev pub Due : (input : List ℕ) → Line → Type 0
-- "It prints call number (from 1) and answer in decimal for each call"
Due input (answer n a) = Between 1 (length (calls_of input)) n × (get_or (numbers_of (plain_replies [] (told_of input))) (n - 1) 0 ≡ a)
-- "on a file refusal `F number offset` after the lines already printed, then nothing"
Due input (refusal n o) = (1 ≤ n) × (refused_by input ≡ n) × (offset_of (verdict_of (file_of input)) ≡ o)
-- "Then, if open, for each run and quarter: `G run quarter group figure` for figures not 0"; "Rows 0..63 are groups 1..64"
Due input (group r q g v) =
    (refused_by input ≡ 0)
    × Between 1 2 r
    × Between 1 (opening_of (accepted_of input)).quarters q
    × Between 1 64 g
    × (figure (accepted_of input) r (g - 1) (q - 1) ≡ v)
    × (v ≡ pos 0 → ⊥)
-- "and `T run quarter sum`"
Due input (total r q v) =
    (refused_by input ≡ 0)
    × Between 1 2 r
    × Between 1 (opening_of (accepted_of input)).quarters q
    × (sum_to 64 (λ (g : ℕ). figure (accepted_of input) r (g - 1) (q - 1)) ≡ v)
-- document 02: "`S run point version status` .. for points with a selection"; "if open"
Due input (chosen r p x s) =
    (refused_by input ≡ 0)
    × Between 1 2 r
    × Between 1 256 p
    × (1 ≤ (opening_of (accepted_of input)).quarters)
    × ((v : VersionRow) × (selected r p (versions_of (accepted_of input)) ≡ Selected v) × (v.version.0 ≡ x) × (status_number v.status ≡ s))

-- the lines that are due stand in a buffer from its start on, and all behind them is as it was; one of fewer than 330,781 bytes is as it was
pub record Buffered (input before after : List ℕ) (r : Option ℕ) : Type 0 where
  pub enough : 330781 ≤ length before → (n : ℕ) × (r ≡ Some n) × Printed (Due input) (take n after) × (drop n after ≡ drop n before)
  pub small : length before < 330781 → (r ≡ None) × (after ≡ before)

-- A buffer filled with the output.
use Rattle.std.specs.Prelude.{ℕ, ◌+◌, ◌*◌, ◌≡◌, cond, List, leb, length, Option, Some, None}
use Rattle.quantity.specs.Limits.{runs, points, groups}
use Rattle.replay.specs.Replay.{over}
use Rattle.output.specs.Output.{program_quarters, output_of}

-- the calls that 65,536 bytes hold at most
abbrev pub most_calls : ℕ
most_calls = 21845

-- the bytes of a call's line at most: a number below 100,000 and an answer below 100
abbrev pub answer_room : ℕ
answer_room = 9

-- of a line of two numbers, whatever they are
abbrev pub line_room : ℕ
line_room = 42

-- of a group's line
abbrev pub group_room : ℕ
group_room = 87

-- of a sum's line
abbrev pub total_room : ℕ
total_room = 66

-- of a quarter hour
abbrev pub quarter_room : ℕ
quarter_room = group_room * groups + total_room

-- of all figures
abbrev pub figures_room : ℕ
figures_room = runs * (quarter_room * program_quarters)

-- of a selection's line
abbrev pub selection_room : ℕ
selection_room = 86

-- of a run's selections
abbrev pub run_room : ℕ
run_room = selection_room * points

-- of all selections
abbrev pub selections_room : ℕ
selections_room = runs * run_room

-- of what stands behind the answers
abbrev pub end_room : ℕ
end_room = figures_room + selections_room

-- a buffer of so many bytes is enough for any input
abbrev pub most : ℕ
most = answer_room * most_calls + end_room

-- the output's length; none where a buffer of so many bytes is too small
abbrev pub filled_of : (room : ℕ) (text : List ℕ) → Option ℕ
filled_of room t = cond (leb most room) (Some (length t)) None

-- the buffer after it: the text, and behind it what stood there; one that is too small stays as it was
abbrev pub buffer_after : (text before : List ℕ) → List ℕ
buffer_after t b = cond (leb most (length b)) (over t b) b

-- a buffer was filled with the output for an input
pub record Fills (input before after : List ℕ) (r : Option ℕ) : Type 0 where
  pub answer : r ≡ filled_of (length before) (output_of input)
  pub buffer : after ≡ buffer_after (output_of input) before

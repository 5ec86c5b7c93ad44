-- What the parts of the code ask and give: answers of two digits, the stores' sizes, and the text behind the answers.
use Rattle.state.specs.declared.Selection.{Selection}
use Rattle.std.specs.Prelude.{ℕ, ◌+◌, ◌-◌, ◌<◌, ◌≡◌, List, [], ◌++◌, ℤ, length, get_or}
use Rattle.quantity.specs.Limits.{points}
use Rattle.state.specs.declared.VersionRecord.{VersionRecord}
use Rattle.checks.specs.Picks.{no_picks, selected_in}
use Rattle.state.specs.declared.PerRun.{PerRun}
use Rattle.message.specs.Cause.{cause_number}
use Rattle.replay.specs.declared.Ending.{Ending}
use Rattle.replay.specs.declared.Ending.TheVariants.{End, Refused, Full}
use Rattle.text.specs.Line.{refusal_line}
use Rattle.text.specs.Text.{each_to}
use Rattle.output.specs.Fill.{most_calls}
use Rattle.output.specs.Output.{series_size, lent, month_text, selection_text, selections_text}

-- the first n answers are below 100
abbrev pub Short : (answers : List ℕ) (n : ℕ) → Type 0
Short l n = (i : ℕ) → i < n → get_or l i 0 < 100

-- stores of the program's sizes, its series buffer, and answers: one more than 65,536 bytes hold calls
pub record Sized (v b l p s a : List ℕ) : Type 0 where
  pub values : length v ≡ lent.values
  pub book : length b ≡ lent.book
  pub log : length l ≡ lent.log
  pub schedules : length p ≡ lent.schedules
  pub series : length s ≡ series_size
  pub answers : length a ≡ most_calls + 1

-- a point's selection in a run by a table of picks: point 1 at 0, point 2 at 1, and so on
abbrev pub pick_text : (run : ℕ) → List (PerRun Selection) → (point : ℕ) → List ℕ
pick_text run t p = selection_text run p (selected_in run (get_or t (p - 1) no_picks))

-- those of all points
abbrev pub picks_text : (run : ℕ) → List (PerRun Selection) → List ℕ
picks_text run t = each_to points (pick_text run t)

-- the text behind the answers, by how a replay ended: its refusal, or the figures and the selections
abbrev pub ended_text : Ending → (quarters : ℕ) → (ℕ → ℕ → ℕ → ℤ) → List VersionRecord → List ℕ
ended_text End n f vs = month_text n f ++ selections_text vs
ended_text (Refused x at) n f vs = refusal_line (cause_number x) at
ended_text Full n f vs = []

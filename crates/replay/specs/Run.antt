-- What the code of a replay promises, said with the running desk on one call of a file after the other.
use Rattle.std.specs.Prelude.{ℕ, ◌≡◌, List, length, Some, None, Ok, Err}
use Rattle.message.specs.File.{calls_in}
use Rattle.state.specs.declared.Desk.{Desk}
use Rattle.model.specs.Agreement.{Running}
use Rattle.model.specs.Call.{Call, Stores}
use Rattle.model.specs.declared.Answer.{Answer}
use Rattle.replay.specs.Play.{outcome_of, handed, Playing, play}
use Rattle.replay.specs.Replay.{calls_for, ending_of}
use Rattle.reader.specs.Reader.{Reading}
use Rattle.replay.specs.declared.Ending.{Ending}
use Rattle.replay.specs.declared.Ending.TheVariants.{End, Refused, Full}

-- a desk and its stores
abbrev pub running_of : Desk → Stores → Running
running_of d s = record { desk = d; stores = s }

-- a call was handed on: its answer, and the desk with its stores after it
pub record Handed (r : Running) (c : Call) (answer : Answer) (after : Running) : Type 0 where
  pub answered : answer ≡ (outcome_of r c).answer
  pub running : after ≡ handed r c

-- a replay under way, by its parts
abbrev pub playing_of : Desk → Stores → (series answers : List ℕ) (answered : ℕ) → Playing
playing_of d s series answers n = record { running = running_of d s; series = series; answers = answers; answered = n }

-- how a file ends where no call is read
abbrev pub ended_by : Reading → Ending
ended_by (Ok (Some r)) = Full
ended_by (Ok None) = End
ended_by (Err r) = Refused r.cause r.offset

-- a file was run: what is left is what its calls leave, one after the other, and the ending is the file's
pub record Ran (file : List ℕ) (start after : Playing) (ending : Ending) : Type 0 where
  pub played : after ≡ play start (calls_for file (length start.series) (length start.answers))
  pub ended : ending ≡ ending_of (length file) (length start.answers) (calls_in (length start.series) file)

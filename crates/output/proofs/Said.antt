-- From the bytes of the program's input to the calls of the papers.
use Prim.Native.Nat.{ℕ}
use mathlib.Core.Path.{◌≡◌}
use mathlib.Core.Bool.{true}
use mathlib.Core.List.{List, [], map}
use Rattle.message.specs.File.{calls_in}
use Rattle.message.specs.Number.{are_bytes}
use Rattle.model.specs.Call.{Call}
use Rattle.replay.proofs.Said.{file-told, told-said}
use Rattle.replay.specs.Feeding.{tells}
use Rattle.replay.specs.Given.{given, given_in}
use Rattle.replay.specs.Said.{SaysAll}
use Rattle.output.specs.Laws.{file_of, calls_of, told_of}

-- whose answers, figures and selections the lines are: those of the calls that the first 65,536 bytes say, up to their end or their first refusal
pub program-told : (input : List ℕ) {left : List ℕ} {calls : List Call} → SaysAll 2980 (file_of input) calls left → (calls_in 2980 left).calls ≡ []
    → told_of input ≡ tells (record { values = 4096; book = 1296; log = 2048; schedules = 512 }) [] calls
program-told input said ended = file-told 2980 said ended (record { values = 4096; book = 1296; log = 2048; schedules = 512 })

-- and of any input they are those of the calls that its bytes say
pub program-said : (input : List ℕ) → are_bytes (file_of input) ≡ true → SaysAll 2980 (file_of input) (map given (given_in (calls_of input))) (calls_in 2980 (file_of input)).left
program-said input = told-said 2980 (file_of input)

-- What the writer answers, and what it leaves in the output.
use Rattle.std.specs.Prelude.{ℕ, ◌+◌, Bool, cond, List, [], ◌++◌, map, ltb, eqb, ℤ, length, take, drop, Result, Ok, Err}
use Rattle.quantity.specs.Word.{signed}
use Rattle.message.specs.Number.{encode_all}
use Rattle.message.specs.Call.{Sent, submission, fields_of, is_kind, print, small}
use Rattle.message.specs.declared.FileCause.{FileCause}
use Rattle.message.specs.declared.FileCause.TheVariants.{BadKind, TooLarge, NoRoom}
use Rattle.message.specs.declared.FileRefusal.{FileRefusal}

-- the energies that are handed to the writer: those of a submission
abbrev pub energies_for : (kind : ℕ) (series : List ℕ) → List ℤ
energies_for k series = cond (eqb k submission) (map signed series) []

-- the call that is handed to the writer: the fields of its kind, and its energies
abbrev pub handed : (kind : ℕ) (fields series : List ℕ) → Sent
handed k fields series = record { kind = k; fields = take (fields_of k) fields; energies = energies_for k series }

-- how many bytes numbers take, where a file can carry them; else "34"
abbrev pub sized : (carried : Bool) → List ℕ → Result ℕ FileCause
sized fits l = cond fits (Ok (length (encode_all l))) (Err TooLarge)

-- a refusal: "31 to 35 come with an offset, .. or 0 from the writer"
abbrev pub not_written : FileCause → Result ℕ FileRefusal
not_written x = Err (record { cause = x; offset = 0 })

-- the writer's answer: "call kind not 1..7 33" (document 02: "byte 8 no longer meets 33"), "(writer) a field ≥ 2^63 or an energy outside -2^62..2^62-1 34",
-- "writer: output too short 35"
abbrev pub written_in : (room : ℕ) → Sent → Result ℕ FileRefusal
written_in room c =
    cond (is_kind c.kind)
    (cond (small c) (cond (ltb room (length (print c))) (not_written NoRoom) (Ok (length (print c)))) (not_written TooLarge))
    (not_written BadKind)

-- bytes written into an output from an index on
abbrev pub put_in : (output : List ℕ) (at : ℕ) (bytes : List ℕ) → List ℕ
put_in output at s = take at output ++ (s ++ drop (at + length s) output)

-- the output after the call: exactly the call's bytes at its start; "A refusal .. changes nothing in .. the output."
abbrev pub output_after : Result ℕ FileRefusal → Sent → (output : List ℕ) → List ℕ
output_after (Ok n) c output = put_in output 0 (print c)
output_after (Err r) c output = output

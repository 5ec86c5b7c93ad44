-- What the reader answers at an offset of a file, and what it leaves in the series buffer.
use Rattle.std.specs.Prelude.{ℕ, ◌-◌, cond, List, [], ◌++◌, eqb, ℤ, length, drop, replicate, Option, Some, None, Result, Ok, Err}
use Rattle.message.specs.Read.{Read, got, refused}
use Rattle.message.specs.Call.{Sent, parse, most_fields}
use Rattle.message.specs.Named.{call_of, groups_of}
use Rattle.message.specs.Series.{filled}
use Rattle.message.specs.declared.DeskCall.{DeskCall}
use Rattle.message.specs.declared.FileCause.{FileCause}
use Rattle.message.specs.declared.FileCause.TheVariants.{BadKind}
use Rattle.message.specs.declared.FileRefusal.{FileRefusal}
use Rattle.reader.specs.declared.CallRead.{CallRead}
use Rattle.reader.specs.declared.FieldsRead.{FieldsRead}

-- what stands at an offset: a call, at the file's end none, or a refusal
abbrev pub Reading : Type 0
Reading = Result (Option CallRead) FileRefusal

-- a call's fields, with 0 behind them
abbrev pub padded : List ℕ → List ℕ
padded vs = vs ++ replicate (most_fields - length vs) 0

-- the fields that were read, and the offset behind them
abbrev pub fields_read : (length : ℕ) → Read (List ℕ) → Result FieldsRead FileCause
fields_read n (got vs r) = Ok (record { fields = padded vs; next = n - length r })
fields_read n (refused x) = Err x

-- a call by its name, with how many energies and the offset behind it; "call kind not 1..7 33" (document 02: "byte 8 no longer meets 33")
abbrev pub read_as : Option DeskCall → (groups : List ℕ) (count next : ℕ) → Result CallRead FileCause
read_as (Some d) gs n m = Ok (record { call = d; groups = gs; count = n; next = m })
read_as None gs n m = Err BadKind

-- a call that was read in a file of so many bytes, or the cause of its refusal
abbrev pub call_read : (length : ℕ) → Read Sent → Result CallRead FileCause
call_read n (got c r) = read_as (call_of c.kind (padded c.fields)) (groups_of (padded c.fields)) (length c.energies) (n - length r)
call_read n (refused x) = Err x

-- a refusal at an offset: "31 to 35 come with an offset, that of the refused call"
abbrev pub answer_at : (at : ℕ) → Result CallRead FileCause → Reading
answer_at at (Ok r) = Ok (Some r)
answer_at at (Err x) = Err (record { cause = x; offset = at })

-- a call that was read in a file of so many bytes, or its refusal
abbrev pub reading_of : (length at : ℕ) → Read Sent → Reading
reading_of n at d = answer_at at (call_read n d)

-- the call at an offset: "At the file's end it answers that no call follows; a start beyond it is 31."
unfoldable pub read_at : (file : List ℕ) (at room : ℕ) → Reading
read_at s at room = cond (eqb at (length s)) (Ok None) (reading_of (length s) at (parse room (drop at s)))

-- the energies of a call that was read
abbrev pub energies_of : Read Sent → List ℤ
energies_of (got c r) = c.energies
energies_of (refused x) = []

-- the series buffer after the call at an offset: "every other call leaves it unchanged"
abbrev pub series_after : (file : List ℕ) (at : ℕ) (series : List ℕ) → List ℕ
series_after s at series = filled (energies_of (parse (length series) (drop at s))) series

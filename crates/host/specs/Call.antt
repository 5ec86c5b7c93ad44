-- One call read and one call written, as numbers in slices.
use Rattle.std.specs.Prelude.{ℕ, ◌+◌, ◌≡◌, cond, List, [], ◌∷◌, ◌++◌, ltb, eqb, length, drop, Some, None, Result, Ok, Err}
use Rattle.message.specs.Cause.{cause_number}
use Rattle.message.specs.Call.{Sent, opening, activation, deactivation, submission, noticing, assignment, closing, issuing, most_fields}
use Rattle.message.specs.declared.DeskCall.{DeskCall}
use Rattle.message.specs.declared.DeskCall.TheVariants.{Open, Activate, Deactivate, Submit, Notice, Assign, Close, Issue}
use Rattle.reader.specs.Reader.{Reading, read_at, series_after}
use Rattle.writer.specs.Fields.{fields21}
use Rattle.writer.specs.Writer.{handed, written_in, output_after}
use Rattle.message.specs.declared.FileRefusal.{FileRefusal}

-- the places of what was read: next, kind, 21 fields, count
abbrev pub places : ℕ
places = 2 + most_fields + 1

-- a call's kind
abbrev pub kind_of : DeskCall → ℕ
kind_of (Open q f c k) = opening
kind_of (Activate p k a b d) = activation
kind_of (Deactivate p d) = deactivation
kind_of (Submit p v d) = submission
kind_of (Notice p v x d) = noticing
kind_of (Assign a g d) = assignment
kind_of (Close r d) = closing
kind_of (Issue r d) = issuing

-- a call's first four numbers, 0 where it has fewer; what comes behind them stands beside the call
abbrev pub head_of : DeskCall → List ℕ
head_of (Open q f c k) = q ∷ f.0 ∷ c.0 ∷ k.0 ∷ []
head_of (Activate p k a b d) = p.0 ∷ k ∷ a ∷ b ∷ []
head_of (Deactivate p d) = p.0 ∷ d.0 ∷ 0 ∷ 0 ∷ []
head_of (Submit p v d) = p.0 ∷ v.0 ∷ d.0 ∷ 0 ∷ []
head_of (Notice p v x d) = p.0 ∷ v.0 ∷ x ∷ d.0 ∷ []
head_of (Assign a g d) = a ∷ g ∷ d.0 ∷ 0 ∷ []
head_of (Close r d) = r ∷ d.0 ∷ 0 ∷ 0 ∷ []
head_of (Issue r d) = r ∷ d.0 ∷ 0 ∷ 0 ∷ []

-- 0 for a call, 1 where no call follows, else the refusal's number
abbrev pub read_answer : Reading → ℕ
read_answer (Ok (Some r)) = 0
read_answer (Ok None) = 1
read_answer (Err r) = cause_number r.cause

-- the first 24 places written, the others as they were
abbrev pub written : (first kind : ℕ) (fields : List ℕ) (count : ℕ) (out : List ℕ) → List ℕ
written first kind fields count out = first ∷ kind ∷ (fields ++ (count ∷ drop places out))

-- what stands there after a reading: only a call that is read writes its places. "A refusal returns its number and changes nothing in .. the output."
abbrev pub read_out : Reading → (out : List ℕ) → List ℕ
read_out (Ok (Some r)) out = written r.next (kind_of r.call) (head_of r.call ++ r.groups) r.count out
read_out (Ok None) out = out
read_out (Err r) out = out

-- "31 to 35 come with an offset, that of the refused call"; without a refusal the offset behind the call, at the file's end that end
abbrev pub step_offset : (start : ℕ) → Reading → ℕ
step_offset start (Ok (Some r)) = r.next
step_offset start (Ok None) = start
step_offset start (Err r) = r.offset

-- what a read answers, and how it leaves the series buffer and the places: 2, and nothing is done, where the places are fewer than 24
abbrev pub ReadCall : (file : List ℕ) (start : ℕ) (series out : List ℕ) (answer : ℕ) (series' out' : List ℕ) → Type 0
ReadCall file start series out answer series' out' =
    (answer ≡ cond (ltb (length out) places) 2 (read_answer (read_at file start (length series))))
    × (series' ≡ cond (ltb (length out) places) series (series_after file start series))
    × (out' ≡ cond (ltb (length out) places) out (read_out (read_at file start (length series)) out))

-- the call that is sent into the writer
abbrev pub sent_as : (kind : ℕ) (fields series : List ℕ) → Sent
sent_as kind fields series = handed kind (fields21 fields) series

-- 0, or the refusal's number
abbrev pub write_answer : Result ℕ FileRefusal → ℕ
write_answer (Ok n) = 0
write_answer (Err r) = cause_number r.cause

-- the length written stands in the first place, the others as they were; a refusal leaves all
abbrev pub write_out : Result ℕ FileRefusal → (out : List ℕ) → List ℕ
write_out (Ok n) out = n ∷ drop 1 out
write_out (Err r) out = out

-- what a write answers, and how it leaves the output and the place of its length: 2, and nothing is done, where that place is missing
abbrev pub WriteCall : Sent → (output out : List ℕ) (answer : ℕ) (output' out' : List ℕ) → Type 0
WriteCall c output out answer output' out' =
    (answer ≡ cond (eqb (length out) 0) 2 (write_answer (written_in (length output) c)))
    × (output' ≡ cond (eqb (length out) 0) output (output_after (written_in (length output) c) c output))
    × (out' ≡ cond (eqb (length out) 0) out (write_out (written_in (length output) c) out))

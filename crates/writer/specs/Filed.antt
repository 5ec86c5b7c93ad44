-- Calls written one behind the other.
use Rattle.std.specs.Prelude.{ℕ, ◌+◌, ◌≡◌, List, [], ◌∷◌, ◌++◌, length, take, drop, Result, Ok, Err}
use Rattle.message.specs.Call.{Sent, most_fields}
use Rattle.message.specs.declared.FileRefusal.{FileRefusal}
use Rattle.writer.specs.Writer.{handed, written_in, output_after}

-- how many bytes were written
abbrev pub bytes_of : Result ℕ FileRefusal → ℕ
bytes_of (Ok n) = n
bytes_of (Err r) = 0

-- the calls behind one that was handed to the writer, and itself before them if it was written
abbrev pub joined : Result ℕ FileRefusal → Sent → List Sent → List Sent
joined (Ok n) c cs = c ∷ cs
joined (Err r) c cs = cs

-- results that each meet `write_call`'s contract, each over the part of the output behind the last one's bytes: the calls that were written, the
-- output before them and after them, and where the last of them ends
pub data Filed : List Sent → (output last : List ℕ) (end : ℕ) → Type 0 where
  none : {output : List ℕ} → Filed [] output output 0
  one : (k : ℕ) (fields series : List ℕ) (r : Result ℕ FileRefusal) {output part last : List ℕ} {cs : List Sent} {end : ℕ} → length fields ≡ most_fields →
      (r ≡ written_in (length output) (handed k fields series)) × (part ≡ output_after r (handed k fields series) output) →
      Filed cs (drop (bytes_of r) part) last end → Filed (joined r (handed k fields series) cs) output (take (bytes_of r) part ++ last) (bytes_of r + end)

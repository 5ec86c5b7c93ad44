-- The calls that a file's bytes say, in the papers' words: what the reader, the dispatch and a replay together are judged by.
use Rattle.std.specs.Prelude.{ℕ, ◌≤◌, List, [], ◌∷◌, ◌++◌, ℤ, pos, length}
use Rattle.quantity.specs.Meaning.{Each}
use Rattle.message.specs.Laws.{Below, Sendable, Follows}
use Rattle.message.specs.Number.{encode_all}
use Rattle.model.specs.Call.{Call}
use Rattle.dispatch.specs.Laws.{Says}

-- the calls of the papers at a file's start, one after the other, up to the bytes that are left. Each stands there as the bytes of its kind, of its fields, each
-- "below 2^63", and of what follows them: at most 2,980 energies from -2^62 to 2^62-1, for which the series buffer has room.
pub data SaysAll (room : ℕ) : (file : List ℕ) → List Call → (left : List ℕ) → Type 0 where
  none : {left : List ℕ} → SaysAll room left [] left
  one : {kind : ℕ} {fields : List ℕ} {energies : List ℤ} {tail : List ℕ} {c : Call} {file : List ℕ} {calls : List Call} {left : List ℕ} → Says kind fields energies c →
      Follows kind energies tail → Each 0 Below fields → Each (pos 0) Sendable energies → length energies ≤ 2980 → length energies ≤ room → SaysAll room file calls left →
      SaysAll room (encode_all (kind ∷ (fields ++ tail)) ++ file) (c ∷ calls) left

-- The writer's answers in the papers' numbers: what its definitions are judged by.
use Rattle.std.specs.Prelude.{ℕ, ◌<◌, ◌≤◌, ◌^◌, ◌≡◌, List, ◌∷◌, ◌++◌, map, length, get_or, take, drop, Result, Ok, Err}
use Rattle.quantity.specs.Meaning.{Between}
use Rattle.quantity.specs.Word.{signed}
use Rattle.message.specs.Cause.{cause_number}
use Rattle.message.specs.Laws.{Sendable, HasFields, Follows}
use Rattle.message.specs.Number.{encode_all}
use Rattle.message.specs.declared.FileCause.{FileCause}
use Rattle.message.specs.declared.FileRefusal.{FileRefusal}

-- something of a call of so many fields is too large: "series count above 2,980, or (writer) a field ≥ 2^63 or an energy outside -2^62..2^62-1". Numbers behind
-- the kind's own fields do not count, nor a series where it is no submission.
pub data Large (kind count : ℕ) (fields series : List ℕ) : Type 0 where
  field : (i : ℕ) → i < count → 2 ^ 63 ≤ get_or fields i 0 → Large kind count fields series
  many : kind ≡ 4 → 2980 < length series → Large kind count fields series
  energy : kind ≡ 4 → (i : ℕ) → i < length series → (Sendable (signed (get_or series i 0)) → ⊥) → Large kind count fields series

-- a call's bytes: those of "its kind, then fields", and of what follows them
pub data Bytes (kind count : ℕ) (fields series : List ℕ) : List ℕ → Type 0 where
  bytes : {tail : List ℕ} → Follows kind (map signed series) tail → Bytes kind count fields series (encode_all (kind ∷ (take count fields ++ tail)))

-- the answer to a call and the output after it. The cases exclude one another, so that each answer is given exactly where its case says. "A refusal .. changes
-- nothing in .. the output", "31 to 35 come with an offset, .. or 0 from the writer".
pub data Writes (kind : ℕ) (fields series output : List ℕ) : Result ℕ FileRefusal → (after : List ℕ) → Type 0 where
  -- "call kind not 1..7 (reader and writer) 33"; document 02: "byte 8 no longer meets 33"
  unknown : {x : FileCause} → cause_number x ≡ 33 → (Between 1 8 kind → ⊥) → Writes kind fields series output (Err (record { cause = x; offset = 0 })) output
  -- "series count above 2,980, or (writer) a field ≥ 2^63 or an energy outside -2^62..2^62-1 34"
  large : {x : FileCause} {n : ℕ} → cause_number x ≡ 34 → HasFields kind n → Large kind n fields series → Writes kind fields series output (Err (record { cause = x; offset = 0 })) output
  -- "writer: output too short 35"
  short : {x : FileCause} {n : ℕ} {s : List ℕ} → cause_number x ≡ 35 → HasFields kind n → (Large kind n fields series → ⊥) → Bytes kind n fields series s →
      length output < length s → Writes kind fields series output (Err (record { cause = x; offset = 0 })) output
  -- the call's bytes to the output's start, what is behind them stays; the answer is their count
  written : {n : ℕ} {s : List ℕ} → HasFields kind n → (Large kind n fields series → ⊥) → Bytes kind n fields series s →
      length s ≤ length output → Writes kind fields series output (Ok (length s)) (s ++ drop (length s) output)

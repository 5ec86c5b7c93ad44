-- The message file in the papers' words: a number's bytes, the fields of each kind, what follows them, what a file can carry, and what the reader answers.
-- The definitions are judged by these.
use Rattle.std.specs.Prelude.{ℕ, zero, suc, ◌+◌, ◌-◌, ◌*◌, ◌^◌, ◌<◌, ◌≤◌, ◌≡◌, List, [], ◌∷◌, ◌++◌, map, ℤ, pos, negsuc, length, get_or}
use Rattle.quantity.specs.Meaning.{Between}
use Rattle.message.specs.Call.{Sent}
use Rattle.message.specs.Cause.{cause_number}
use Rattle.message.specs.Energy.{sent, received}
use Rattle.message.specs.File.{Ending, whole, stopped}
use Rattle.message.specs.Read.{Read, got, refused}
use Rattle.message.specs.declared.FileCause.{FileCause}

-- "Numbers are groups of seven bits, lowest first, top bit set when more follow, shortest form": behind a byte that goes on stands no 0
pub data Groups : (bytes : List ℕ) (number : ℕ) → Type 0 where
  last : (b : ℕ) → b < 128 → Groups (b ∷ []) b
  more : (b : ℕ) {s : List ℕ} {v : ℕ} → Between 128 255 b → Groups s v → 0 < v → Groups (b ∷ s) (b - 128 + 128 * v)

-- "below 2^63"
abbrev pub Below : ℕ → Type 0
Below n = n < 2 ^ 63

-- an energy from -2^62 to 2^62-1; negsuc n is -n-1
abbrev pub Sendable : ℤ → Type 0
Sendable (pos n) = n < 2 ^ 62
Sendable (negsuc n) = n + 1 ≤ 2 ^ 62

-- "A call is its kind, then fields in the order above: 1 open, 2 activate, 3 deactivate, 4 submit .., 5 notice, 6 assign"; document 02: "kind 7 is close,
-- kind 8 issue, both with run and day". How many fields each kind has.
pub data HasFields : (kind count : ℕ) → Type 0 where
  -- "Q, F, C, K, 17 delta groups"
  opening : HasFields 1 21
  -- "point, kind, area, partner, day"
  activation : HasFields 2 5
  -- "point, day"
  deactivation : HasFields 3 2
  -- "point, version, day"
  submission : HasFields 4 3
  -- "point, version, verdict (1 positive, 0 negative), day"
  noticing : HasFields 5 4
  -- "area (0 for T), group, day"
  assignment : HasFields 6 3
  -- "run and day"
  closing : HasFields 7 2
  issuing : HasFields 8 2

-- what follows the fields: "4 submit (with a count before the energies)", nothing of another kind
pub data Follows : (kind : ℕ) (energies : List ℤ) (numbers : List ℕ) → Type 0 where
  series : (energies : List ℤ) → Follows 4 energies (length energies ∷ map sent energies)
  nothing : {kind : ℕ} {energies : List ℤ} → (kind ≡ 4 → ⊥) → Follows kind energies []

-- so many bytes at the head that have the "top bit set"
abbrev pub GoOn : (count : ℕ) → List ℕ → Type 0
GoOn n s = (i : ℕ) → i < n → 128 ≤ get_or s i 0

-- the number at the head of bytes and those behind it, or a refusal. The cases exclude one another, so that each answer is given exactly where its case says.
pub data ReadsNumber (s : List ℕ) : Read ℕ → Type 0 where
  number : (bytes left : List ℕ) {v : ℕ} → s ≡ bytes ++ left → Groups bytes v → Below v → ReadsNumber s (got v left)
  -- "file ends inside a call 31"
  cut : {x : FileCause} → cause_number x ≡ 31 → length s < 9 → GoOn (length s) s → ReadsNumber s (refused x)
  -- "file number not shortest .. 32": a byte 0 behind others
  padded : {x : FileCause} (n : ℕ) → cause_number x ≡ 32 → Between 1 8 n → n < length s → GoOn n s → get_or s n 0 ≡ 0 → ReadsNumber s (refused x)
  -- "or its ninth byte has the top bit set 32"
  ninth : {x : FileCause} → cause_number x ≡ 32 → 9 ≤ length s → GoOn 9 s → ReadsNumber s (refused x)

-- "each number as it comes": so many of them, or the refusal of the first that is none
pub data ReadsNumbers : (count : ℕ) → List ℕ → Read (List ℕ) → Type 0 where
  none : {s : List ℕ} → ReadsNumbers zero s (got [] s)
  one : {n v : ℕ} {s r : List ℕ} {vs q : List ℕ} → ReadsNumber s (got v r) → ReadsNumbers n r (got vs q) → ReadsNumbers (suc n) s (got (v ∷ vs) q)
  stops : {n : ℕ} {s : List ℕ} {x : FileCause} → ReadsNumber s (refused x) → ReadsNumbers (suc n) s (refused x)
  later : {n v : ℕ} {s r : List ℕ} {x : FileCause} → ReadsNumber s (got v r) → ReadsNumbers n r (refused x) → ReadsNumbers (suc n) s (refused x)

-- a submission's energies, behind its three fields: the count's "form before its meaning"
pub data ReadsSeries (room : ℕ) (s : List ℕ) : Read (List ℤ) → Type 0 where
  form : {x : FileCause} → ReadsNumber s (refused x) → ReadsSeries room s (refused x)
  -- "series count above 2,980 .. 34"
  many : {x : FileCause} {n : ℕ} {r : List ℕ} → ReadsNumber s (got n r) → cause_number x ≡ 34 → 2980 < n → ReadsSeries room s (refused x)
  -- "reader: series count above the length of the lent series buffer .. 35"
  room-short : {x : FileCause} {n : ℕ} {r : List ℕ} → ReadsNumber s (got n r) → cause_number x ≡ 35 → n ≤ 2980 → room < n → ReadsSeries room s (refused x)
  energy : {x : FileCause} {n : ℕ} {r : List ℕ} → ReadsNumber s (got n r) → n ≤ 2980 → n ≤ room → ReadsNumbers n r (refused x) → ReadsSeries room s (refused x)
  filled : {n : ℕ} {r us q : List ℕ} → ReadsNumber s (got n r) → n ≤ 2980 → n ≤ room → ReadsNumbers n r (got us q) → ReadsSeries room s (got (map received us) q)

-- a call: "The file reader checks each number as it comes, the kind too, its form before its meaning."
pub data ReadsCall (room : ℕ) (s : List ℕ) : Read Sent → Type 0 where
  form : {x : FileCause} → ReadsNumber s (refused x) → ReadsCall room s (refused x)
  -- "call kind not 1..7 .. 33"; document 02: "byte 8 no longer meets 33"
  kind : {x : FileCause} {k : ℕ} {r : List ℕ} → ReadsNumber s (got k r) → cause_number x ≡ 33 → (Between 1 8 k → ⊥) → ReadsCall room s (refused x)
  field : {x : FileCause} {k n : ℕ} {r : List ℕ} → ReadsNumber s (got k r) → HasFields k n → ReadsNumbers n r (refused x) → ReadsCall room s (refused x)
  call : {k n : ℕ} {r fs q : List ℕ} → ReadsNumber s (got k r) → HasFields k n → (k ≡ 4 → ⊥) → ReadsNumbers n r (got fs q) →
      ReadsCall room s (got (record { kind = k; fields = fs; energies = [] }) q)
  series : {x : FileCause} {r fs q : List ℕ} → ReadsNumber s (got 4 r) → ReadsNumbers 3 r (got fs q) → ReadsSeries room q (refused x) → ReadsCall room s (refused x)
  submission : {r fs q t : List ℕ} {es : List ℤ} → ReadsNumber s (got 4 r) → ReadsNumbers 3 r (got fs q) → ReadsSeries room q (got es t) →
      ReadsCall room s (got (record { kind = 4; fields = fs; energies = es }) t)

-- the end of a file's calls, with the bytes that are left: the file's end, where none is left, or the refusal of the call that they would be
pub data EndsFile (room : ℕ) : (left : List ℕ) → Ending → Type 0 where
  at-end : EndsFile room [] whole
  at-refusal : {left : List ℕ} {x : FileCause} → ReadsCall room left (refused x) → EndsFile room left (stopped x)

-- A call of the file: its numbers, what is written of it, what is read.
use Rattle.std.specs.Prelude.{ℕ, ◌+◌, ◌≡◌, Bool, true, false, cond, ◌&&◌, List, [], ◌∷◌, ◌++◌, map, leb, ltb, eqb, ℤ, length, get_or}
use Rattle.quantity.specs.Limits.{within, most_quarters, deltas}
use Rattle.quantity.specs.Lists.{all}
use Rattle.message.specs.Read.{Read, got, refused, onward}
use Rattle.message.specs.Number.{decode, encode_all, numbers_in, fits_number}
use Rattle.message.specs.Energy.{sent, received, fits_energy}
use Rattle.message.specs.declared.FileCause.TheVariants.{BadKind, TooLarge, NoRoom}

-- a call: "its kind, then fields", a submission's energies
pub record Sent : Type 0 where
  pub kind : ℕ
  pub fields : List ℕ
  pub energies : List ℤ

-- "A call is its kind, then fields": "1 open"
abbrev pub opening : ℕ
opening = 1

-- "2 activate"
abbrev pub activation : ℕ
activation = 2

-- "3 deactivate"
abbrev pub deactivation : ℕ
deactivation = 3

-- "4 submit (with a count before the energies)"
abbrev pub submission : ℕ
submission = 4

-- "5 notice"
abbrev pub noticing : ℕ
noticing = 5

-- "6 assign"
abbrev pub assignment : ℕ
assignment = 6

-- "7 settle"; document 02: "kind 7 is close", "an older file's settle is read as close"
abbrev pub closing : ℕ
closing = 7

-- document 02: "kind 8 issue"
abbrev pub issuing : ℕ
issuing = 8

-- the kinds are 1 to this one
abbrev pub kinds : ℕ
kinds = issuing

-- an opening's fields before its delta groups: "Q, F, C, K"
abbrev pub before_groups : ℕ
before_groups = 4

-- how many fields each kind has, from kind 0 on: "Q, F, C, K, 17 delta groups", "point, kind, area, partner, day", "point, day",
-- "point, version, day", "point, version, verdict, day", "area, group, day", "run, day"; document 02 of close and issue: "both with run and day"
abbrev pub field_counts : List ℕ
field_counts = 0 ∷ (before_groups + deltas) ∷ 5 ∷ 2 ∷ 3 ∷ 4 ∷ 3 ∷ 2 ∷ 2 ∷ []

-- how many fields a kind has
abbrev pub fields_of : (kind : ℕ) → ℕ
fields_of k = get_or field_counts k 0

-- the most fields that a call has: those of an opening
abbrev pub most_fields : ℕ
most_fields = fields_of opening

-- "call kind not 1..7"; document 02: "byte 8 no longer meets 33": 1 to 8
abbrev pub is_kind : ℕ → Bool
is_kind k = within 1 kinds k

-- what follows the fields: a submission's count and energies
abbrev pub tail_of : (kind : ℕ) (energies : List ℤ) → List ℕ
tail_of k es = cond (eqb k submission) (length es ∷ map sent es) []

-- a call's numbers: "its kind, then fields in the order above"
abbrev pub numbers_of : Sent → List ℕ
numbers_of c = c.kind ∷ (c.fields ++ tail_of c.kind c.energies)

-- a call's bytes
abbrev pub print : Sent → List ℕ
print c = encode_all (numbers_of c)

-- a count of energies: "series count above 2,980", "series count above the length of the lent series buffer"
abbrev pub count_in : (room : ℕ) → List ℕ → Read ℕ
count_in room s =
    onward (decode s) (λ (n : ℕ) (r : List ℕ).
    cond (ltb most_quarters n) (refused TooLarge) (cond (ltb room n) (refused NoRoom) (got n r)))

-- the energies behind a count
abbrev pub energies_in : (count : ℕ) → List ℕ → Read (List ℤ)
energies_in n s = onward (numbers_in n s) (λ (us r : List ℕ). got (map received us) r)

-- a submission's series
abbrev pub series_in : (room : ℕ) → List ℕ → Read (List ℤ)
series_in room s = onward (count_in room s) energies_in

-- what follows the fields of a kind
abbrev pub tail_in : (room kind : ℕ) → List ℕ → Read (List ℤ)
tail_in room k s = cond (eqb k submission) (series_in room s) (got [] s)

-- the fields of a kind, and what follows them
abbrev pub body_in : (room kind : ℕ) → List ℕ → Read Sent
body_in room k s =
    onward (numbers_in (fields_of k) s) (λ (fs q : List ℕ).
    onward (tail_in room k q) (λ (es : List ℤ) (r : List ℕ).
    got (record { kind = k; fields = fs; energies = es }) r))

-- a call behind its kind
abbrev pub kind_in : (room kind : ℕ) → List ℕ → Read Sent
kind_in room k s = cond (is_kind k) (body_in room k s) (refused BadKind)

-- a call, with room for so many energies: "The file reader checks each number as it comes, the kind too, its form before its meaning."
abbrev pub parse : (room : ℕ) → List ℕ → Read Sent
parse room s = onward (decode s) (kind_in room)

-- neither the count nor an energy is too large: "series count above 2,980, or (writer) .. an energy outside -2^62..2^62-1"
abbrev pub tail_small : List ℤ → Bool
tail_small es = leb (length es) most_quarters && all fits_energy es

-- no number of the call is too large: "(writer) a field ≥ 2^63"
abbrev pub small : Sent → Bool
small c = all fits_number c.fields && tail_small c.energies

-- a call that a file can carry
pub record Carried (c : Sent) : Type 0 where
  pub known : is_kind c.kind ≡ true
  pub whole : length c.fields ≡ fields_of c.kind
  pub fits : small c ≡ true
  pub alone : eqb c.kind submission ≡ false → c.energies ≡ []

-- Of each kind, from the numbers that stand in a file to the fields of the call that the reader gives. Assumes nothing.
use Prim.Native.Nat.{ℕ, ◌-◌, ◌≤◌}
use mathlib.Core.Path.{◌≡◌, refl, sym}
use mathlib.Core.Bool.{true, false, false≢true}
use mathlib.Core.List.{List, [], ◌∷◌, map, append-nil}
use native.Mathlib.Omega.{arith}
use borrow.Author.Tests.{ne_eqb, le-leb}
use lib.Dec.{eqb}
use lib.IntN.{ℤ}
use lib.ListN.{length, drop, replicate}
use Rattle.quantity.specs.Limits.{most_quarters, deltas}
use Rattle.quantity.specs.Lists.{all}
use Rattle.std.specs.Prelude.{Some, Ok}
use Rattle.message.specs.Number.{encode_all, fits_number}
use Rattle.message.specs.Energy.{sent, fits_energy}
use Rattle.message.specs.Read.{got}
use Rattle.message.specs.Call.{Sent, Carried, submission, most_fields, is_kind, fields_of, print, parse}
use Rattle.message.specs.Named.{call_of, groups_of}
use Rattle.message.specs.declared.DeskCall.{DeskCall}
use Rattle.message.specs.declared.DeskCall.TheVariants.{Open, Activate, Deactivate, Submit, Notice, Assign, Close, Issue}
use Rattle.reader.specs.Reader.{padded, read_at}
use Rattle.message.proofs.Calls.{parse-print}
use Rattle.message.proofs.Files.{parse-shorter}
use Rattle.message.proofs.Fields.{field-names}

-- a call at the file's start, with how many energies, up to the file's end; and what stands beside it
abbrev pub Reads : (room : ℕ) (numbers : List ℕ) → DeskCall → (energies : ℕ) (groups : List ℕ) → Type 0
Reads room numbers d n groups = read_at (encode_all numbers) 0 room ≡ Ok (Some (record { call = d; groups = groups; count = n; next = length (encode_all numbers) }))

read-one : (room : ℕ) (c : Sent) (d : DeskCall) → Carried c → length c.energies ≤ room → call_of c.kind (padded c.fields) ≡ Some d →
    read_at (print c) 0 room ≡ Ok (Some (record { call = d; groups = groups_of (padded c.fields); count = length c.energies; next = length (print c) }))
unfolding read_at
read-one room c d h roomy named =
    let parsed : parse room (print c) ≡ got c [] = rw append-nil at (parse-print room c [] h roomy) in
    let some = parse-shorter room (print c) parsed in
    let end : length (print c) - 0 ≡ length (print c) = omega arith in
    rw (ne_eqb 0 (length (print c)) (λ e. omega arith), parsed, named, end)

-- a call without energies
read-plain : (room k : ℕ) (fields : List ℕ) (d : DeskCall) → is_kind k ≡ true → eqb k submission ≡ false → length fields ≡ fields_of k → all fits_number fields ≡ true →
    call_of k (padded fields) ≡ Some d → Reads room (k ∷ fields) d 0 (groups_of (padded fields))
unfolding all
read-plain room k fields d known other whole fits named =
    let c : Sent = record { kind = k; fields = fields; energies = [] } in
    let bytes : print c ≡ encode_all (k ∷ fields) = rw (other, append-nil fields) in
    rw bytes at (read-one room c d (record { known = known; whole = whole; fits = rw fits; alone = λ e. refl }) (omega arith) named)

-- "below 2^63"
abbrev pub Fit : List ℕ → Type 0
Fit numbers = all fits_number numbers ≡ true

-- what stands beside a call of four numbers or fewer
abbrev pub nothing : List ℕ
nothing = replicate deltas 0

-- "A call is its kind, then fields in the order above: 1 open, 2 activate, 3 deactivate, 4 submit (with a count before the energies), 5 notice, 6 assign";
-- document 02: "kind 7 is close, kind 8 issue, both with run and day"
pub record FromFile (room : ℕ) : Type 0 where
  -- "Open: Q, F, C, K, 17 delta groups"
  pub opening : (q f c k : ℕ) (groups : List ℕ) → length groups ≡ 17 → Fit (q ∷ f ∷ c ∷ k ∷ groups) →
      Reads room (1 ∷ q ∷ f ∷ c ∷ k ∷ groups) (Open q (record { 0 = f }) (record { 0 = c }) (record { 0 = k })) 0 groups
  -- "Activate: point, kind, area, partner, day."
  pub activation : (point kind area partner day : ℕ) → Fit (point ∷ kind ∷ area ∷ partner ∷ day ∷ []) →
      Reads room (2 ∷ point ∷ kind ∷ area ∷ partner ∷ day ∷ []) (Activate (record { 0 = point }) kind area partner (record { 0 = day })) 0 (day ∷ drop 1 nothing)
  -- "Deactivate: point, day."
  pub deactivation : (point day : ℕ) → Fit (point ∷ day ∷ []) → Reads room (3 ∷ point ∷ day ∷ []) (Deactivate (record { 0 = point }) (record { 0 = day })) 0 nothing
  -- "Submit: point, version, day, Q energies."
  pub submission : (point version day : ℕ) (energies : List ℤ) → length energies ≤ most_quarters → length energies ≤ room → Fit (point ∷ version ∷ day ∷ []) → all fits_energy energies ≡ true →
      Reads room (4 ∷ point ∷ version ∷ day ∷ length energies ∷ map sent energies) (Submit (record { 0 = point }) (record { 0 = version }) (record { 0 = day })) (length energies) nothing
  -- "Notice: point, version, verdict (1 positive, 0 negative), day."
  pub noticing : (point version verdict day : ℕ) → Fit (point ∷ version ∷ verdict ∷ day ∷ []) →
      Reads room (5 ∷ point ∷ version ∷ verdict ∷ day ∷ []) (Notice (record { 0 = point }) (record { 0 = version }) verdict (record { 0 = day })) 0 nothing
  -- "Assign: area (0 for T), group, day."
  pub assignment : (area group day : ℕ) → Fit (area ∷ group ∷ day ∷ []) → Reads room (6 ∷ area ∷ group ∷ day ∷ []) (Assign area group (record { 0 = day })) 0 nothing
  -- "an older file's settle is read as close"
  pub closing : (run day : ℕ) → Fit (run ∷ day ∷ []) → Reads room (7 ∷ run ∷ day ∷ []) (Close run (record { 0 = day })) 0 nothing
  -- "byte 8 no longer meets 33"
  pub issuing : (run day : ℕ) → Fit (run ∷ day ∷ []) → Reads room (8 ∷ run ∷ day ∷ []) (Issue run (record { 0 = day })) 0 nothing

pub from-file : (room : ℕ) → FromFile room
from-file room =
    record {
      opening = opened;
      activation = λ point kind area partner day h. read-plain room 2 (point ∷ kind ∷ area ∷ partner ∷ day ∷ []) _ refl refl refl h (field-names.activation _ _ _ _ _ _);
      deactivation = λ point day h. read-plain room 3 (point ∷ day ∷ []) _ refl refl refl h (field-names.deactivation _ _ _);
      submission = submitted;
      noticing = λ point version verdict day h. read-plain room 5 (point ∷ version ∷ verdict ∷ day ∷ []) _ refl refl refl h (field-names.noticing _ _ _ _ _);
      assignment = λ area group day h. read-plain room 6 (area ∷ group ∷ day ∷ []) _ refl refl refl h (field-names.assignment _ _ _ _);
      closing = λ run day h. read-plain room 7 (run ∷ day ∷ []) _ refl refl refl h (field-names.closing _ _ _);
      issuing = λ run day h. read-plain room 8 (run ∷ day ∷ []) _ refl refl refl h (field-names.issuing _ _ _);
    }
  where
    opened : (q f c k : ℕ) (groups : List ℕ) → length groups ≡ 17 → Fit (q ∷ f ∷ c ∷ k ∷ groups) →
        Reads room (1 ∷ q ∷ f ∷ c ∷ k ∷ groups) (Open q (record { 0 = f }) (record { 0 = c }) (record { 0 = k })) 0 groups
    opened q f c k groups n h =
        let l : List ℕ = q ∷ f ∷ c ∷ k ∷ groups in
        let full : most_fields - length l ≡ 0 = omega arith in
        let beside : groups_of (padded l) ≡ groups = rw full (append-nil groups) in
        rw beside at (read-plain room 1 l _ refl refl (omega arith) h (field-names.opening q f c k (groups_of (padded l))))

    submitted : (point version day : ℕ) (energies : List ℤ) → length energies ≤ most_quarters → length energies ≤ room → Fit (point ∷ version ∷ day ∷ []) → all fits_energy energies ≡ true →
        Reads room (4 ∷ point ∷ version ∷ day ∷ length energies ∷ map sent energies) (Submit (record { 0 = point }) (record { 0 = version }) (record { 0 = day })) (length energies) nothing
    submitted point version day energies few roomy h fits =
        read-one room (record { kind = 4; fields = point ∷ version ∷ day ∷ []; energies = energies }) _
        (record { known = refl; whole = refl; fits = rw (h, le-leb (length energies) most_quarters few, fits); alone = λ e. absurd (false≢true (sym e)) })
        roomy (field-names.submission point version day _)

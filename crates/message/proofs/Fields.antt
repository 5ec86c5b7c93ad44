-- Of each kind, how many fields it has and which number of the file is which field of the call; and every kind of the table is a call, no other.
-- Assumes nothing.
use Prim.Native.Nat.{ℕ, ◌<◌, ◌≤◌}
use mathlib.Core.Path.{◌≡◌, refl}
use mathlib.Core.Logic.{◌↔◌}
use mathlib.Core.Bool.{true, false}
use mathlib.Core.List.{List, [], ◌∷◌, map}
use native.Mathlib.Omega.{arith}
use borrow.Author.Tests.{ne_eqb, le-leb}
use Rattle.std.specs.Prelude.{Some, None}
use Rattle.quantity.proofs.Tests.{within-low, within-high}
use Rattle.message.specs.Call.{kinds, is_kind, fields_of}
use Rattle.message.specs.Named.{call_of, later_call_of, groups_of}
use Rattle.message.specs.declared.DeskCall.{DeskCall}
use Rattle.message.specs.declared.DeskCall.TheVariants.{Open, Activate, Deactivate, Submit, Notice, Assign, Close, Issue}
use Rattle.message.proofs.ByKind.{each-kind, no-kind}

-- "1 open, 2 activate, 3 deactivate, 4 submit .., 5 notice, 6 assign", each with the fields of "The calls, in building order"; document 02: "kind 7 is close,
-- kind 8 issue, both with run and day"
pub record FieldNames : Type 0 where
  -- "Open: Q, F, C, K, 17 delta groups"
  pub opening : (q f c k : ℕ) (groups : List ℕ) → call_of 1 (q ∷ f ∷ c ∷ k ∷ groups) ≡ Some (Open q (record { 0 = f }) (record { 0 = c }) (record { 0 = k }))
  pub groups : (q f c k : ℕ) (groups : List ℕ) → groups_of (q ∷ f ∷ c ∷ k ∷ groups) ≡ groups
  -- "Activate: point, kind, area, partner, day."
  pub activation : (point kind area partner day : ℕ) (l : List ℕ) → call_of 2 (point ∷ kind ∷ area ∷ partner ∷ day ∷ l) ≡ Some (Activate (record { 0 = point }) kind area partner (record { 0 = day }))
  -- "Deactivate: point, day."
  pub deactivation : (point day : ℕ) (l : List ℕ) → call_of 3 (point ∷ day ∷ l) ≡ Some (Deactivate (record { 0 = point }) (record { 0 = day }))
  -- "Submit: point, version, day, Q energies."
  pub submission : (point version day : ℕ) (l : List ℕ) → call_of 4 (point ∷ version ∷ day ∷ l) ≡ Some (Submit (record { 0 = point }) (record { 0 = version }) (record { 0 = day }))
  -- "Notice: point, version, verdict (1 positive, 0 negative), day."
  pub noticing : (point version verdict day : ℕ) (l : List ℕ) → call_of 5 (point ∷ version ∷ verdict ∷ day ∷ l) ≡ Some (Notice (record { 0 = point }) (record { 0 = version }) verdict (record { 0 = day }))
  -- "Assign: area (0 for T), group, day."
  pub assignment : (area group day : ℕ) (l : List ℕ) → call_of 6 (area ∷ group ∷ day ∷ l) ≡ Some (Assign area group (record { 0 = day }))
  pub closing : (run day : ℕ) (l : List ℕ) → call_of 7 (run ∷ day ∷ l) ≡ Some (Close run (record { 0 = day }))
  pub issuing : (run day : ℕ) (l : List ℕ) → call_of 8 (run ∷ day ∷ l) ≡ Some (Issue run (record { 0 = day }))

pub field-names : FieldNames
unfolding call_of later_call_of
field-names =
    record {
      opening = λ q f c k groups. refl;
      groups = λ q f c k groups. refl;
      activation = λ point kind area partner day l. refl;
      deactivation = λ point day l. refl;
      submission = λ point version day l. refl;
      noticing = λ point version verdict day l. refl;
      assignment = λ area group day l. refl;
      closing = λ run day l. refl;
      issuing = λ run day l. refl;
    }

-- how many fields kinds 1 to 8 have: "Q, F, C, K, 17 delta groups", "point, kind, area, partner, day", "point, day", "point, version, day" before
-- the energies, "point, version, verdict, day", "area, group, day", and close and issue "both with run and day"
pub field-counts : map fields_of (1 ∷ 2 ∷ 3 ∷ 4 ∷ 5 ∷ 6 ∷ 7 ∷ 8 ∷ []) ≡ 21 ∷ 5 ∷ 2 ∷ 3 ∷ 4 ∷ 3 ∷ 2 ∷ 2 ∷ []
field-counts = refl

-- "call kind not 1..7", and "byte 8 no longer meets 33": the kinds are 1 to 8
pub eight-kinds : (k : ℕ) → (is_kind k ≡ true) ↔ ((1 ≤ k) × (k ≤ 8))
eight-kinds k = (λ h. (within-low 1 kinds k h, omega (arith, within-high 1 kinds k h)), λ w. rw (le-leb 1 k w.0, le-leb k 8 w.1))

-- a kind of the table is a call, whatever its fields
pub known : (fields : List ℕ) (k : ℕ) → is_kind k ≡ true → (d : DeskCall) × (call_of k fields ≡ Some d)
unfolding call_of later_call_of
known fields =
    each-kind (λ (k : ℕ). (d : DeskCall) × (call_of k fields ≡ Some d)) (_, refl) (_, refl) (_, refl) (_, refl) (_, refl) (_, refl) (_, refl) (_, refl)

-- and another kind is none
pub unknown : (fields : List ℕ) (k : ℕ) → is_kind k ≡ false → call_of k fields ≡ None
unfolding call_of later_call_of
unknown fields = no-kind (λ (k : ℕ). call_of k fields ≡ None) refl beyond
  where
    beyond : (k : ℕ) → 8 < k → call_of k fields ≡ None
    beyond k h =
        rw (ne_eqb k 1 (λ e. omega arith), ne_eqb k 2 (λ e. omega arith), ne_eqb k 3 (λ e. omega arith), ne_eqb k 4 (λ e. omega arith), ne_eqb k 5 (λ e. omega arith), ne_eqb k 6 (λ e. omega arith), ne_eqb k 7 (λ e. omega arith), ne_eqb k 8 (λ e. omega arith))

-- From a kind of the message file and its fields to the call of the papers, for any numbers. Assumes nothing.
use Prim.Native.Nat.{ℕ, ◌+◌}
use mathlib.Core.Path.{◌≡◌, refl, ap, ◌∙◌}
use mathlib.Core.List.{List, [], ◌∷◌, ◌++◌, append-nil}
use native.Mathlib.Omega.{arith}
use lib.IntN.{ℤ}
use lib.ListN.{length}
use Rattle.std.specs.Prelude.{Option, Some}
use Rattle.message.specs.Named.{call_of, groups_of}
use Rattle.message.specs.declared.DeskCall.{DeskCall}
use Rattle.message.proofs.Fields.{field-names}
use Rattle.model.specs.Call.{Call}
use Rattle.dispatch.specs.Asked.{asked}
use Rattle.dispatch.specs.Laws.{Says, opening, activation, deactivation, submission, noticing, assignment, closing, issuing}

-- a call by its name is the call by another one that it has
same : {a b : DeskCall} (groups : List ℕ) (energies : List ℤ) {x : Option DeskCall} → x ≡ Some a → x ≡ Some b → asked b groups energies ≡ asked a groups energies
same {a} {b} groups energies p q = let e : b ≡ a = cc in ap (λ (d : DeskCall). asked d groups energies) e

none_left : (l : List ℕ) → length l ≡ 0 → l ≡ []
none_left [] h = refl
none_left (x ∷ l) h = absurd (omega arith)

-- the fields of a call stand before others, 21 in all: the groups beside it are an opening's 17
pub asked-says : {kind : ℕ} {fields : List ℕ} {energies : List ℤ} {c : Call} → Says kind fields energies c → (more : List ℕ) → length fields + length more ≡ 21 →
    {d : DeskCall} → call_of kind (fields ++ more) ≡ Some d → asked d (groups_of (fields ++ more)) energies ≡ c
unfolding asked
asked-says (opening q f c k groups n) more h e =
    let whole : groups ++ more ≡ groups = rw (none_left more (omega arith)) (append-nil groups) in
    same (groups ++ more) [] (field-names.opening q f c k (groups ++ more)) e ∙ rw whole
asked-says (activation point kind area partner day) more h e = same _ _ (field-names.activation point kind area partner day more) e
asked-says (deactivation point day) more h e = same _ _ (field-names.deactivation point day more) e
asked-says (submission point version day energies) more h e = same _ _ (field-names.submission point version day more) e
asked-says (noticing point version verdict day) more h e = same _ _ (field-names.noticing point version verdict day more) e
asked-says (assignment area group day) more h e = same _ _ (field-names.assignment area group day more) e
asked-says (closing run day) more h e = same _ _ (field-names.closing run day more) e
asked-says (issuing run day) more h e = same _ _ (field-names.issuing run day more) e

-- An accepted call has passed every line of the table, and is granted. Assumes nothing.
use mathlib.Core.Path.{◌≡◌, refl}
use mathlib.Core.List.{List, ◌∷◌}
use Rattle.std.specs.Prelude.{Ok, Err}
use Rattle.state.specs.declared.Desk.{Desk}
use Rattle.model.specs.Call.{Lent, Told, told}
use Rattle.model.specs.Causes.{rules, refusal, Ruling}
use Rattle.model.specs.Laws.{Passed}
use Rattle.model.specs.Plain.{view_in, granted, answered, joined, plain_reply, plain_next}
use Rattle.model.specs.Replies.{IsAccepted}
use Rattle.model.specs.Step.{lines, granting, refusal_by, decided, step}
use Rattle.model.proofs.Rules.{passed}

module _ (d : Desk) (l : Lent) (ok : IsAccepted (step d l).answer) where
  fine : refusal_by d (told l) ≡ Ok tt
  unfolding step decided
  fine = go (refusal_by d (told l)) refl ok
    where
      go : (v : Ruling) → refusal_by d (told l) ≡ v → IsAccepted (decided v d l.stores l.call).answer → refusal_by d (told l) ≡ Ok tt
      go (Ok tt) e k = e
      go (Err x) e k = absurd (k x refl)

  pub lines-passed : Passed (lines d (told l))
  unfolding refusal_by
  lines-passed = passed (lines d (told l)) fine

  pub is-granted : step d l ≡ granting d l.stores l.call
  unfolding step decided
  is-granted = rw fine

module _ (h : List Told) (t : Told) (ok : IsAccepted (plain_reply h t).answer) where
  plain-fine : refusal (view_in h) t ≡ Ok tt
  unfolding plain_reply answered
  plain-fine = go (refusal (view_in h) t) refl ok
    where
      go : (v : Ruling) → refusal (view_in h) t ≡ v → IsAccepted (answered v h t.call).answer → refusal (view_in h) t ≡ Ok tt
      go (Ok tt) e k = e
      go (Err x) e k = absurd (k x refl)

  pub plain-passed : Passed (rules (view_in h) t.lengths t.call)
  unfolding refusal
  plain-passed = passed (rules (view_in h) t.lengths t.call) plain-fine

  pub plain-granted : plain_reply h t ≡ granted h t.call
  unfolding plain_reply answered
  plain-granted = rw plain-fine

  pub plain-joined : plain_next h t ≡ t ∷ h
  unfolding plain_next joined
  plain-joined = rw plain-fine

-- One call of a replay keeps the invariant: refused it changes nothing, accepted it opens the desk or goes on with it. Assumes nothing.
use Prim.Native.Nat.{ℕ}
use mathlib.Core.Path.{◌≡◌, refl, sym, ◌∙◌, subst}
use mathlib.Core.Bool.{Bool, true, false}
use mathlib.Core.List.{List, [], ◌∷◌}
use lib.IntN.{ℤ}
use Rattle.std.specs.Prelude.{Ok, Err}
use Rattle.quantity.specs.Limits.{book_rows, schedule_rows}
use Rattle.quantity.specs.Lists.{fold}
use Rattle.message.specs.declared.DeskCall.{DeskCall}
use Rattle.message.specs.declared.DeskCall.TheVariants.{Open, Activate, Deactivate, Submit, Notice, Assign, Close, Issue}
use Rattle.state.specs.Desk.{fresh_desk}
use Rattle.state.specs.Valid.{opening_ok, frame_ok, valid_desk}
use Rattle.model.specs.Agreement.{Running, fresh}
use Rattle.model.specs.Call.{Call, opens, Stores, Lengths, lengths_of, Told, told, telling}
use Rattle.model.specs.Causes.{terms, takes, or_if, first_of, opening_by, opens_ok, refusal, Ruling}
use Rattle.model.specs.Plain.{worked_out, view_in, joined, plain_next}
use Rattle.model.specs.Step.{granting, refusal_by, decided, step}
use Rattle.model.specs.declared.Cause.{Cause}
use Rattle.model.specs.declared.Cause.TheVariants.{NotOpen, OpenAgain, BadOpening}
use Rattle.model.proofs.Invariant.{same-refusal, plain-open}
use Rattle.model.proofs.Main.{fine}
use Rattle.dispatch.specs.Asked.{asked}
use Rattle.replay.specs.Feeding.{told_as}
use Rattle.replay.specs.Given.{Given, given}
use Rattle.replay.specs.Play.{lent_by, quarters_for, lent_to, handed}
use Rattle.replay.proofs.Going.{Going, unopened, opened, told-is}
use Rattle.replay.proofs.Opened.{own_of, Opened, back, start, granted}
use Rattle.replay.proofs.Parts.{both-parts}

-- an opening, or a later call: that one is lent the desk's own numbers, takes no schedules, and before the opening both desks refuse it
data Kind : Call → Type 0 where
  opening : {q f c k : ℕ} {gs : List ℕ} → Kind (opens q f c k gs)
  later : {c : Call} → ((n : ℕ) → (terms c).quarters n ≡ n) → (takes c).schedules ≡ false → ((n : Lengths) → refusal_by fresh_desk (telling n c) ≡ Err NotOpen)
      → ((n : Lengths) → refusal (view_in []) (telling n c) ≡ Err NotOpen) → Kind c

kind : (d : DeskCall) (groups : List ℕ) (energies : List ℤ) → Kind (asked d groups energies)
unfolding asked refusal_by refusal first_of fold or_if view_in worked_out valid_desk frame_ok opening_ok
kind (Open q f c k) gs es = opening
kind (Activate p k a b e) gs es = later (λ n. refl) refl (λ n. refl) (λ n. refl)
kind (Deactivate p e) gs es = later (λ n. refl) refl (λ n. refl) (λ n. refl)
kind (Submit p x e) gs es = later (λ n. refl) refl (λ n. refl) (λ n. refl)
kind (Notice p x y e) gs es = later (λ n. refl) refl (λ n. refl) (λ n. refl)
kind (Assign a g e) gs es = later (λ n. refl) refl (λ n. refl) (λ n. refl)
kind (Close r e) gs es = later (λ n. refl) refl (λ n. refl) (λ n. refl)
kind (Issue r e) gs es = later (λ n. refl) refl (λ n. refl) (λ n. refl)

-- ---- refused, and accepted

module _ (s : Stores) (r : Running) (h : List Told) (c : Call) where
  -- what is to be shown of a call
  abbrev Kept : Type 0
  Kept = Going s (handed r c) (plain_next h (told (lent_to r c)))

  refused-kept : (x : Cause) → refusal_by r.desk (told (lent_to r c)) ≡ Err x → refusal (view_in h) (told (lent_to r c)) ≡ Err x → Going s r h → Kept
  unfolding handed lent_to step decided plain_next joined
  refused-kept x e f G = rw (e, f, both-parts book_rows (quarters_for r c) r.stores.book, both-parts schedule_rows (quarters_for r c) r.stores.schedules) G

  -- from what the call left of the numbers lent, by their Q
  accepted-kept : refusal_by r.desk (told (lent_to r c)) ≡ Ok tt → refusal (view_in h) (told (lent_to r c)) ≡ Ok tt → (q : ℕ) → quarters_for r c ≡ q
      → Opened s (back (granting r.desk (lent_by q r.stores) c) q r.stores) (telling (lengths_of (lent_by q r.stores)) c ∷ h) → Kept
  unfolding handed lent_to step decided plain_next joined
  accepted-kept e f q z O =
      let O' = subst (λ (n : ℕ). Opened s (back (granting r.desk (lent_by n r.stores) c) n r.stores) (telling (lengths_of (lent_by n r.stores)) c ∷ h)) (sym z) O in
      rw (e, f) (opened O')

-- ---- after the opening

opened-kept : (s : Stores) (r : Running) (h : List Told) (c : Call) → Opened s r h → ((n : ℕ) → (terms c).quarters n ≡ n) → (takes c).schedules ≡ false → Kept s r h c
unfolding lent_to quarters_for
opened-kept s r h c G q untaken = go (refusal (view_in h) (told (lent_to r c))) refl
  where
    same : refusal_by r.desk (told (lent_to r c)) ≡ refusal (view_in h) (told (lent_to r c))
    same = same-refusal r.desk (own_of r) h G.holds (told (lent_to r c))

    own : quarters_for r c ≡ r.desk.frame.opening.quarters
    own = q r.desk.frame.opening.quarters

    go : (v : Ruling) → refusal (view_in h) (told (lent_to r c)) ≡ v → Kept s r h c
    go (Err x) e = refused-kept s r h c x (same ∙ e) e (opened G)
    go (Ok tt) e =
        accepted-kept s r h c (same ∙ e) e r.desk.frame.opening.quarters own
        (granted s r h G c untaken (fine r.desk (own_of r) h (record { call = c; stores = own_of r }) G.holds (rw own at e)))

-- "open on an open desk"
again-kept : (s : Stores) (r : Running) (h : List Told) (q f c k : ℕ) (gs : List ℕ) → Opened s r h → Kept s r h (opens q f c k gs)
unfolding lent_to refusal first_of fold or_if view_in
again-kept s r h q f c k gs G =
    let t = told (lent_to r (opens q f c k gs)) in
    let plain : refusal (view_in h) t ≡ Err OpenAgain = rw (plain-open r.desk (own_of r) h G.holds) in
    refused-kept s r h (opens q f c k gs) OpenAgain (same-refusal r.desk (own_of r) h G.holds t ∙ plain) plain (opened G)

-- ---- before it

first-kept : (s : Stores) (q f c k : ℕ) (gs : List ℕ) → Kept s (fresh s) [] (opens q f c k gs)
unfolding lent_to quarters_for refusal_by refusal first_of fold or_if view_in worked_out
first-kept s q f c k gs = go (opens_ok (opening_by q f c k (told (lent_to (fresh s) call)).lengths) gs) refl
  where
    call : Call
    call = opens q f c k gs

    go : (t : Bool) → opens_ok (opening_by q f c k (told (lent_to (fresh s) call)).lengths) gs ≡ t → Kept s (fresh s) [] call
    go false e = refused-kept s (fresh s) [] call BadOpening (rw e) (rw e) (unopened refl refl)
    go true e = accepted-kept s (fresh s) [] call (rw e) (rw e) q refl (start s q f c k gs e)

fresh-kept : (s : Stores) {c : Call} → Kind c → Kept s (fresh s) [] c
unfolding lent_to
fresh-kept s (opening {q} {f} {c} {k} {gs}) = first-kept s q f c k gs
fresh-kept s (later {c} q t a b) = refused-kept s (fresh s) [] c NotOpen (a _) (b _) (unopened refl refl)

-- ---- every call

module _ (s : Stores) (r : Running) (h : List Told) where
  each-kept : {c : Call} → Going s r h → Kind c → Kept s r h c
  each-kept {c} (unopened a b) K = rw (a, b) (fresh-kept s K)
  each-kept (opened G) (opening {q} {f} {c} {k} {gs}) = again-kept s r h q f c k gs G
  each-kept (opened G) (later {c} q t a b) = opened-kept s r h c G q t

  -- the invariant after a call of the file, with what the plain desk is told
  pub kept : (g : Given) → Going s r h → Going s (handed r (given g)) (plain_next h (told_as (lengths_of s) h (given g)))
  kept g G =
      subst (λ (t : Told). Going s (handed r (given g)) (plain_next h t)) (told-is s r h (given g) G) (each-kept G (kind g.call g.groups g.energies))

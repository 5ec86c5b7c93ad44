-- A selected version has the status of a settled one exactly where its run is issued. Assumes nothing.
use Prim.Native.Nat.{ℕ}
use mathlib.Core.Path.{◌≡◌, refl, sym, ◌∙◌}
use mathlib.Core.Bool.{Bool, true, false, not, ◌&&◌, ◌||◌, false≢true}
use mathlib.Core.Logic.{◌⊎◌, inl, inr}
use mathlib.Core.List.{List, [], ◌∷◌, map}
use native.Mathlib.Decide.{ℕ_discrete}
use native.Mathlib.Omega.{arith}
use borrow.Author.Tests.{eq-eqb, ne_eqb, not-false}
use lib.Dec.{leb, eqb}
use lib.ListN.{length, set}
use Rattle.std.specs.Prelude.{Option, Some, None}
use Rattle.quantity.specs.Limits.{runs, run_ok, day_ok}
use Rattle.quantity.specs.Lists.{all, fold}
use Rattle.quantity.proofs.Lists.{all-at, all-set, all-map}
use Rattle.quantity.proofs.Tests.{by-test, and-left, or-left, or-right, within-low, within-high}
use Rattle.state.specs.Change.{submitted, confirm, noticed, settle, settled_by}
use Rattle.state.specs.Desk.{versions_in, flag_of}
use Rattle.state.specs.Selection.{own, or_else, version_of, Tells}
use Rattle.state.specs.Status.{status_number, counts, is_check, confirmed_status, settled_status}
use Rattle.state.specs.Version.{empty_version, new_version, restatus, record_at, held}
use Rattle.state.specs.declared.HeldVersion.{HeldVersion}
use Rattle.state.specs.declared.Selection.{Selection}
use Rattle.state.specs.declared.Selection.TheVariants.{None, Selected}
use Rattle.state.specs.declared.Status.{Status}
use Rattle.state.specs.declared.Status.TheVariants.{Check, Settlement, Correction}
use Rattle.state.specs.declared.VersionRecord.{VersionRecord}
use Rattle.state.specs.declared.VersionRow.{VersionRow}
use Rattle.state.proofs.Kept.{settle-apart}
use Rattle.state.proofs.Picks.{own-tells, first-status, second-status}
use Rattle.state.proofs.Settled.{settles-first, settles-second}
use Rattle.model.specs.Agreement.{Chained, end, fresh}
use Rattle.model.specs.Call.{Call, opens, activates, deactivates, submits, notices, assigns, shows, asks, closes, issues, lodges, reports, Stores, Lengths, Lent, Told, told, telling}
use Rattle.model.specs.Causes.{rules}
use Rattle.model.specs.Laws.{Passed, TellsIssued}
use Rattle.model.specs.Plain.{opening_of, versions_of, issued_of, view_in, plain_end, worked_out, after}
use Rattle.model.proofs.Corollaries.{reached}
use Rattle.model.proofs.Lists.{all-snoc, all-then}
use Rattle.model.proofs.Flags.{Run}
use Rattle.model.proofs.Main.{agree}
use Rattle.model.proofs.Closed.{unissued}
use Rattle.model.proofs.Onward.{Plain, empty, opened, issued-stays-after, always-kept, same-flags}

-- every version that a run has of its own is of this status
abbrev Every : (run status : ℕ) → List VersionRecord → Type 0
Every run s vs = (p : ℕ) (r : VersionRow) → own run p vs ≡ Selected r → status_number r.status ≡ s

every-same : (run s : ℕ) (vs ws : List VersionRecord) → ((p : ℕ) → own run p ws ≡ own run p vs) → Every run s vs → Every run s ws
every-same run s vs ws same e p r z = e p r (sym (same p) ∙ z)

-- a version of another status
abbrev other : (status : ℕ) → VersionRecord → Bool
other s v = not (eqb (status_number v.status) s)

-- no version is of this status
abbrev Without : (status : ℕ) → List VersionRecord → Type 0
Without s vs = all (other s) vs ≡ true

-- what the accepted calls keep: in an issued run all are settled, and before that none is
record Shown (h : List Told) : Type 0 where
  first : (issued_of h).first ≡ true → Every 1 3 (versions_of h)
  second : (issued_of h).second ≡ true → Every 2 5 (versions_of h)
  first_open : (issued_of h).first ≡ false → Without 3 (versions_of h)
  second_open : (issued_of h).second ≡ false → Without 5 (versions_of h)

-- a submission makes settlement data or check data
submit-without : (s : ℕ) → eqb 2 s ≡ false → eqb 1 s ≡ false → (f n p x d : ℕ) (vs : List VersionRecord) → Without s vs → Without s (submitted (new_version f n p x d) vs)
submit-without s e k f n p x d vs w =
    all-snoc (other s) vs (new_version f n p x d) w (by-test (λ (t : Status). not (eqb (status_number t) s) ≡ true) (leb d f) Settlement Check (λ _. rw e) (λ _. rw k))

-- a notice settlement data or correction settlement data
notice-without : (s : ℕ) → eqb 2 s ≡ false → eqb 4 s ≡ false → (c p x y d : ℕ) (vs : List VersionRecord) → Without s vs → Without s (noticed c p x y d vs)
notice-without s e k c p x y d vs w = go (held p x vs)
  where
    new : not (eqb (status_number (confirmed_status c d)) s) ≡ true
    new = by-test (λ (t : Status). not (eqb (status_number t) s) ≡ true) (leb d c) Settlement Correction (λ _. rw e) (λ _. rw k)

    go : (h : Option HeldVersion) → Without s (confirm c y d h vs)
    go None = w
    go (Some h) =
        by-test (Without s) (eqb y 1 && is_check h.record.status) (set vs h.at (restatus (confirmed_status c d) h.record)) vs
        (λ _. all-set (other s) vs h.at (restatus (confirmed_status c d) h.record) w new) (λ _. w)

-- an issue of a run what its settled ones are
settle-without : (s r : ℕ) → eqb (status_number (settled_status r)) s ≡ false → (vs : List VersionRecord) → Without s vs → Without s (settled_by r vs)
unfolding settle
settle-without s r e vs w = all-map (other s) (settle r vs) vs ∙ all-then (other s) (λ (v : VersionRecord). other s (settle r vs v)) one vs w
  where
    one : (v : VersionRecord) → other s v ≡ true → other s (settle r vs v) ≡ true
    one v o =
        by-test (λ (u : VersionRecord). other s u ≡ true) (counts r v.status && eqb v.version.0 (version_of (own r v.point.0 vs))) (restatus (settled_status r) v) v
        (λ _. rw e) (λ _. o)

module _ (h : List Told) (P : Plain h) (S : Shown h) (n : Lengths) where
  -- an issued run's own stay
  stay : (run : ℕ) → Run run → (c : Call) → Passed (rules (view_in h) n c) → flag_of run (issued_of h) ≡ true → (p : ℕ) → own run p (after (telling n c) (worked_out h)).versions ≡ own run p (versions_of h)
  stay run R c Q z = go P
    where
      go : Plain h → (p : ℕ) → own run p (after (telling n c) (worked_out h)).versions ≡ own run p (versions_of h)
      go (empty e) = absurd (unissued run e z)
      go (opened O) = issued-stays-after h O n run R c Q z

  shown-next : (c : Call) → Passed (rules (view_in h) n c) → Shown (telling n c ∷ h)
  unfolding view_in worked_out after fold
  shown-next (opens q f c k gs) Q = record { first = S.first; second = S.second; first_open = S.first_open; second_open = S.second_open }
  shown-next (activates p k a b d) Q = record { first = S.first; second = S.second; first_open = S.first_open; second_open = S.second_open }
  shown-next (deactivates p d) Q = record { first = S.first; second = S.second; first_open = S.first_open; second_open = S.second_open }
  shown-next (submits p x d es) Q =
      record {
        first = λ z. every-same 1 3 (versions_of h) _ (stay 1 (inl refl) (submits p x d es) Q z) (S.first z);
        second = λ z. every-same 2 5 (versions_of h) _ (stay 2 (inr refl) (submits p x d es) Q z) (S.second z);
        first_open = λ z. submit-without 3 refl refl (opening_of h).first.0 (length (versions_of h)) p x d (versions_of h) (S.first_open z);
        second_open = λ z. submit-without 5 refl refl (opening_of h).first.0 (length (versions_of h)) p x d (versions_of h) (S.second_open z);
      }
  shown-next (notices p x y d) Q =
      record {
        first = λ z. every-same 1 3 (versions_of h) _ (stay 1 (inl refl) (notices p x y d) Q z) (S.first z);
        second = λ z. every-same 2 5 (versions_of h) _ (stay 2 (inr refl) (notices p x y d) Q z) (S.second z);
        first_open = λ z. notice-without 3 refl refl (opening_of h).clearing.0 p x y d (versions_of h) (S.first_open z);
        second_open = λ z. notice-without 5 refl refl (opening_of h).clearing.0 p x y d (versions_of h) (S.second_open z);
      }
  shown-next (assigns a g d) Q = record { first = S.first; second = S.second; first_open = S.first_open; second_open = S.second_open }
  shown-next (shows r g) Q = record { first = S.first; second = S.second; first_open = S.first_open; second_open = S.second_open }
  shown-next (asks p x) Q = record { first = S.first; second = S.second; first_open = S.first_open; second_open = S.second_open }
  shown-next (closes r d) Q = record { first = S.first; second = S.second; first_open = S.first_open; second_open = S.second_open }
  shown-next (lodges g d es) Q = record { first = S.first; second = S.second; first_open = S.first_open; second_open = S.second_open }
  shown-next (reports r g) Q = record { first = S.first; second = S.second; first_open = S.first_open; second_open = S.second_open }
  shown-next (issues r d) Q = record { first = ones; second = twos; first_open = not-ones; second_open = not-twos }
    where
      ones : (eqb r 1 || (issued_of h).first) ≡ true → Every 1 3 (settled_by r (versions_of h))
      ones z = go (ℕ_discrete 1 r)
        where
          go : Dec (1 ≡ r) → Every 1 3 (settled_by r (versions_of h))
          go (yes e) = rw (← e) (settles-first (versions_of h)).told
          go (no ne) = every-same 1 3 (versions_of h) _ (λ p. settle-apart r (versions_of h) 1 p ne) (S.first (rw (ne_eqb r 1 (λ e. ne (sym e))) at z))

      twos : (eqb r 2 || (issued_of h).second) ≡ true → Every 2 5 (settled_by r (versions_of h))
      twos z = go (ℕ_discrete 2 r)
        where
          go : Dec (2 ≡ r) → Every 2 5 (settled_by r (versions_of h))
          go (yes e) = rw (← e) (settles-second (versions_of h)).told
          go (no ne) = every-same 2 5 (versions_of h) _ (λ p. settle-apart r (versions_of h) 2 p ne) (S.second (rw (ne_eqb r 2 (λ e. ne (sym e))) at z))

      not-ones : (eqb r 1 || (issued_of h).first) ≡ false → Without 3 (settled_by r (versions_of h))
      not-ones z = settle-without 3 r (rw (or-left (eqb r 1) _ z)) (versions_of h) (S.first_open (or-right (eqb r 1) _ z))

      not-twos : (eqb r 2 || (issued_of h).second) ≡ false → Without 5 (settled_by r (versions_of h))
      not-twos z = settle-without 5 r (rw (run-one (or-left (eqb r 2) _ z))) (versions_of h) (S.second_open (or-right (eqb r 2) _ z))
        where
          run-one : eqb r 2 ≡ false → r ≡ 1
          run-one e =
              let ok = and-left (run_ok r) _ (not-false (run_ok r && day_ok d) Q.1.0) in
              let low = within-low 1 runs r ok in
              let high = within-high 1 runs r ok in
              let ne : r ≡ 2 → ⊥ = λ k. false≢true (sym e ∙ eq-eqb r 2 k) in
              omega arith

shown : (l : List Told) → Shown (plain_end [] l)
unfolding worked_out all
shown =
    always-kept Shown shown-next
    (record { first = λ z. absurd (false≢true z); second = λ z. absurd (false≢true z); first_open = λ z. refl; second_open = λ z. refl })

-- a version told of a status that none has
never : (s : ℕ) (vs : List VersionRecord) (p : ℕ) (r : VersionRow) → Without s vs → other s empty_version ≡ true → Tells p vs r → status_number r.status ≡ s → ⊥
never s vs p r w e t k =
    let here : other s (record_at vs r.at) ≡ true = all-at (other s) vs r.at empty_version e w in
    false≢true (sym (rw (t.status, k, eq-eqb s s refl)) ∙ here)

module _ (l : List Told) where
  abbrev vs : List VersionRecord
  vs = versions_of (plain_end [] l)

  ending : {A B : Type 0} → A ⊎ B → (B → ⊥) → A
  ending (inl a) n = a
  ending (inr b) n = absurd (n b)

  -- of the plain desk's list
  pub plain-tells : TellsIssued (issued_of (plain_end [] l)) vs
  plain-tells =
      record {
        first = (shown l).first;
        first_open = λ z p r e. ending (first-status p vs r e) (never 3 vs p r ((shown l).first_open z) refl (own-tells 1 p vs r e));
        second = (shown l).second;
        second_open = λ z p r e. ending (second-status p vs r e) (never 5 vs p r ((shown l).second_open z) refl (own-tells 2 p vs r e));
        both = λ y z p r e. go y z p r (own 2 p vs) refl e;
      }
    where
      go : (issued_of (plain_end [] l)).first ≡ true → (issued_of (plain_end [] l)).second ≡ true → (p : ℕ) (r : VersionRow) (s : Selection) → own 2 p vs ≡ s → or_else s (own 1 p vs) ≡ Selected r → (status_number r.status ≡ 5) ⊎ (status_number r.status ≡ 3)
      go y z p r None e k = inr ((shown l).first y p r k)
      go y z p r (Selected q) e k = inl ((shown l).second z p r (e ∙ k))

-- and of the running desk
pub running-tells : (s : Stores) (l : List Lent) → Chained (fresh s) l → TellsIssued (end (fresh s) l).desk.frame.issued (versions_in (end (fresh s) l).desk)
running-tells s l c = rw ((same-flags (end (fresh s) l) (plain_end [] (map told l)) (reached s l c)).issued, (agree s l c).versions) (plain-tells (map told l))

-- What an accepted notice and an issue change, and that one call never owes two log rows. Assumes nothing.
use Prim.Native.Nat.{ℕ, ◌≤◌, ◌<◌}
use mathlib.Core.Path.{◌≡◌, refl, sym, ap, ◌∙◌}
use mathlib.Core.Bool.{Bool, true, false, ◌&&◌, true≢false}
use mathlib.Core.Logic.{◌⊎◌, inl, inr, ⊎_elim}
use mathlib.Core.List.{List}
use native.Mathlib.Omega.{arith}
use borrow.Author.Tests.{eqb-true, not-false}
use lib.Dec.{leb, eqb}
use lib.ListN.{length, length-set}
use lib.Seq.{get_or-set_same, get_or-set_other}
use Rattle.std.specs.Prelude.{Option, Some, None}
use Rattle.quantity.specs.Lists.{fold}
use Rattle.quantity.proofs.Tests.{by-test, and-left, and-right}
use Rattle.state.specs.Change.{confirm, settle, settled_by}
use Rattle.state.specs.Selection.{own, with_status, SameVersion, version_of}
use Rattle.state.specs.Status.{is_check, counts, submitted_status, confirmed_status, settled_status}
use Rattle.state.specs.Version.{record_at, empty_version, new_version, restatus, held, HeldIn}
use Rattle.state.specs.declared.HeldVersion.{HeldVersion}
use Rattle.state.specs.declared.Selection.TheVariants.{Selected}
use Rattle.state.specs.declared.Status.{Status}
use Rattle.state.specs.declared.Status.TheVariants.{Check, Settlement, Correction}
use Rattle.state.specs.declared.VersionRecord.{VersionRecord}
use Rattle.state.specs.declared.VersionRow.{VersionRow}
use Rattle.state.proofs.Kept.{notice-negative, notice-other, settle-at, settle-same, settle-selected}
use Rattle.state.proofs.Picks.{held-right, submit-other}
use Rattle.model.specs.Call.{Call, opens, activates, deactivates, submits, notices, assigns, shows, asks, closes, issues, lodges, reports, Lengths, telling}
use Rattle.model.specs.Causes.{rules, not_check}
use Rattle.model.specs.Laws.{Passed, Confirms, OwesOne}
use Rattle.model.specs.Plain.{Worked, after, view_by}
use Rattle.model.proofs.Rules.{past}
use Rattle.model.proofs.Selections.{own-uncounted, own-unturned}

-- ---- "Positive turns status 1 into 2 if day ≤ C, else 4. Negative changes no status."

-- an accepted negative notice changes none
pub notice-none : (w : Worked) (n : Lengths) (p x y d : ℕ) → (y ≡ 1 → ⊥) → (after (telling n (notices p x y d)) w).versions ≡ w.versions
unfolding after fold
notice-none w n p x y d ne = notice-negative w.opening.clearing.0 p x y d w.versions ne

-- of the version found among the first n of a table
pub confirmed : (c p x d n : ℕ) (vs : List VersionRecord) (h : Option HeldVersion) → not_check h ≡ false → HeldIn p x vs n h → n ≤ length vs → Confirms p x (confirmed_status c d) vs (confirm c 1 d h vs)
unfolding not_check
confirmed c p x d n vs None e q few = absurd (true≢false e)
confirmed c p x d n vs (Some h) e q few =
    let check : is_check h.record.status ≡ true = not-false (is_check h.record.status) e in
    let u = restatus (confirmed_status c d) h.record in
    let within : h.at < length vs = omega (arith, q.within) in
    record {
      at = h.at;
      named = q.found;
      check = ap (λ (r : VersionRecord). is_check r.status) q.here ∙ check;
      restates =
          rw check
          (record {
            within = within;
            there = get_or-set_same vs h.at u empty_version within ∙ ap (restatus (confirmed_status c d)) (sym q.here);
            others = λ j ne. get_or-set_other vs h.at j u empty_version ne;
            size = length-set vs h.at u;
          });
    }

-- an accepted positive one changes exactly one version's
pub notice-one : (w : Worked) (n : Lengths) (p x d : ℕ) → Passed (rules (view_by w) n (notices p x 1 d))
    → Confirms p x (confirmed_status w.opening.clearing.0 d) w.versions (after (telling n (notices p x 1 d)) w).versions
unfolding after fold
notice-one w n p x d P =
    confirmed w.opening.clearing.0 p x d (length w.versions) w.versions (held p x w.versions) (past 25 (rules (view_by w) n (notices p x 1 d)) P) (held-right p x w.versions) (omega arith)

-- ---- "Run 1: each selected version gets 3. Run 2: each own one gets 5."

module _ (run : ℕ) (vs : List VersionRecord) where
  -- each selected one
  pub settle-picked : (p : ℕ) (r : VersionRow) → own run p vs ≡ Selected r → record_at (settled_by run vs) r.at ≡ restatus (settled_status run) (record_at vs r.at)
  settle-picked p r e = settle-at run vs r.at ∙ settle-selected run vs p r e

  -- and no other: what is not counted in the run, or has not the selected one's number, stays
  pub settle-only : (i : ℕ) → (record_at (settled_by run vs) i ≡ record_at vs i) ⊎ ((counts run (record_at vs i).status ≡ true) × ((record_at vs i).version.0 ≡ version_of (own run (record_at vs i).point.0 vs)))
  unfolding settle
  settle-only i = go (counts run v.status && eqb v.version.0 top) refl
    where
      v : VersionRecord
      v = record_at vs i

      top : ℕ
      top = version_of (own run (record_at vs i).point.0 vs)

      go : (t : Bool) → (counts run v.status && eqb v.version.0 top) ≡ t → (record_at (settled_by run vs) i ≡ v) ⊎ ((counts run v.status ≡ true) × (v.version.0 ≡ top))
      go true e = inr (and-left (counts run v.status) _ e, eqb-true v.version.0 top (and-right (counts run v.status) _ e))
      go false e = inl (settle-at run vs i ∙ rw e)

-- ---- one call never owes two log rows

-- what a submission makes counts not in run 2, and what a notice makes not in both
pub submitted-once : (f d : ℕ) → counts 2 (submitted_status f d) ≡ false
submitted-once f d = by-test (λ (s : Status). counts 2 s ≡ false) (leb d f) Settlement Check (λ _. refl) (λ _. refl)

noticed-once : (c d : ℕ) → (counts 1 (confirmed_status c d) ≡ false) ⊎ (counts 2 (confirmed_status c d) ≡ false)
noticed-once c d = by-test (λ (s : Status). (counts 1 s ≡ false) ⊎ (counts 2 s ≡ false)) (leb d c) Settlement Correction (λ _. inr refl) (λ _. inl refl)

-- a call that changes no selection
owes-none : (vs ws : List VersionRecord) → ((r i : ℕ) → SameVersion (own r i ws) (own r i vs)) → OwesOne vs ws
owes-none vs ws e = record { point = 0; elsewhere = λ r i _. e r i; one = inl (e 1 0) }

pub one-owed : (w : Worked) (n : Lengths) (c : Call) → OwesOne w.versions (after (telling n c) w).versions
unfolding after fold
one-owed w n (opens q f c k gs) = owes-none w.versions w.versions (λ r i. refl)
one-owed w n (activates p k a b d) = owes-none w.versions w.versions (λ r i. refl)
one-owed w n (deactivates p d) = owes-none w.versions w.versions (λ r i. refl)
one-owed w n (submits p x d es) =
    let f = w.opening.first.0 in
    let m = length w.versions in
    record {
      point = p;
      elsewhere = λ r i ne. ap (with_status Check) (submit-other r i (new_version f m p x d) w.versions (λ z. ne (sym z)));
      one = inr (ap (with_status Check) (own-uncounted 2 p f m p x d w.versions (submitted-once f d)));
    }
one-owed w n (notices p x y d) =
    let c = w.opening.clearing.0 in
    record {
      point = p;
      elsewhere = λ r i ne. ap (with_status Check) (notice-other r i c p x y d w.versions (λ z. ne (sym z)));
      one = ⊎_elim (λ (e : counts 1 (confirmed_status c d) ≡ false). inl (ap (with_status Check) (own-unturned 1 p c p x y d w.versions e))) (λ (e : counts 2 (confirmed_status c d) ≡ false). inr (ap (with_status Check) (own-unturned 2 p c p x y d w.versions e))) (noticed-once c d);
    }
one-owed w n (assigns a g d) = owes-none w.versions w.versions (λ r i. refl)
one-owed w n (shows r g) = owes-none w.versions w.versions (λ r i. refl)
one-owed w n (asks p x) = owes-none w.versions w.versions (λ r i. refl)
one-owed w n (closes r d) = owes-none w.versions w.versions (λ r i. refl)
one-owed w n (issues r d) = owes-none w.versions (settled_by r w.versions) (settle-same r w.versions)
one-owed w n (lodges g d es) = owes-none w.versions w.versions (λ r i. refl)
one-owed w n (reports r g) = owes-none w.versions w.versions (λ r i. refl)

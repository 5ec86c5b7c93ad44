-- Notice, accepted: the status turns, and book and log follow. Assumes nothing.
use Prim.Native.Nat.{ℕ}
use mathlib.Core.Path.{◌≡◌, refl, sym, ap, ◌∙◌}
use mathlib.Core.Bool.{◌&&◌}
use mathlib.Core.List.{List, ◌∷◌}
use native.Mathlib.Omega.{arith}
use borrow.Author.Tests.{not-false}
use lib.Dec.{leb, eqb}
use lib.ListN.{length, length-set}
use Rattle.std.specs.Prelude.{Option, Some, None}
use Rattle.quantity.specs.Limits.{points, point_ok, version_ok}
use Rattle.quantity.specs.Lists.{fold}
use Rattle.quantity.proofs.Tests.{by-test, and-left, and-right, within-low, within-high}
use Rattle.state.specs.Change.{noticed, confirm, noticed_desk}
use Rattle.state.specs.Desk.{versions_in}
use Rattle.state.specs.Status.{is_check, confirmed_status}
use Rattle.state.specs.Version.{restatus, held}
use Rattle.state.specs.declared.Desk.{Desk}
use Rattle.state.specs.declared.HeldVersion.{HeldVersion}
use Rattle.state.specs.declared.VersionRecord.{VersionRecord}
use Rattle.state.proofs.Kept.{notice-other, noticed-versions}
use Rattle.model.specs.Call.{notices, Stores, lengths_of, Told}
use Rattle.model.specs.Causes.{rules, notice_ok}
use Rattle.model.specs.Laws.{Passed}
use Rattle.model.specs.Log.{due, add_row, used_after}
use Rattle.model.specs.Plain.{worked, after, energies_of, log_of, schedules_of}
use Rattle.model.specs.Step.{followed, followed_desk, with_schedules}
use Rattle.model.specs.View.{view_of}
use Rattle.model.proofs.Changing.{changed-kept, left-holds, on-own}
use Rattle.model.proofs.Invariant.{Holds, Done, Granted, finish}
use Rattle.model.proofs.Logs.{used-rows}
use Rattle.model.proofs.Restating.{same-row, versioned-restated, stored-restated}
use Rattle.model.proofs.Rules.{past}
use Rattle.model.proofs.Selections.{noticed-restated, restated-length}

-- a notice leaves the table's length
confirm-length : (c y e : ℕ) (l : List VersionRecord) (h : Option HeldVersion) → length (confirm c y e h l) ≡ length l
confirm-length c y e l None = refl
confirm-length c y e l (Some h) =
    by-test (λ (m : List VersionRecord). length m ≡ length l) (eqb y 1 && is_check h.record.status) _ l (λ _. length-set l h.at (restatus (confirmed_status c e) h.record)) (λ _. refl)

module _ (p x y e : ℕ) (d : Desk) (s : Stores) (h : List Told) (H : Holds d s h) (st : Stores) (P : Passed (rules (view_of d) (lengths_of st) (notices p x y e))) where
  abbrev turned : List VersionRecord
  turned = noticed d.frame.opening.clearing.0 p x y e (versions_in d)

  abbrev desk : Desk
  desk = followed_desk d p e turned (noticed_desk d (held p x (versions_in d)) y e)

  holds : Holds desk (followed d s p e turned s.values) (record { call = notices p x y e; lengths = lengths_of st } ∷ h)
  unfolding after fold
  holds =
      let K = H.kept in
      let T = H.table in
      let c = d.frame.opening.clearing.0 in
      let found = held p x (versions_in d) in
      let row = due (versions_in d) turned p e in
      let fields = not-false (notice_ok p x y e) (past 3 (rules (view_of d) (lengths_of st) (notices p x y e)) P) in
      let in_p = and-left (point_ok p) _ fields in
      let day = and-right (leb y 1) _ (and-right (version_ok x) _ (and-right (point_ok p) _ fields)) in
      let same = noticed-restated c p x y e (versions_in d) in
      finish d s h H (record { call = notices p x y e; lengths = lengths_of st }) desk (followed d s p e turned s.values)
      (record { size = confirm-length c y e d.versions found ∙ T.size; count = T.count })
      (ap (used_after row) H.used ∙ used-rows row (log_of h))
      (ap (λ (l : List VersionRecord). worked d.frame.opening e d.points d.frame.groups l (energies_of h) (add_row row (log_of h)) d.frame.closed d.frame.issued (schedules_of h))
      (noticed-versions d p x y e (omega (arith, T.size, T.count))))
      (changed-kept d s h H p e (within-low 1 points p in_p) (within-high 1 points p in_p) day turned s.values (energies_of h)
      (versioned-restated (versions_in d) turned same d.frame.opening d.points K.versioned)
      (stored-restated (versions_in d) turned same d.frame.opening.quarters s.values (energies_of h) K.stored)
      K.values_long (omega (arith, restated-length (versions_in d) turned same)) (λ i _. same-row (versions_in d) turned same i) (λ r i ne. notice-other r i c p x y e (versions_in d) (λ z. ne (sym z))) K.booked (past 17 (rules (view_of d) (lengths_of st) (notices p x y e)) P))

pub notice-granted : (p x y e : ℕ) → Granted (notices p x y e)
notice-granted p x y e d s h st H o P = on-own (notices p x y e) d s h st H o P.1.0 done P
  where
    done : (l : List ℕ) → Passed (rules (view_of d) (lengths_of (with_schedules s l)) (notices p x y e)) → Done d s h (notices p x y e) (with_schedules s l)
    done l P =
        let lent = with_schedules s l in
        let ws = turned p x y e d s h H lent P in
        record {
          reply = refl;
          holds =
              left-holds (desk p x y e d s h H lent P) s (followed d lent p e ws s.values) (record { call = notices p x y e; lengths = lengths_of lent } ∷ h)
              (holds p x y e d s h H lent P);
        }

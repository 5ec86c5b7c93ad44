-- Laws of a notice: what it makes of the selections, and what one that the table does not refuse has passed. Assumes nothing.
use mathlib.Core.Path.{◌≡◌, refl, sym, ap, ◌∙◌}
use mathlib.Core.Bool.{Bool, true, false, cond, ◌&&◌, and-false, true≢false}
use mathlib.Core.List.{List}
use Prim.Native.Nat.{ℕ, ◌*◌, ◌≤◌}
use native.Mathlib.Decide.{ℕ_discrete}
use native.Mathlib.Omega.{arith}
use borrow.Author.Tests.{not-false, ne_eqb}
use lib.Dec.{eqb}
use lib.ListN.{length, set}
use lib.Seq.{set-get_or, get_or-take, length-take-le}
use Rattle.std.specs.Prelude.{Ok, Option, Some, None}
use Rattle.quantity.specs.Limits.{versions}
use Rattle.quantity.specs.Lists.{all}
use Rattle.state.specs.Change.{noticed, confirm}
use Rattle.state.specs.Desk.{versions_in, rows_in}
use Rattle.state.specs.Point.{point_at}
use Rattle.state.specs.Selection.{own}
use Rattle.state.specs.Status.{is_check, confirmed_status}
use Rattle.state.specs.Valid.{version_record_ok, Sound}
use Rattle.state.specs.Version.{empty_version, restatus, record_at, held, HeldIn, held_version}
use Rattle.state.specs.declared.Desk.{Desk}
use Rattle.state.specs.declared.HeldVersion.{HeldVersion}
use Rattle.state.specs.declared.PointState.{PointState}
use Rattle.state.specs.declared.Status.TheVariants.{Check}
use Rattle.state.specs.declared.VersionRecord.{VersionRecord}
use Rattle.state.proofs.Bounds.{state-in, rows-fit}
use Rattle.state.proofs.Kept.{is-check, notice-own, notice-negative}
use Rattle.state.proofs.Picks.{held-right}
use Rattle.state.specs.Effect.{changed_by, Fits}
use Rattle.state.specs.declared.Effect.{Effect}
use Rattle.model.specs.Call.{Stores, notices}
use Rattle.model.specs.Causes.{rules, first_of, not_check, log_full}
use Rattle.model.specs.Log.{turn_of, due}
use Rattle.model.specs.Step.{amend_by, amended, granting}
use Rattle.model.specs.View.{view_of}
use Rattle.model.specs.declared.Answer.TheVariants.{Accepted}
use Rattle.model.specs.declared.LogRow.{LogRow}
use Rattle.model.specs.declared.Turn.{Turn}
use Rattle.model.proofs.Rules.{passed, past}
use Rattle.model.proofs.Selections.{noticed-restated, restated-all}
use Rattle.amend.proofs.Logs.{room-left}
use Rattle.amend.proofs.Within.{turn-in}
use Rattle.checks.specs.Lent.{lengths_in, sizes_of}
use Rattle.checks.specs.Stepped.{storing, IsStep}
use Rattle.checks.specs.Survey.{Surveyed}
use Rattle.checks.specs.declared.Survey.{Survey}
use Rattle.checks.proofs.Deciding.{no_lengths}
use Rattle.checks.proofs.Lengths.{lengths}
use Rattle.notice.specs.Notice.{noticed_in, own_by, turn_by, noticed_record, CheckFound, StandsIn, NoticeFits, NoticeEffect}

-- a notice at a point makes of its selection in a run what it makes of the selection found
own-noticed : (run c p x y day : ℕ) (vs : List VersionRecord) → own run p (noticed c p x y day vs) ≡ own_by run y (confirmed_status c day) (held p x vs) (own run p vs)
own-noticed run c p x y day vs = go (held p x vs) refl
  where
    Goal : Option HeldVersion → Type 0
    Goal h = own run p (noticed c p x y day vs) ≡ own_by run y (confirmed_status c day) h (own run p vs)

    positive : (i : ℕ) (v : VersionRecord) → held p x vs ≡ Some (held_version i v) → is_check v.status ≡ true → Dec (y ≡ 1) → Goal (Some (held_version i v))
    positive i v e t (yes one) = rw (one, t) (notice-own run c p x day i v vs e (is-check v.status t))
    positive i v e t (no ne) = rw (notice-negative c p x y day vs ne, ne_eqb y 1 ne)

    -- only check data turns
    by : (i : ℕ) (v : VersionRecord) → held p x vs ≡ Some (held_version i v) → (t : Bool) → is_check v.status ≡ t → Goal (Some (held_version i v))
    by i v e true t = positive i v e t (ℕ_discrete y 1)
    by i v e false t = rw (e, t, and-false (eqb y 1))

    go : (h : Option HeldVersion) → held p x vs ≡ h → Goal h
    go None e = rw e
    go (Some h) e = by h.at h.record e (is_check h.record.status) refl

-- what a notice makes of the selections found is what it makes of the point's versions
pub turned : (d : Desk) (p x y day : ℕ) (s : Survey) → Surveyed p x (versions_in d) s → turn_by d.frame y day s ≡ turn_of (versions_in d) (noticed_in d p x y day) p
turned d p x y day s f =
    let c = d.frame.opening.clearing.0 in
    let new1 : own_by 1 y (confirmed_status c day) s.held s.first ≡ own 1 p (noticed_in d p x y day) = rw (f.held, f.first, own-noticed 1 c p x y day (versions_in d)) in
    let new2 : own_by 2 y (confirmed_status c day) s.held s.second ≡ own 2 p (noticed_in d p x y day) = rw (f.held, f.second, own-noticed 2 c p x y day (versions_in d)) in
    λ i. record { old1 = f.first i; new1 = new1 i; old2 = f.second i; new2 = new2 i }

-- the table with the record found as the notice leaves it
pub noticed-table : (c y day i : ℕ) (v : VersionRecord) (vs : List VersionRecord) → record_at vs i ≡ v → v.status ≡ Check → set vs i (noticed_record c y day v) ≡ confirm c y day (Some (held_version i v)) vs
noticed-table c y day i v vs e s = let check : is_check v.status ≡ true = ap is_check s in rw check (go (eqb y 1))
  where
    go : (t : Bool) → set vs i (cond t (restatus (confirmed_status c day) v) v) ≡ cond (t && true) (set vs i (restatus (confirmed_status c day) v)) vs
    go true = refl
    go false = ap (set vs i) (sym e) ∙ set-get_or vs i empty_version

-- a version found among the versions held stands in the table
stands : (d : Desk) (p x : ℕ) (h : Option HeldVersion) → HeldIn p x (versions_in d) (length (versions_in d)) h → d.frame.count ≤ versions → length d.versions ≡ versions → StandsIn d.versions h
stands d p x None k few long = tt
stands d p x (Some h) k few long =
    let n = length-take-le d.frame.count d.versions (omega arith) in
    sym (get_or-take d.frame.count d.versions h.at empty_version (omega (arith, k.within))) ∙ k.here

-- past cause 25 the version found is check data
check-found : (d : Desk) (p x : ℕ) (h : Option HeldVersion) → HeldIn p x (versions_in d) (length (versions_in d)) h → d.frame.count ≤ versions → length d.versions ≡ versions → not_check h ≡ false → CheckFound h
unfolding not_check
check-found d p x None k few long e = absurd (true≢false e)
check-found d p x (Some h) k few long e =
    let n = length-take-le d.frame.count d.versions (omega arith) in
    (omega (arith, k.within), is-check h.record.status (not-false (is_check h.record.status) e))

module _ (d : Desk) (p x y day : ℕ) (values book log : List ℕ) (h : Option HeldVersion) (t : Turn) (o : Option LogRow) (s : Sound d) (table : length d.versions ≡ versions)
    (H : h ≡ held p x (versions_in d)) (T : t ≡ turn_of (versions_in d) (noticed_in d p x y day) p) (D : o ≡ due (versions_in d) (noticed_in d p x y day) p day) where
  pub notice-allowed : {here : PointState} → here ≡ point_at d.points p → first_of (rules (view_of d) (lengths_in no_lengths (sizes_of values book log)) (notices p x y day)) ≡ Ok tt → NoticeFits d.frame here h values book log t o
  notice-allowed known fine =
      let P = passed (rules (view_of d) (lengths_in no_lengths (sizes_of values book log)) (notices p x y day)) fine in
      let n = lengths no_lengths (sizes_of values book log) d.frame.opening (past 2 (rules (view_of d) (lengths_in no_lengths (sizes_of values book log)) (notices p x y day)) P) in
      let rows = rows_in d.frame.opening in
      let fits : rows * d.frame.opening.quarters ≤ d.frame.opening.values = rows-fit d.frame.opening s.quarters rows (omega arith) in
      let ok : all (version_record_ok rows) (noticed_in d p x y day) ≡ true = restated-all (versions_in d) (noticed_in d p x y day) (noticed-restated d.frame.opening.clearing.0 p x y day (versions_in d)) (version_record_ok rows) (λ v. refl) s.versions in
      record {
        changed = record {
          few = s.most;
          allotted = s.groups;
          fit = rw known (state-in d s p);
          whole = n.1 ∙ s.book;
          turn = rw T (turn-in d.frame.opening.quarters rows values (omega (arith, n.0)) (versions_in d) (noticed_in d p x y day) p s.versions ok);
        };
        check = rw H (check-found d p x (held p x (versions_in d)) (held-right p x (versions_in d)) s.count table (past 25 (rules (view_of d) (lengths_in no_lengths (sizes_of values book log)) (notices p x y day)) P));
        left = room-left d.frame.used d.frame.opening.log log o n.2 (ap (log_full d.frame.used d.frame.opening.log) D ∙ past 17 (rules (view_of d) (lengths_in no_lengths (sizes_of values book log)) (notices p x y day)) P);
      }

  -- the record found stands in the desk's table
  stood : StandsIn d.versions h
  stood = rw H (stands d p x (held p x (versions_in d)) (held-right p x (versions_in d)) s.count table)

  -- its effect fits the desk
  pub notice-fits : {here : PointState} {e : Effect} {book' log' : List ℕ} → NoticeEffect d.frame here h t o y day values book log e book' log' → Fits d e
  notice-fits n = (n.desk d stood).0

  -- its effect is what the step makes of the desk and the stores, whatever the further stores are
  pub notice-stepped : (u : Stores) {here : PointState} {e : Effect} {book' log' : List ℕ} → here ≡ point_at d.points p → NoticeEffect d.frame here h t o y day values book log e book' log'
      → IsStep (granting d (storing u values book log) (notices p x y day)) Accepted (changed_by d e) values book' log'
  unfolding amended
  notice-stepped u {here = here} known n =
      record {
        answered = refl;
        held = (n.desk d stood).1 ∙ rw (H, D);
        valued = refl;
        booked = n.booked ∙ ap (λ (u : Turn). amend_by d.frame.opening.quarters d.frame.groups here u values book) T ∙ rw known;
        noted = n.noted ∙ rw D;
      }

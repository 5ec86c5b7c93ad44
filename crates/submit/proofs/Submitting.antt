-- Laws of a submission: what it makes of the selections, and what one that the table does not refuse has passed. Assumes nothing.
use mathlib.Core.Path.{◌≡◌, refl, sym, ap, ◌∙◌}
use mathlib.Core.Bool.{true, false, ◌||◌}
use mathlib.Core.List.{List, [], ◌∷◌, map}
use Prim.Native.Nat.{ℕ, ◌+◌, ◌*◌, ◌≤◌, ◌<◌}
use native.Mathlib.Omega.{arith}
use borrow.Author.Tests.{eq-eqb, eqb-true, lt-ltb, ltb-false, leb-false, not-false}
use lib.Dec.{leb, ltb, eqb}
use lib.ListN.{length, length-map}
use lib.Seq.{length-take-le}
use Rattle.std.specs.Prelude.{Ok, Option}
use Rattle.quantity.specs.Limits.{versions, version_ok, point_ok, day_ok}
use Rattle.quantity.specs.Lists.{all}
use Rattle.quantity.specs.Word.{signed}
use Rattle.quantity.specs.declared.Version.{Version}
use Rattle.quantity.proofs.Lists.{all-append}
use Rattle.quantity.proofs.Tests.{and-left, and-right, or-left, or-right}
use Rattle.state.specs.Change.{submitted}
use Rattle.state.specs.Point.{point_at}
use Rattle.state.specs.Desk.{versions_in, rows_in}
use Rattle.state.specs.Effect.{changed_by}
use Rattle.state.specs.Selection.{own, is_counted}
use Rattle.state.specs.Valid.{version_record_ok, Sound}
use Rattle.state.specs.Version.{new_version}
use Rattle.state.specs.declared.Desk.{Desk}
use Rattle.state.specs.declared.Effect.{Effect}
use Rattle.state.specs.declared.PointState.{PointState}
use Rattle.state.specs.declared.Selection.{Selection}
use Rattle.state.specs.declared.Selection.TheVariants.{None, Selected}
use Rattle.state.specs.declared.VersionRecord.{VersionRecord}
use Rattle.state.proofs.Bounds.{state-in, rows-fit, fit-rows}
use Rattle.state.proofs.Picks.{best-last}
use Rattle.checks.specs.Lent.{lengths_in, sizes_of}
use Rattle.checks.specs.Stepped.{storing, IsStep}
use Rattle.checks.specs.Survey.{Surveyed}
use Rattle.checks.specs.declared.Survey.{Survey}
use Rattle.checks.proofs.Deciding.{no_lengths}
use Rattle.checks.proofs.Lengths.{lengths}
use Rattle.model.specs.Call.{Stores, submits}
use Rattle.model.specs.Causes.{Rule, rules, first_of, log_full, submit_ok}
use Rattle.model.specs.Log.{turn_of, due}
use Rattle.model.specs.Step.{version_by, amend_by, amended, granting}
use Rattle.model.specs.View.{view_of}
use Rattle.model.specs.declared.Answer.TheVariants.{Accepted}
use Rattle.model.specs.declared.LogRow.{LogRow}
use Rattle.model.specs.declared.Turn.{Turn}
use Rattle.model.proofs.Rules.{passed, past}
use Rattle.amend.specs.Lent.{SeriesIn, TurnIn}
use Rattle.amend.proofs.Logs.{room-left}
use Rattle.amend.proofs.Within.{turn-in}
use Rattle.submit.specs.Submit.{own_by, turn_by, submitted_in, Granted, Delivered}

-- as many versions are held as are counted
pub length-held : (d : Desk) → d.frame.count ≤ versions → length d.versions ≡ versions → length (versions_in d) ≡ d.frame.count
length-held d h n = length-take-le d.frame.count d.versions (omega arith)

-- what a submission makes of the selections found is what it makes of the point's versions
module _ (d : Desk) (p day : ℕ) (version : Version) (s : Survey) (few : d.frame.count ≤ versions) (table : length d.versions ≡ versions) where
  one-run : (run : ℕ) (e : Selection) → e ≡ own run p (versions_in d) → own_by run d.frame version day e ≡ own run p (submitted_in d p version.0 day)
  one-run run e h =
      sym (rw (best-last (is_counted run p) (versions_in d) (version_by d p version.0 day), eq-eqb p p refl, length-held d few table, h))

  pub turned : {x : ℕ} → Surveyed p x (versions_in d) s → turn_by d.frame version day s ≡ turn_of (versions_in d) (submitted_in d p version.0 day) p
  turned f = λ i. record { old1 = f.first i; new1 = one-run 1 s.first f.first i; old2 = f.second i; new2 = one-run 2 s.second f.second i }

-- the versions with a submission's are within the limits
pub submitted-ok : (d : Desk) (p x day : ℕ) → Sound d → point_ok p ≡ true → version_ok x ≡ true → d.frame.count < rows_in d.frame.opening
    → all (version_record_ok (rows_in d.frame.opening)) (submitted_in d p x day) ≡ true
unfolding all
submitted-ok d p x day s hp hx hr =
    let n = rows_in d.frame.opening in
    rw (all-append (version_record_ok n) (versions_in d) (version_by d p x day ∷ []), s.versions, hp, hx, lt-ltb d.frame.count n hr)

-- the series of a turn stand in any values of that length
module _ (q : ℕ) (values stored : List ℕ) (same : length stored ≡ length values) where
  series-same : (s : Selection) → SeriesIn q values s → SeriesIn q stored s
  series-same None h = tt
  series-same (Selected r) h = omega (arith, h, same)

  pub turn-same : (t : Turn) → TurnIn q values t → TurnIn q stored t
  turn-same t h =
      record {
        old1 = series-same t.old1 h.old1;
        new1 = series-same t.new1 h.new1;
        old2 = series-same t.old2 h.old2;
        new2 = series-same t.new2 h.new2;
      }

module _ (d : Desk) (p x day : ℕ) (series values book log : List ℕ) (t : Turn) (o : Option LogRow)
    (T : t ≡ turn_of (versions_in d) (submitted_in d p x day) p) (D : o ≡ due (versions_in d) (submitted_in d p x day) p day) where
  module _ (s : Sound d) (table : length d.versions ≡ versions)
      (fine : first_of (rules (view_of d) (lengths_in no_lengths (sizes_of values book log)) (submits p x day (map signed series))) ≡ Ok tt) where
    abbrev lines : List Rule
    lines = rules (view_of d) (lengths_in no_lengths (sizes_of values book log)) (submits p x day (map signed series))

    fields : submit_ok p x day d.frame.opening.quarters (map signed series) ≡ true
    fields = not-false _ (past 3 lines (passed lines fine))

    -- as long as its opening says
    long : (length values ≡ d.frame.opening.values) × (length book ≡ d.frame.opening.book) × (length log ≡ d.frame.opening.log)
    long = lengths no_lengths (sizes_of values book log) d.frame.opening (past 2 lines (passed lines fine))

    -- one more version, and a row for it
    rows : (leb versions (length (versions_in d)) || ltb d.frame.opening.values ((length (versions_in d) + 1) * d.frame.opening.quarters)) ≡ false
    rows = past 16 lines (passed lines fine)

    room : (d.frame.count + 1) * d.frame.opening.quarters ≤ d.frame.opening.values
    room =
        let m = length-held d s.count table in
        rw m at (ltb-false d.frame.opening.values ((length (versions_in d) + 1) * d.frame.opening.quarters) (or-right (leb versions (length (versions_in d))) _ rows))

    pub submit-allowed : {here : PointState} → here ≡ point_at d.points p → (point_ok p ≡ true) × Granted d.frame here series values book log t o
    submit-allowed known =
        let q = d.frame.opening.quarters in
        let there = and-left (point_ok p) _ fields in
        let f1 = and-right (point_ok p) _ fields in
        let f2 = and-right (day_ok day) _ (and-right (version_ok x) _ f1) in
        let count = eqb-true (length (map signed series)) q (and-left (eqb (length (map signed series)) q) _ f2) in
        let m = length-held d s.count table in
        let n = rows_in d.frame.opening in
        let next : d.frame.count + 1 ≤ n = fit-rows d.frame.opening s.quarters (d.frame.count + 1) room in
        let fits : n * q ≤ d.frame.opening.values = rows-fit d.frame.opening s.quarters n (omega arith) in
        let ok = submitted-ok d p x day s there (and-left (version_ok x) _ f1) (omega arith) in
        let full = past 17 lines (passed lines fine) in (
          there,
          record {
            changed =
                record {
                  few = s.most;
                  allotted = s.groups;
                  fit = rw known (state-in d s p);
                  whole = long.1 ∙ s.book;
                  turn = rw T (turn-in q n values (omega (arith, long.0)) (versions_in d) (submitted_in d p x day) p s.versions ok);
                };
            left = room-left d.frame.used d.frame.opening.log log o long.2
                (ap (log_full d.frame.used d.frame.opening.log) D
                ∙ ap (λ (k : ℕ). log_full d.frame.used d.frame.opening.log (due (versions_in d) (submitted (new_version d.frame.opening.first.0 k p x day) (versions_in d)) p day)) (sym m)
                ∙ full);
            full = sym (length-map series signed) ∙ count;
            more = omega (arith, leb-false versions (length (versions_in d)) (or-left (leb versions (length (versions_in d))) _ rows), m);
            room = omega (arith, room, long.0);
          },
        )

  -- its effect is what the step makes of the desk and the stores, whatever the further stores are
  pub submit-stepped : (u : Stores) {here : PointState} {v : VersionRecord} {e : Effect} {values' book' log' : List ℕ} → here ≡ point_at d.points p → v ≡ version_by d p x day
      → Delivered d.frame here v day t o series values book log e values' book' log'
      → IsStep (granting d (storing u values book log) (submits p x day (map signed series))) Accepted (changed_by d e) values' book' log'
  unfolding amended
  submit-stepped u {here = here} {values' = values'} known made n =
      record {
        answered = refl;
        held = (n.desk d).1 ∙ rw (made, D);
        valued = n.valued;
        booked =
            n.booked
            ∙ ap (λ (w : Turn). amend_by d.frame.opening.quarters d.frame.groups here w values' book) T
            ∙ rw (known, n.valued);
        noted = n.noted ∙ rw D;
      }

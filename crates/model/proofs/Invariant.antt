-- What holds of the running desk and the accepted calls after each call of an opened desk. Assumes nothing.
use Prim.Native.Nat.{ℕ, ◌*◌, ◌%◌, ◌≤◌}
use mathlib.Core.Path.{◌≡◌, refl, sym, ap, ◌∙◌, subst}
use mathlib.Core.Bool.{Bool, true, false, not, ◌&&◌}
use mathlib.Core.List.{List, ◌∷◌}
use native.Mathlib.Omega.{arith}
use borrow.Author.Tests.{le-leb, eqb-true, ne_eqb}
use lib.Dec.{eqb}
use lib.ListN.{length, take}
use lib.Seq.{length-take-le}
use Rattle.quantity.specs.Limits.{points, versions, deltas, book_rows, schedule_rows, quarters_ok, deadlines_ok, day_ok}
use Rattle.quantity.specs.Lists.{all, fold}
use Rattle.quantity.proofs.Tests.{and-left, and-right, within-low}
use Rattle.state.specs.Desk.{is_open, frame_of, rows_in, log_rows_in, versions_in}
use Rattle.state.specs.Point.{point_at, is_active}
use Rattle.state.specs.Valid.{opening_ok, point_record_ok, version_record_ok, deltas_ok, frame_ok, valid_desk}
use Rattle.state.specs.declared.PerRun.{PerRun}
use Rattle.state.specs.declared.Desk.{Desk}
use Rattle.state.specs.declared.Opening.{Opening}
use Rattle.state.specs.declared.PointRecord.{PointRecord}
use Rattle.state.specs.declared.VersionRecord.{VersionRecord}
use Rattle.model.specs.Agreement.{left, Own}
use Rattle.model.specs.Call.{Call, Stores, lengths_of, Told}
use Rattle.model.specs.Causes.{terms, takes, rules, or_if, first_of, refusal}
use Rattle.model.specs.Laws.{Passed}
use Rattle.model.specs.Log.{log_numbers}
use Rattle.model.specs.Plain.{Worked, worked, after, worked_out, opening_of, log_of, view_by, view_in, granted}
use Rattle.model.specs.Series.{figure_of}
use Rattle.model.specs.Step.{granting, refusal_by, reply_of}
use Rattle.model.specs.View.{view_of}
use Rattle.model.specs.declared.Cause.TheVariants.{NotOpen}
use Rattle.model.proofs.Amends.{Stored}
use Rattle.model.proofs.Books.{Booked}
use Rattle.model.proofs.Schedules.{Scheduled}

-- the running desk as what is worked out, with what only a list has: energies, log rows and schedules
abbrev pub works_out : Desk → Worked → Worked
works_out d w =
    worked d.frame.opening d.frame.day.0 d.points d.frame.groups (versions_in d) w.energies w.log d.frame.closed d.frame.issued w.schedules

-- ---- the invariant

-- a version's point is active
abbrev pub tenanted : List PointRecord → VersionRecord → Bool
tenanted ps v = is_active (point_at ps v.point.0)

-- what the opening fixed, the day and the log rows used are within their limits
pub record Framed (o : Opening) (e n : ℕ) : Type 0 where
  pub opening : opening_ok o ≡ true
  pub day : day_ok e ≡ true
  pub used : n ≤ log_rows_in o

-- so are all delta groups,
pub record Grouped (gs : PerRun (List ℕ)) : Type 0 where
  pub each : deltas_ok gs ≡ true
  pub size1 : length gs.first ≡ deltas
  pub size2 : length gs.second ≡ deltas

-- all points,
pub record Pointed (ps : List PointRecord) : Type 0 where
  pub each : all point_record_ok ps ≡ true
  pub size : length ps ≡ points

-- and all versions; each is of an active point
pub record Versioned (o : Opening) (ps : List PointRecord) (vs : List VersionRecord) : Type 0 where
  pub count : length vs ≤ versions
  pub rows : length vs ≤ rows_in o
  pub each : all (version_record_ok (rows_in o)) vs ≡ true
  pub homes : all (tenanted ps) vs ≡ true

-- what is worked out, beside the stores
pub record Kept (w : Worked) (s : Stores) : Type 0 where
  pub framed : Framed w.opening w.day (length w.log)
  pub grouped : Grouped w.groups
  pub pointed : Pointed w.points
  pub versioned : Versioned w.opening w.points w.versions
  pub stored : Stored w.opening.quarters s.values w.versions w.energies
  pub booked : Booked w.opening.quarters s.book (figure_of w.points w.groups w.versions w.energies)
  pub values_long : length s.values ≡ w.opening.values
  pub log_long : length s.log ≡ w.opening.log
  pub logged : take (4 * length w.log) s.log ≡ log_numbers w.log
  pub scheduled : Scheduled w.opening.quarters s.schedules w.schedules

-- the version table is of its size
pub record Tabled (n : ℕ) (table : List VersionRecord) : Type 0 where
  pub size : length table ≡ versions
  pub count : n ≤ versions

-- and the desk holds what the accepted calls give
pub record Holds (d : Desk) (s : Stores) (h : List Told) : Type 0 where
  pub table : Tabled d.frame.count d.versions
  pub used : d.frame.used ≡ length (log_of h)
  pub works : works_out d (worked_out h) ≡ worked_out h
  pub kept : Kept (works_out d (worked_out h)) s

-- ---- what follows from it

-- as many versions are held as are counted
pub count-is : (d : Desk) → Tabled d.frame.count d.versions → length (versions_in d) ≡ d.frame.count
count-is d T = length-take-le d.frame.count d.versions (omega (arith, T.size, T.count))

-- an opening within its limits: it has quarter hours, so it is open; the book's length is 162 × Q, and that of the schedules 64 × Q
pub quarters-in : (o : Opening) → opening_ok o ≡ true → 1 ≤ o.quarters
unfolding opening_ok
quarters-in o h = within-low 1 2980 o.quarters (and-left (quarters_ok o.quarters) _ h)

pub opening-open : (o : Opening) → opening_ok o ≡ true → is_open o ≡ true
opening-open o h = let n = quarters-in o h in rw (ne_eqb o.quarters 0 (λ e. omega arith))

pub book-is : (o : Opening) → opening_ok o ≡ true → o.book ≡ book_rows * o.quarters
unfolding opening_ok
book-is o h =
    eqb-true o.book (162 * o.quarters)
    (and-left (eqb o.book (162 * o.quarters)) _ (and-right (deadlines_ok o.first.0 o.clearing.0 o.correction.0) _ (and-right (quarters_ok o.quarters) _ h)))

pub schedules-is : (o : Opening) → opening_ok o ≡ true → o.schedules ≡ schedule_rows * o.quarters
unfolding opening_ok
schedules-is o h =
    eqb-true o.schedules (64 * o.quarters)
    (and-right (eqb (o.log % 4) 0) _
    (and-right (eqb o.book (162 * o.quarters)) _ (and-right (deadlines_ok o.first.0 o.clearing.0 o.correction.0) _ (and-right (quarters_ok o.quarters) _ h))))

module _ (d : Desk) (s : Stores) (h : List Told) (H : Holds d s h) where
  -- the desk is open, on both sides, and valid
  pub holds-open : is_open d.frame.opening ≡ true
  holds-open = opening-open d.frame.opening H.kept.framed.opening

  pub plain-open : is_open (opening_of h) ≡ true
  plain-open = sym (ap (λ (w : Worked). is_open w.opening) H.works) ∙ holds-open

  -- both desks show the table of causes the same
  pub holds-view : view_of d ≡ view_in h
  unfolding view_in
  holds-view =
      ap (λ (n : ℕ). record { frame = frame_of d.frame.opening d.frame.day.0 d.frame.groups n d.frame.used d.frame.closed d.frame.issued; points = d.points; versions = versions_in d }) (sym (count-is d H.table))
      ∙ ap (λ (n : ℕ). record { frame = frame_of d.frame.opening d.frame.day.0 d.frame.groups (length (versions_in d)) n d.frame.closed d.frame.issued; points = d.points; versions = versions_in d }) H.used
      ∙ ap view_by H.works

  pub holds-valid : valid_desk d ≡ true
  unfolding valid_desk frame_ok
  holds-valid =
      let K = H.kept in
      let n = count-is d H.table in
      rw (
        K.framed.opening,
        K.framed.day,
        K.grouped.each,
        le-leb d.frame.count versions H.table.count,
        le-leb d.frame.count (rows_in d.frame.opening) (omega (arith, K.versioned.rows)),
        le-leb d.frame.used (log_rows_in d.frame.opening) (omega (arith, K.framed.used, H.used)),
        K.pointed.each,
        K.versioned.each,
      )

  -- both desks say the same of a call
  pub same-refusal : (t : Told) → refusal_by d t ≡ refusal (view_in h) t
  unfolding refusal_by refusal first_of fold or_if
  same-refusal t = rw (holds-valid, holds-view) (go (terms t.call).opening)
    where
      go : (b : Bool) → first_of (record { holds = not b && false; cause = NotOpen } ∷ rules (view_in h) t.lengths t.call) ≡ first_of (rules (view_in h) t.lengths t.call)
      go true = refl
      go false = refl

  -- what is worked out of the list with the call
  abbrev pub then : Told → Worked
  then t = after t (works_out d (worked_out h))

  -- the invariant after an accepted call
  pub finish : (t : Told) (d' : Desk) (s' : Stores) → Tabled d'.frame.count d'.versions → d'.frame.used ≡ length (then t).log
      → works_out d' (then t) ≡ then t → Kept (then t) s' → Holds d' s' (t ∷ h)
  unfolding worked_out
  finish t d' s' T u e K =
      let same : then t ≡ worked_out (t ∷ h) = ap (after t) H.works in
      record {
        table = T;
        used = u ∙ ap (λ (w : Worked). length w.log) same;
        works = ap (works_out d') (sym same) ∙ e ∙ same;
        kept = subst (λ (w : Worked). Kept w s') (sym e ∙ ap (works_out d') same) K;
      }

-- ---- what is to be shown of an accepted call

-- the plain desk's reply, and the invariant with the call in the list
pub record Done (d : Desk) (s : Stores) (h : List Told) (c : Call) (st : Stores) : Type 0 where
  pub reply : reply_of (granting d st c) ≡ granted h c
  pub holds : Holds (granting d st c).desk (left (granting d st c).desk.frame.opening (takes c) s (granting d st c).stores) (record { call = c; lengths = lengths_of st } ∷ h)

-- of every desk that the invariant holds of, lent its own stores, with no line of the table holding
abbrev pub Granted : Call → Type 0
Granted c = (d : Desk) (s : Stores) (h : List Told) (st : Stores) → Holds d s h → Own d.frame.opening (takes c) s st → Passed (rules (view_of d) (lengths_of st) c) → Done d s h c st

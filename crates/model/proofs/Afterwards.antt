-- What an accepted call makes of the desk, field by field, in the paper's words. Assumes nothing.
use Prim.Native.Nat.{ℕ, suc, ◌-◌}
use mathlib.Core.Path.{◌≡◌, refl, ap}
use mathlib.Core.List.{List, [], ◌∷◌, ◌++◌}
use borrow.Author.Tests.{le-leb, lt-leb}
use lib.IntN.{ℤ}
use lib.ListN.{length, set, length-set, length-append, get_or-append}
use lib.Seq.{get_or-set_same, get_or-set_other, get_or-append_seam}
use mathlib.Core.Bool.{Bool}
use Rattle.quantity.specs.Lists.{fold}
use Rattle.state.specs.Groups.{sets_both, with_group}
use Rattle.state.specs.Point.{free_point}
use Rattle.state.specs.Version.{empty_version, new_version, record_at}
use Rattle.state.specs.declared.PerRun.{PerRun}
use Rattle.state.specs.declared.Opening.{Opening}
use Rattle.state.specs.declared.PointState.TheVariants.{Free, Active}
use Rattle.state.specs.declared.VersionRecord.{VersionRecord}
use Rattle.state.proofs.Settled.{submitted-number, settles-first, settles-second}
use Rattle.model.specs.Call.{Call, opens, activates, deactivates, submits, notices, assigns, shows, asks, closes, issues, lodges, reports, Lengths, telling}
use Rattle.model.specs.Laws.{Opens, Sets, Allots, Delivers, Closes, Issues, day_by}
use Rattle.model.specs.Plain.{Worked, after}

pub sets-one : {A : Type 0} (z : A) (l : List A) (i : ℕ) (x : A) → Sets z i x l (set l i x)
sets-one z l i x = record { there = get_or-set_same l i x z; others = λ j ne. get_or-set_other l i j x z ne; size = length-set l i x }

pub allotted : (o : Opening) (gs : PerRun (List ℕ)) (d a g : ℕ) → Allots o.clearing.0 d a g gs (with_group (sets_both o d) a g gs)
allotted o gs d a g =
    let c = o.clearing.0 in
    record { early = λ h. rw (le-leb d c h) (sets-one 0 gs.first a g); late = λ h. rw (lt-leb d c h); second = sets-one 0 gs.second a g }

module _ (w : Worked) (n : Lengths) where
  pub opens-sets : (q f c k : ℕ) (gs : List ℕ) → Opens q f c k gs n (after (telling n (opens q f c k gs)) w).opening (after (telling n (opens q f c k gs)) w).groups
  unfolding after fold
  opens-sets q f c k gs = record { q = refl; f = refl; c = refl; k = refl; values = refl; book = refl; log = refl; schedules = refl; given1 = refl; given2 = refl }

  -- "a point is either free or active since a day, with its kind, area and partner": points are counted from 1, records from 0
  pub activates-sets : (i k a b d : ℕ)
      → Sets free_point i (record { state = Active (record { 0 = d }) (record { 0 = k }) (record { 0 = a }) (record { 0 = b }) }) w.points (after (telling n (activates (suc i) k a b d)) w).points
  unfolding after fold
  activates-sets i k a b d = sets-one free_point w.points i _

  -- "The point becomes free."
  pub deactivates-sets : (i d : ℕ) → Sets free_point i (record { state = Free }) w.points (after (telling n (deactivates (suc i) d)) w).points
  unfolding after fold
  deactivates-sets i d = sets-one free_point w.points i _

  -- "A delta's group is the one set last.", for its run
  pub assigns-sets : (a g d : ℕ) → Allots w.opening.clearing.0 d a g w.groups (after (telling n (assigns a g d)) w).groups
  unfolding after fold
  assigns-sets a g d = allotted w.opening w.groups d a g

  pub submits-sets : (p x d : ℕ) (es : List ℤ) → Delivers p x d es w (after (telling n (submits p x d es)) w)
  unfolding after fold
  submits-sets p x d es =
      let new = new_version w.opening.first.0 (length w.versions) p x d in
      let there : record_at (w.versions ++ (new ∷ [])) (length w.versions) ≡ new = get_or-append_seam w.versions new [] empty_version in
      record {
        size = length-append w.versions (new ∷ []);
        of_point = ap (λ (v : VersionRecord). v.point.0) there;
        numbered = ap (λ (v : VersionRecord). v.version.0) there;
        row = ap (λ (v : VersionRecord). v.row.0) there;
        status = rw there (submitted-number w.opening.first.0 d);
        others = λ j h. get_or-append w.versions (new ∷ []) empty_version j h;
        deliveries = length-append w.energies (es ∷ []);
        series = get_or-append_seam w.energies es [] [];
        earlier = λ j h. get_or-append w.energies (es ∷ []) [] j h;
      }

  -- document 02: a schedule "may be replaced"; groups are counted from 1, rows from 0
  pub lodges-sets : (g d : ℕ) (es : List ℤ) → Sets [] (g - 1) es w.schedules (after (telling n (lodges g d es)) w).schedules
  unfolding after fold
  lodges-sets g d es = sets-one [] w.schedules (g - 1) es

  -- a close of each run
  pub closes-first : (d : ℕ) → Closes (λ (r : PerRun Bool). r.first) (λ (r : PerRun Bool). r.second) w (after (telling n (closes 1 d)) w)
  unfolding after fold
  closes-first d = record { closed = refl; apart = refl; issued = refl; versions = refl }

  pub closes-second : (d : ℕ) → Closes (λ (r : PerRun Bool). r.second) (λ (r : PerRun Bool). r.first) w (after (telling n (closes 2 d)) w)
  unfolding after fold
  closes-second d = record { closed = refl; apart = refl; issued = refl; versions = refl }

  -- and an issue: 2 and 3 become 3, 4 and 5 become 5
  pub issues-first : (d : ℕ) → Issues (λ (r : PerRun Bool). r.first) (λ (r : PerRun Bool). r.second) 1 2 3 w (after (telling n (issues 1 d)) w)
  unfolding after fold
  issues-first d = record { issued = refl; apart = refl; closed = refl; settles = settles-first w.versions }

  pub issues-second : (d : ℕ) → Issues (λ (r : PerRun Bool). r.second) (λ (r : PerRun Bool). r.first) 2 4 5 w (after (telling n (issues 2 d)) w)
  unfolding after fold
  issues-second d = record { issued = refl; apart = refl; closed = refl; settles = settles-second w.versions }

  pub day-set : (c : Call) → (after (telling n c) w).day ≡ day_by c w.day
  unfolding after fold
  day-set (opens q f c k gs) = refl
  day-set (activates p k a b d) = refl
  day-set (deactivates p d) = refl
  day-set (submits p x d es) = refl
  day-set (notices p x y d) = refl
  day-set (assigns a g d) = refl
  day-set (shows r g) = refl
  day-set (asks p x) = refl
  day-set (closes r d) = refl
  day-set (issues r d) = refl
  day-set (lodges g d es) = refl
  day-set (reports r g) = refl

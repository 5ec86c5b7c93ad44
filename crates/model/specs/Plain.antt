-- The plain desk: "It keeps one list, empty at first. .. All else is worked out by going through the list from its start."
-- The list stands newest first: what "joins the end" is put in front, and each definition says what the last call makes of what the calls
-- before it gave, so it goes through the list from its start.
use Rattle.std.specs.Prelude.{ℕ, zero, suc, ◌-◌, List, [], ◌∷◌, ◌++◌, ℤ, pos, length, get_or, set, replicate, Ok, Err, Bool}
use Rattle.quantity.specs.Limits.{points, deltas, groups as group_count}
use Rattle.quantity.specs.Lists.{fold}
use Rattle.quantity.specs.Sum.{sum_to}
use Rattle.book.specs.Place.{group_row}
use Rattle.deviation.specs.Deviation.{surplus, shortfall}
use Rattle.state.specs.Change.{submitted, noticed, settled_by}
use Rattle.state.specs.Desk.{unopened, no_run, frame_of, flagged}
use Rattle.state.specs.Groups.{alike, sets_both, with_group}
use Rattle.state.specs.Point.{free_point, active_point, with_point}
use Rattle.state.specs.Version.{new_version, held}
use Rattle.state.specs.declared.PerRun.{PerRun}
use Rattle.state.specs.declared.Opening.{Opening}
use Rattle.state.specs.declared.PointRecord.{PointRecord}
use Rattle.state.specs.declared.VersionRecord.{VersionRecord}
use Rattle.model.specs.Call.{Call, opens, activates, deactivates, submits, notices, assigns, shows, asks, closes, issues, lodges, reports, Lengths, Told, Reply}
use Rattle.model.specs.Causes.{terms, opening_by, refusal, Ruling}
use Rattle.model.specs.Log.{due, add_row}
use Rattle.model.specs.Series.{figure_of, outside_of}
use Rattle.model.specs.Step.{status_answer}
use Rattle.model.specs.View.{View}
use Rattle.model.specs.declared.Answer.{Answer}
use Rattle.model.specs.declared.Answer.TheVariants.{Accepted, Refused}
use Rattle.model.specs.declared.LogRow.{LogRow}

-- what the plain desk works out: the opening, the day, the points, the delta groups of each run, the versions, the energies of the submissions in their
-- order, the log rows, the runs closed, the runs issued, the schedules lodged
pub record Worked : Type 0 where
  pub opening : Opening
  pub day : ℕ
  pub points : List PointRecord
  pub groups : PerRun (List ℕ)
  pub versions : List VersionRecord
  pub energies : List (List ℤ)
  pub log : List LogRow
  pub closed : PerRun Bool
  pub issued : PerRun Bool
  pub schedules : List (List ℤ)

-- the same of its parts
abbrev pub worked : Opening → (day : ℕ) → List PointRecord → PerRun (List ℕ) → List VersionRecord → List (List ℤ) → List LogRow → (closed issued : PerRun Bool) → (schedules : List (List ℤ)) → Worked
worked o d ps gs vs es l c r ss = record { opening = o; day = d; points = ps; groups = gs; versions = vs; energies = es; log = l; closed = c; issued = r; schedules = ss }

-- "one list, empty at first": no group has lodged
abbrev pub nothing_yet : Worked
nothing_yet = worked unopened 0 (replicate points free_point) (alike (replicate deltas 0)) [] [] [] no_run no_run (replicate group_count [])

-- what a call sets
pub data Setting : Type 0 where
  opened : Opening → (groups : List ℕ) → Setting
  dated : (day : ℕ) → Setting
  placed : (point : ℕ) → PointRecord → Setting
  allotted : (area group : ℕ) → Setting
  delivered : (point version : ℕ) (energies : List ℤ) → Setting
  judged : (point version verdict : ℕ) → Setting
  closed_in : (run : ℕ) → Setting
  issued_in : (run : ℕ) → Setting
  lodged : (group : ℕ) (energies : List ℤ) → Setting

-- "A call that changes run 1's selection or run 2's own adds one log row.": other versions of a point
abbrev pub with_versions : (point : ℕ) → List VersionRecord → Worked → Worked
with_versions p ws w =
    worked w.opening w.day w.points w.groups ws w.energies (add_row (due w.versions ws p w.day) w.log) w.closed w.issued w.schedules

-- one submission's energies more
abbrev pub with_energies : List ℤ → Worked → Worked
with_energies es w = worked w.opening w.day w.points w.groups w.versions (w.energies ++ (es ∷ [])) w.log w.closed w.issued w.schedules

-- one setting more. "The opening gives Q, deadlines and store lengths." "A point is active from activation to deactivation." "A delta's group is
-- the one set last.", for its run: document 02, "opening sets both alike", assign both or "run 2 only". "Each submission makes a version that takes a row of values; its status comes from its day, then from later notices and
-- settles by the rules above." Document 02: "close (records that the run is closed) and issue (sets status 3 or 5)"; a schedule "may be replaced"
abbrev pub set_in : Worked → Setting → Worked
set_in w (opened o gs) = worked o w.day w.points (alike gs) w.versions w.energies w.log w.closed w.issued w.schedules
set_in w (dated d) = worked w.opening d w.points w.groups w.versions w.energies w.log w.closed w.issued w.schedules
set_in w (placed p r) = worked w.opening w.day (with_point w.points p r) w.groups w.versions w.energies w.log w.closed w.issued w.schedules
set_in w (allotted a g) =
    worked w.opening w.day w.points (with_group (sets_both w.opening w.day) a g w.groups) w.versions w.energies w.log w.closed w.issued w.schedules
set_in w (delivered p x es) =
    with_energies es (with_versions p (submitted (new_version w.opening.first.0 (length w.versions) p x w.day) w.versions) w)
set_in w (judged p x y) = with_versions p (noticed w.opening.clearing.0 p x y w.day w.versions) w
set_in w (closed_in r) = worked w.opening w.day w.points w.groups w.versions w.energies w.log (flagged r w.closed) w.issued w.schedules
set_in w (issued_in r) = worked w.opening w.day w.points w.groups (settled_by r w.versions) w.energies w.log w.closed (flagged r w.issued) w.schedules
set_in w (lodged g es) =
    worked w.opening w.day w.points w.groups w.versions w.energies w.log w.closed w.issued (set w.schedules (group_row g) es)

-- beside its day, one line a call
abbrev pub sets : Told → List Setting
sets t = sets_by t.lengths t.call
  where
    sets_by : Lengths → Call → List Setting
    sets_by n (opens q f c k gs) = opened (opening_by q f c k n) gs ∷ []
    sets_by n (activates p k a b d) = placed p (active_point k a b d) ∷ []
    sets_by n (deactivates p d) = placed p free_point ∷ []
    sets_by n (submits p x d es) = delivered p x es ∷ []
    sets_by n (notices p x y d) = judged p x y ∷ []
    sets_by n (assigns a g d) = allotted a g ∷ []
    sets_by n (shows r g) = []
    sets_by n (asks p x) = []
    sets_by n (closes r d) = closed_in r ∷ []
    sets_by n (issues r d) = issued_in r ∷ []
    sets_by n (lodges g d es) = lodged g es ∷ []
    sets_by n (reports r g) = []

-- "The day is that of the last call with one, or 0."; then what else the call sets
unfoldable pub after : Told → Worked → Worked
after t w = fold set_in (set_in w (dated ((terms t.call).day w.day))) (sets t)

-- "All else is worked out by going through the list from its start."
unfoldable pub worked_out : List Told → Worked
worked_out [] = nothing_yet
worked_out (t ∷ h) = after t (worked_out h)

-- the opening that the list gives
abbrev pub opening_of : List Told → Opening
opening_of h = (worked_out h).opening

-- its day
abbrev pub day_of : List Told → ℕ
day_of h = (worked_out h).day

-- its points
abbrev pub points_of : List Told → List PointRecord
points_of h = (worked_out h).points

-- its delta groups, for each run
abbrev pub groups_of : List Told → PerRun (List ℕ)
groups_of h = (worked_out h).groups

-- its versions
abbrev pub versions_of : List Told → List VersionRecord
versions_of h = (worked_out h).versions

-- its submissions' energies
abbrev pub energies_of : List Told → List (List ℤ)
energies_of h = (worked_out h).energies

-- its log rows
abbrev pub log_of : List Told → List LogRow
log_of h = (worked_out h).log

-- its closed runs
abbrev pub closed_of : List Told → PerRun Bool
closed_of h = (worked_out h).closed

-- its issued runs
abbrev pub issued_of : List Told → PerRun Bool
issued_of h = (worked_out h).issued

-- its schedules
abbrev pub schedules_of : List Told → List (List ℤ)
schedules_of h = (worked_out h).schedules

-- what the table of causes looks at
abbrev pub view_by : Worked → View
view_by w =
    record {
      frame = frame_of w.opening w.day w.groups (length w.versions) (length w.log) w.closed w.issued;
      points = w.points;
      versions = w.versions;
    }

-- the same of the list
unfoldable pub view_in : List Told → View
view_in h = view_by (worked_out h)

-- the figure of a run, row k and quarter hour, counted from 0
unfoldable pub figure : List Told → (run k quarter : ℕ) → ℤ
figure h run k q = figure_of (points_of h) (groups_of h) (versions_of h) (energies_of h) run k q

-- "the outside exchange that document 01 works out from the list"
unfoldable pub outside : List Told → (run quarter : ℕ) → ℤ
outside h run q = outside_of (points_of h) (versions_of h) (energies_of h) run q

-- what a group planned to take in a quarter hour, counted from 0; where it has lodged nothing, 0
unfoldable pub schedule_in : List (List ℤ) → (group quarter : ℕ) → ℤ
schedule_in ss g q = get_or (get_or ss (group_row g) []) q (pos 0)

-- the same of the list
unfoldable pub schedule : List Told → (group quarter : ℕ) → ℤ
schedule h g q = schedule_in (schedules_of h) g q

-- "For each run, group and quarter hour the surplus": of the list
abbrev pub surplus_at : List Told → (run group quarter : ℕ) → ℤ
surplus_at h run g q = surplus (schedule h g q) (figure h run (group_row g) q)

-- "the shortfall"
abbrev pub shortfall_at : List Told → (run group quarter : ℕ) → ℤ
shortfall_at h run g q = shortfall (schedule h g q) (figure h run (group_row g) q)

-- the sum over the month's quarter hours, counted from 0
abbrev pub monthly : List Told → (ℕ → ℤ) → ℤ
monthly h f = sum_to (opening_of h).quarters (λ (n : ℕ). f (n - 1))

-- f 0, .., f (n - 1)
unfoldable pub tab : {A : Type 0} → ℕ → (ℕ → A) → List A
tab zero f = []
tab (suc n) f = tab n f ++ (f n ∷ [])

-- an answer with no row and both sums 0
abbrev pub plainly : Answer → Reply
plainly a = record { answer = a; row = []; surplus = pos 0; shortfall = pos 0 }

-- "status gets the version's status, show 0 and its group's Q figures, the rest 0"; document 02: "A report of run and group gives both sums over the
-- month in watt-hours"
abbrev pub granted : List Told → Call → Reply
granted h (opens q f c k gs) = plainly Accepted
granted h (activates p k a b d) = plainly Accepted
granted h (deactivates p d) = plainly Accepted
granted h (submits p x d es) = plainly Accepted
granted h (notices p x y d) = plainly Accepted
granted h (assigns a g d) = plainly Accepted
granted h (shows r g) = record { answer = Accepted; row = tab (opening_of h).quarters (λ (q : ℕ). figure h r (group_row g) q); surplus = pos 0; shortfall = pos 0 }
granted h (asks p x) = plainly (status_answer (held p x (versions_of h)))
granted h (closes r d) = plainly Accepted
granted h (issues r d) = plainly Accepted
granted h (lodges g d es) = plainly Accepted
granted h (reports r g) = record { answer = Accepted; row = []; surplus = monthly h (surplus_at h r g); shortfall = monthly h (shortfall_at h r g) }

-- "A call that the table below refuses gets its number, show an empty row too, and leaves the list as it is"
unfoldable pub answered : Ruling → List Told → Call → Reply
answered (Ok tt) h c = granted h c
answered (Err x) h c = plainly (Refused x)

-- "An accepted call joins the end"
unfoldable pub joined : Ruling → List Told → Told → List Told
joined (Ok tt) h t = t ∷ h
joined (Err x) h t = h

-- the plain desk's answer to a call, and its list after it
unfoldable pub plain_reply : List Told → Told → Reply
plain_reply h t = answered (refusal (view_in h) t) h t.call

-- the list after the call
unfoldable pub plain_next : List Told → Told → List Told
plain_next h t = joined (refusal (view_in h) t) h t

-- the plain desk fed a list of calls: its answers
unfoldable pub plain_replies : List Told → List Told → List Reply
plain_replies h [] = []
plain_replies h (t ∷ l) = plain_reply h t ∷ plain_replies (plain_next h t) l

-- and the accepted calls at the end
unfoldable pub plain_end : List Told → List Told → List Told
plain_end h [] = h
plain_end h (t ∷ l) = plain_end (plain_next h t) l

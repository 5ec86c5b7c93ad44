-- The running desk: one step on its state and what is lent to it, refusals included. It is total: any state, any stores, any numbers.
use Rattle.std.specs.Prelude.{ℕ, ◌*◌, Bool, cond, not, ◌&&◌, List, [], map, get_or, replicate, Ok, Err, Option, Some, None}
use Rattle.quantity.specs.Limits.{book_rows, schedule_rows}
use Rattle.quantity.specs.Word.{word, signed}
use Rattle.book.specs.Place.{group_row, delta_row, row_start}
use Rattle.book.specs.Posting.{posted}
use Rattle.book.specs.Row.{back, part, splice}
use Rattle.book.specs.declared.Way.{Way}
use Rattle.book.specs.declared.Way.TheVariants.{In, Out}
use Rattle.deviation.specs.Month.{month_surplus, month_shortfall}
use Rattle.deviation.specs.Place.{schedule_start}
use Rattle.state.specs.Change.{submitted, noticed, submitted_desk, noticed_desk, settled_desk}
use Rattle.state.specs.Desk.{open_desk, versions_in, rows_used, desk_with, the_day, the_groups, the_used, the_closed, the_issued, the_points, flagged}
use Rattle.state.specs.Groups.{groups_in, sets_both, with_group}
use Rattle.state.specs.Point.{free_point, active_point, point_at, with_point}
use Rattle.state.specs.Selection.{or_else}
use Rattle.state.specs.Valid.{valid_desk}
use Rattle.state.specs.Version.{new_version, held}
use Rattle.state.specs.declared.PerRun.{PerRun}
use Rattle.state.specs.declared.Desk.{Desk}
use Rattle.state.specs.declared.HeldVersion.{HeldVersion}
use Rattle.state.specs.declared.PointState.{PointState}
use Rattle.state.specs.declared.Selection.{Selection}
use Rattle.state.specs.declared.Selection.TheVariants.{None, Selected}
use Rattle.state.specs.declared.VersionRecord.{VersionRecord}
use Rattle.model.specs.Call.{Call, opens, activates, deactivates, submits, notices, assigns, shows, asks, closes, issues, lodges, reports, Stores, Lent, Told, lengths_of, told, Reply}
use Rattle.model.specs.Causes.{Rule, terms, rules, rule, first_of, opening_by, Ruling}
use Rattle.model.specs.Log.{differ, turn_of, due, logged, used_after}
use Rattle.model.specs.Series.{sides_of}
use Rattle.model.specs.View.{view_of}
use Rattle.model.specs.declared.Answer.{Answer}
use Rattle.model.specs.declared.Answer.TheVariants.{Accepted, HasStatus, Refused}
use Rattle.model.specs.declared.Cause.TheVariants.{NotOpen, NoVersion}
use Rattle.model.specs.declared.Side.{Side}
use Rattle.model.specs.declared.Side.TheVariants.{Outside, Group, Delta}
use Rattle.model.specs.declared.Sides.{Sides}
use Rattle.model.specs.declared.Turn.{Turn}

-- ---- the book

-- a selected version's series into a row of the book, or out of it: "row i begins at i × Q"; "where a point has no selected version it adds
-- nothing"
unfoldable pub post_from : Way → (book : List ℕ) (start quarters : ℕ) (values : List ℕ) → Selection → List ℕ
post_from w book start q values None = book
post_from w book start q values (Selected r) = posted w book start q values (r.row.0 * q)

-- row k of a run: the old series is taken back, and the new one posted
unfoldable pub amend_row : Way → (run quarters k : ℕ) (old new : Selection) (values : List ℕ) → List ℕ → List ℕ
amend_row w run q k old new values book =
    post_from w (post_from (back w) book (row_start q run k) q values old) (row_start q run k) q values new

-- each row of a side
unfoldable pub amend_side : Way → (run quarters : ℕ) → Side → (old new : Selection) (values : List ℕ) → List ℕ → List ℕ
amend_side w run q Outside old new values book = book
amend_side w run q (Group g) old new values book = amend_row w run q g old new values book
amend_side w run q (Delta x g) old new values book = amend_row w run q g old new values (amend_row w run q x old new values book)

-- a series goes into its one side and out of the other
unfoldable pub amend_sides : (run quarters : ℕ) → Sides → (old new : Selection) (values : List ℕ) → List ℕ → List ℕ
amend_sides run q s old new values book = amend_side Out run q s.from old new values (amend_side In run q s.to old new values book)

-- a run's book where its selection for a point changes
unfoldable pub amend_run : (run quarters : ℕ) → Sides → (old new : Selection) (values : List ℕ) → List ℕ → List ℕ
amend_run run q s old new values book = cond (differ old new) (amend_sides run q s old new values book) book

-- both runs of a point, "each run under its own delta groups"
abbrev pub amend_by : (quarters : ℕ) → PerRun (List ℕ) → PointState → Turn → (values : List ℕ) → List ℕ → List ℕ
amend_by q gs here t values book =
    amend_run 2 q (sides_of (groups_in 2 gs) here) (or_else t.old2 t.old1) (or_else t.new2 t.new1) values
    (amend_run 1 q (sides_of (groups_in 1 gs) here) t.old1 t.new1 values book)

-- the book after a change of the versions of a point
unfoldable pub amended : (quarters : ℕ) → PerRun (List ℕ) → PointState → (point : ℕ) (before after : List VersionRecord) (values : List ℕ) → List ℕ → List ℕ
amended q gs here p vs ws values book = amend_by q gs here (turn_of vs ws p) values book

-- "The delta moves to the group": out of the old group's row, into the new one's
unfoldable pub move_run : (run quarters area old new : ℕ) → List ℕ → List ℕ
move_run run q a old new book =
    posted In (posted Out book (row_start q run (group_row old)) q book (row_start q run (delta_row a)))
    (row_start q run (group_row new)) q book (row_start q run (delta_row a))

-- "in both runs"; document 02: "after C and up to K .. run 2 only"; each out of its own old group
unfoldable pub moved : (both : Bool) (quarters area new : ℕ) → PerRun (List ℕ) → List ℕ → List ℕ
moved both q a new gs book =
    move_run 2 q a (get_or (groups_in 2 gs) a 0) new (cond both (move_run 1 q a (get_or (groups_in 1 gs) a 0) new book) book)

-- ---- the calls, accepted

-- an answer, show's part, a report's two sums, and the desk and the stores after the call
pub record Outcome : Type 0 where
  pub answer : Answer
  pub part : List ℕ
  pub surplus : ℕ
  pub shortfall : ℕ
  pub desk : Desk
  pub stores : Stores

-- an answer, with an empty part and both sums 0
abbrev pub answering : Answer → Desk → Stores → Outcome
answering a d s = record { answer = a; part = []; surplus = 0; shortfall = 0; desk = d; stores = s }

-- an accepted call that shows and reports nothing
abbrev pub accept : Desk → Stores → Outcome
accept d s = answering Accepted d s

-- the stores with another book
abbrev pub with_book : Stores → List ℕ → Stores
with_book s l = record { values = s.values; book = l; log = s.log; schedules = s.schedules }

-- with other schedules
abbrev pub with_schedules : Stores → List ℕ → Stores
with_schedules s l = record { values = s.values; book = s.book; log = s.log; schedules = l }

-- "Book all 0; .. values and log untouched."; document 02: open "fills it with 0"
abbrev pub cleared : (quarters : ℕ) → Stores → Stores
cleared q s = with_schedules (with_book s (replicate (book_rows * q) 0)) (replicate (schedule_rows * q) 0)

-- a change of the versions of a point: book and log follow
abbrev pub followed : Desk → Stores → (point day : ℕ) (after : List VersionRecord) (values : List ℕ) → Stores
followed d s p day ws values =
    record {
      values = values;
      book = amended d.frame.opening.quarters d.frame.groups (point_at d.points p) p (versions_in d) ws values s.book;
      log = logged d.frame.used (due (versions_in d) ws p day) s.log;
      schedules = s.schedules;
    }

-- the desk then: the log rows used, and the day
abbrev pub followed_desk : (before : Desk) (point day : ℕ) (after : List VersionRecord) (changed : Desk) → Desk
followed_desk d p day ws e = desk_with (desk_with e (the_used (used_after (due (versions_in d) ws p day) d.frame.used))) (the_day day)

-- the version that a submission makes: it takes "the next unused row of values"
abbrev pub version_by : Desk → (point version day : ℕ) → VersionRecord
version_by d p x day = new_version d.frame.opening.first.0 (rows_used d.frame) p x day

-- the version's status, if the point has it
unfoldable pub status_answer : Option HeldVersion → Answer
status_answer None = Refused NoVersion
status_answer (Some h) = HasStatus h.record.status

-- "The calls, in building order"
abbrev pub granting : Desk → Stores → Call → Outcome
granting d s (opens q f c k gs) = accept (open_desk (opening_by q f c k (lengths_of s)) gs) (cleared q s)
granting d s (activates p k a b day) = accept (desk_with (desk_with d (the_points (with_point d.points p (active_point k a b day)))) (the_day day)) s
granting d s (deactivates p day) = accept (desk_with (desk_with d (the_points (with_point d.points p free_point))) (the_day day)) s
granting d s (submits p x day es) =
    let ws = submitted (version_by d p x day) (versions_in d) in
    accept
    (followed_desk d p day ws (submitted_desk d (version_by d p x day)))
    (followed d s p day ws (splice s.values (rows_used d.frame * d.frame.opening.quarters) d.frame.opening.quarters (map word es)))
granting d s (notices p x y day) =
    let ws = noticed d.frame.opening.clearing.0 p x y day (versions_in d) in
    accept (followed_desk d p day ws (noticed_desk d (held p x (versions_in d)) y day)) (followed d s p day ws s.values)
granting d s (assigns a g day) =
    let both = sets_both d.frame.opening day in
    accept
    (desk_with (desk_with d (the_groups (with_group both a g d.frame.groups))) (the_day day))
    (with_book s (moved both d.frame.opening.quarters a g d.frame.groups s.book))
granting d s (shows r g) =
    record {
      answer = Accepted;
      part = part s.book (row_start d.frame.opening.quarters r (group_row g)) d.frame.opening.quarters;
      surplus = 0;
      shortfall = 0;
      desk = d;
      stores = s;
    }
granting d s (asks p x) = answering (status_answer (held p x (versions_in d))) d s
granting d s (closes r day) = accept (desk_with (desk_with d (the_closed (flagged r d.frame.closed))) (the_day day)) s
granting d s (issues r day) = accept (desk_with (desk_with (settled_desk d r) (the_issued (flagged r d.frame.issued))) (the_day day)) s
granting d s (lodges g day es) =
    accept (desk_with d (the_day day)) (with_schedules s (splice s.schedules (schedule_start d.frame.opening.quarters g) d.frame.opening.quarters (map word es)))
granting d s (reports r g) =
    record {
      answer = Accepted;
      part = [];
      surplus = month_surplus s.schedules s.book d.frame.opening.quarters r g;
      shortfall = month_shortfall s.schedules s.book d.frame.opening.quarters r g;
      desk = d;
      stores = s;
    }

-- ---- a step

-- the lines of the table for a call, with cause 1 for any state above them
abbrev pub lines : Desk → Told → List Rule
lines d t = rule (not (terms t.call).opening && not (valid_desk d)) NotOpen (rules (view_of d) t.lengths t.call)

-- what they say
unfoldable pub refusal_by : Desk → Told → Ruling
refusal_by d t = first_of (lines d t)

-- "A refusal returns its number and changes nothing in the desk, its stores or the output. A refused show returns an empty part too"; document 02: a
-- report's sums are "both 0 when refused"
unfoldable pub decided : Ruling → Desk → Stores → Call → Outcome
decided (Ok tt) d s c = granting d s c
decided (Err x) d s c = answering (Refused x) d s

-- one call
unfoldable pub step : Desk → Lent → Outcome
step d l = decided (refusal_by d (told l)) d l.stores l.call

-- the answer with show's row and a report's sums, read as signed numbers
abbrev pub reply_of : Outcome → Reply
reply_of o = record { answer = o.answer; row = map signed o.part; surplus = signed o.surplus; shortfall = signed o.shortfall }

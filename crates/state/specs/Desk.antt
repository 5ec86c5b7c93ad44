-- The desk's record: a fresh one, what it holds, and the desk with one thing of it changed.
use Rattle.std.specs.Prelude.{ℕ, ◌/◌, Bool, false, cond, not, ◌||◌, List, eqb, take, replicate}
use Rattle.quantity.specs.Limits.{points, versions, deltas}
use Rattle.state.specs.Groups.{alike}
use Rattle.state.specs.Point.{free_point}
use Rattle.state.specs.Version.{empty_version}
use Rattle.state.specs.declared.PerRun.{PerRun}
use Rattle.state.specs.declared.Desk.{Desk}
use Rattle.state.specs.declared.Frame.{Frame}
use Rattle.state.specs.declared.Opening.{Opening}
use Rattle.state.specs.declared.PointRecord.{PointRecord}
use Rattle.state.specs.declared.VersionRecord.{VersionRecord}

-- what stands beside the tables, of its parts
abbrev pub frame_of : Opening → (day : ℕ) (groups : PerRun (List ℕ)) (count used : ℕ) (closed issued : PerRun Bool) → Frame
frame_of o day gs n m c s = record { opening = o; day = record { 0 = day }; groups = gs; count = n; used = m; closed = c; issued = s }

-- no run is closed, and none is issued
abbrev pub no_run : PerRun Bool
no_run = record { first = false; second = false }

-- "no versions, no log rows used"; "The desk's day is 0 at opening."; document 02: "opening sets both alike"
abbrev pub open_frame : Opening → (groups : List ℕ) → Frame
open_frame o gs = frame_of o 0 (alike gs) 0 0 no_run no_run

-- "all points free, no versions, no log rows used"
abbrev pub open_desk : Opening → (groups : List ℕ) → Desk
open_desk o gs = record { frame = open_frame o gs; points = replicate points free_point; versions = replicate versions empty_version }

-- "An unopened desk has no quarter hours."
abbrev pub unopened : Opening
unopened =
    record {
      quarters = 0;
      first = record { 0 = 0 };
      clearing = record { 0 = 0 };
      correction = record { 0 = 0 };
      values = 0;
      book = 0;
      log = 0;
      schedules = 0;
    }

-- the desk before any call
abbrev pub fresh_desk : Desk
fresh_desk = open_desk unopened (replicate deltas 0)

-- "open on an open desk"
abbrev pub is_open : Opening → Bool
is_open o = not (eqb o.quarters 0)

-- how many rows of Q numbers the values have
abbrev pub rows_in : Opening → ℕ
rows_in o = o.values / o.quarters

-- how many rows of four numbers the log has
abbrev pub log_rows_in : Opening → ℕ
log_rows_in o = o.log / 4

-- the versions held
abbrev pub versions_in : Desk → List VersionRecord
versions_in d = take d.frame.count d.versions

-- the rows of values in use, from row 0 on: one for each version; so "the next unused row of values" is row rows_used
abbrev pub rows_used : Frame → ℕ
rows_used f = f.count

-- ---- the desk with one thing changed

-- one thing of the desk, as it is then; of the version table the first `count` records are held
pub data Thing : Type 0 where
  the_day : (day : ℕ) → Thing
  the_groups : PerRun (List ℕ) → Thing
  the_used : (used : ℕ) → Thing
  the_closed : PerRun Bool → Thing
  the_issued : PerRun Bool → Thing
  the_points : List PointRecord → Thing
  the_versions : (count : ℕ) → List VersionRecord → Thing

-- the desk with another frame
abbrev pub with_frame : Desk → Frame → Desk
with_frame d f = record { frame = f; points = d.points; versions = d.versions }

-- the desk with that thing, all else as it was
abbrev pub desk_with : Desk → Thing → Desk
desk_with d (the_day n) = with_frame d (frame_of d.frame.opening n d.frame.groups d.frame.count d.frame.used d.frame.closed d.frame.issued)
desk_with d (the_groups gs) = with_frame d (frame_of d.frame.opening d.frame.day.0 gs d.frame.count d.frame.used d.frame.closed d.frame.issued)
desk_with d (the_used n) = with_frame d (frame_of d.frame.opening d.frame.day.0 d.frame.groups d.frame.count n d.frame.closed d.frame.issued)
desk_with d (the_closed c) = with_frame d (frame_of d.frame.opening d.frame.day.0 d.frame.groups d.frame.count d.frame.used c d.frame.issued)
desk_with d (the_issued s) = with_frame d (frame_of d.frame.opening d.frame.day.0 d.frame.groups d.frame.count d.frame.used d.frame.closed s)
desk_with d (the_points ps) = record { frame = d.frame; points = ps; versions = d.versions }
desk_with d (the_versions n vs) =
    record {
      frame = frame_of d.frame.opening d.frame.day.0 d.frame.groups n d.frame.used d.frame.closed d.frame.issued;
      points = d.points;
      versions = vs;
    }

-- ---- flags

-- the run's flag
abbrev pub flag_of : (run : ℕ) → PerRun Bool → Bool
flag_of run s = cond (eqb run 1) s.first s.second

-- the flags with that of the run set
abbrev pub flagged : (run : ℕ) → PerRun Bool → PerRun Bool
flagged run s = record { first = eqb run 1 || s.first; second = eqb run 2 || s.second }

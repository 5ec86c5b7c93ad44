-- What the parts of a submission ask of one another.
use Rattle.std.specs.Prelude.{◌≡◌, cond, List, map, ℕ, ◌+◌, ◌*◌, ◌≤◌, ◌<◌, length, Option}
use Rattle.quantity.specs.Limits.{versions}
use Rattle.quantity.specs.Word.{word, signed}
use Rattle.quantity.specs.declared.Version.{Version}
use Rattle.book.specs.Row.{splice}
use Rattle.state.specs.Change.{submitted, submitted_desk}
use Rattle.state.specs.Desk.{versions_in, rows_used, with_frame, desk_with, the_day, the_used}
use Rattle.state.specs.Effect.{changed_by, Fits}
use Rattle.state.specs.Selection.{raise}
use Rattle.state.specs.Status.{counts, submitted_status}
use Rattle.state.specs.declared.Desk.{Desk}
use Rattle.state.specs.declared.Effect.{Effect}
use Rattle.state.specs.declared.Frame.{Frame}
use Rattle.state.specs.declared.PointState.{PointState}
use Rattle.state.specs.declared.Selection.{Selection}
use Rattle.state.specs.declared.VersionRecord.{VersionRecord}
use Rattle.state.specs.declared.VersionRow.{VersionRow}
use Rattle.checks.specs.declared.Survey.{Survey}
use Rattle.model.specs.Log.{logged, used_after}
use Rattle.model.specs.Step.{version_by, amend_by}
use Rattle.model.specs.declared.LogRow.{LogRow}
use Rattle.model.specs.declared.Turn.{Turn}
use Rattle.amend.specs.Lent.{RoomIn, Changed}

-- the row of the version table that a submission takes, with the status that the day gives
abbrev pub row_by : Frame → Version → (day : ℕ) → VersionRow
row_by f x day = record { at = f.count; version = x; row = record { 0 = rows_used f }; status = submitted_status f.opening.first.0 day }

-- a run's own selection then, where that status counts in it
abbrev pub own_by : (run : ℕ) → Frame → Version → (day : ℕ) → Selection → Selection
own_by run f x day s = cond (counts run (submitted_status f.opening.first.0 day)) (raise s (row_by f x day)) s

-- what a submission makes of the selections found
abbrev pub turn_by : Frame → Version → (day : ℕ) → Survey → Turn
turn_by f x day s = record { old1 = s.first; new1 = own_by 1 f x day s.first; old2 = s.second; new2 = own_by 2 f x day s.second }

-- the versions with the one that a submission makes
abbrev pub submitted_in : Desk → (point version day : ℕ) → List VersionRecord
submitted_in d p x day = submitted (version_by d p x day) (versions_in d)

-- what a submission that is not refused has passed, by the frame and what is lent
pub record Granted (f : Frame) (here : PointState) (series values book log : List ℕ) (t : Turn) (due : Option LogRow) : Type 0 where
  pub changed : Changed f here values book t
  pub left : RoomIn f.used log due
  pub full : length series ≡ f.opening.quarters
  pub more : f.count < versions
  pub room : (f.count + 1) * f.opening.quarters ≤ length values

-- what it makes of each desk with that frame, and of values, book and log; v is the version that it makes
pub record Delivered (f : Frame) (here : PointState) (v : VersionRecord) (day : ℕ) (t : Turn) (due : Option LogRow) (series values book log : List ℕ) (e : Effect) (values' book' log' : List ℕ) : Type 0 where
  pub desk : (d : Desk) → Fits (with_frame d f) e × (changed_by (with_frame d f) e ≡ desk_with (desk_with (submitted_desk (with_frame d f) v) (the_used (used_after due f.used))) (the_day day))
  pub valued : values' ≡ splice values (rows_used f * f.opening.quarters) f.opening.quarters (map word (map signed series))
  pub booked : book' ≡ amend_by f.opening.quarters f.groups here t values' book
  pub noted : log' ≡ logged f.used due log

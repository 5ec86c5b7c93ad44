-- What the parts of a notice ask of one another.
use Rattle.std.specs.Prelude.{◌≡◌, cond, ◌&&◌, List, ℕ, ◌<◌, eqb, Option, Some, None}
use Rattle.quantity.specs.Limits.{versions}
use Rattle.state.specs.Change.{noticed, noticed_desk}
use Rattle.state.specs.Desk.{versions_in, with_frame, desk_with, the_day, the_used}
use Rattle.state.specs.Selection.{row_at, raise_earlier}
use Rattle.state.specs.Status.{counts, is_check, confirmed_status}
use Rattle.state.specs.Version.{restatus, record_at}
use Rattle.state.specs.declared.Desk.{Desk}
use Rattle.state.specs.declared.Frame.{Frame}
use Rattle.state.specs.declared.HeldVersion.{HeldVersion}
use Rattle.state.specs.declared.PointState.{PointState}
use Rattle.state.specs.declared.Selection.{Selection}
use Rattle.state.specs.declared.Status.{Status}
use Rattle.state.specs.declared.Status.TheVariants.{Check}
use Rattle.state.specs.declared.VersionRecord.{VersionRecord}
use Rattle.state.specs.Effect.{changed_by, Fits}
use Rattle.state.specs.declared.Effect.{Effect}
use Rattle.model.specs.Log.{logged, used_after}
use Rattle.model.specs.Step.{amend_by}
use Rattle.model.specs.declared.LogRow.{LogRow}
use Rattle.model.specs.declared.Turn.{Turn}
use Rattle.amend.specs.Lent.{RoomIn, Changed}
use Rattle.checks.specs.declared.Survey.{Survey}

-- the versions after a notice
abbrev pub noticed_in : Desk → (point version verdict day : ℕ) → List VersionRecord
noticed_in d p x y day = noticed d.frame.opening.clearing.0 p x y day (versions_in d)

-- what a notice on the version found makes of a run's own selection
abbrev pub own_by : (run verdict : ℕ) → (confirmed : Status) → Option HeldVersion → (old : Selection) → Selection
own_by run y s None old = old
own_by run y s (Some h) old = cond (eqb y 1 && (is_check h.record.status && counts run s)) (raise_earlier old (row_at h.at (restatus s h.record))) old

-- and of the selections found
abbrev pub turn_by : Frame → (verdict day : ℕ) → Survey → Turn
turn_by f y day s =
    record {
      old1 = s.first;
      new1 = own_by 1 y (confirmed_status f.opening.clearing.0 day) s.held s.first;
      old2 = s.second;
      new2 = own_by 2 y (confirmed_status f.opening.clearing.0 day) s.held s.second;
    }

-- check data after a notice
abbrev pub noticed_record : (clearing verdict day : ℕ) → VersionRecord → VersionRecord
noticed_record c y day v = cond (eqb y 1) (restatus (confirmed_status c day) v) v

-- the version found is check data, at a place of the table
abbrev pub CheckFound : Option HeldVersion → Type 0
CheckFound None = ⊥
CheckFound (Some h) = (h.at < versions) × (h.record.status ≡ Check)

-- the record found stands in these versions
abbrev pub StandsIn : List VersionRecord → Option HeldVersion → Type 0
StandsIn vs None = Unit {0}
StandsIn vs (Some h) = record_at vs h.at ≡ h.record

-- the version found, the selections and the stores, where a notice is not refused
pub record NoticeFits (f : Frame) (here : PointState) (h : Option HeldVersion) (values book log : List ℕ) (t : Turn) (due : Option LogRow) : Type 0 where
  pub changed : Changed f here values book t
  pub check : CheckFound h
  pub left : RoomIn f.used log due

-- what the notice makes of each desk with this frame in whose versions the record found stands, and of the book and the log
pub record NoticeEffect (f : Frame) (here : PointState) (h : Option HeldVersion) (t : Turn) (due : Option LogRow) (y day : ℕ) (values book log : List ℕ) (e : Effect) (book' log' : List ℕ) : Type 0 where
  pub desk : (d : Desk) → StandsIn d.versions h → Fits (with_frame d f) e × (changed_by (with_frame d f) e ≡ desk_with (desk_with (noticed_desk (with_frame d f) h y day) (the_used (used_after due f.used))) (the_day day))
  pub booked : book' ≡ amend_by f.opening.quarters f.groups here t values book
  pub noted : log' ≡ logged f.used due log

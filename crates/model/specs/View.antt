-- What the table of causes looks at, whichever desk it is.
use Rattle.std.specs.Prelude.{List}
use Rattle.state.specs.Desk.{versions_in}
use Rattle.state.specs.declared.Desk.{Desk}
use Rattle.state.specs.declared.Frame.{Frame}
use Rattle.state.specs.declared.PointRecord.{PointRecord}
use Rattle.state.specs.declared.VersionRecord.{VersionRecord}

-- what stands beside the tables, the points, and the versions held with their statuses
pub record View : Type 0 where
  pub frame : Frame
  pub points : List PointRecord
  pub versions : List VersionRecord

-- the running desk's
abbrev pub view_of : Desk → View
view_of d = record { frame = d.frame; points = d.points; versions = versions_in d }

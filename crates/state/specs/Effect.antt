-- What a call makes of the desk: the tables with what became of them, and all else as it is then.
use Rattle.std.specs.Prelude.{◌<◌, ◌≡◌, true, false, List, set, replicate}
use Rattle.quantity.specs.Limits.{points, versions}
use Rattle.state.specs.Change.{settled_desk}
use Rattle.state.specs.Desk.{is_open}
use Rattle.state.specs.Point.{free_point}
use Rattle.state.specs.Valid.{valid_desk}
use Rattle.state.specs.Version.{empty_version}
use Rattle.state.specs.declared.Desk.{Desk}
use Rattle.state.specs.declared.Frame.{Frame}
use Rattle.state.specs.declared.PointRecord.{PointRecord}
use Rattle.state.specs.declared.VersionRecord.{VersionRecord}
use Rattle.state.specs.declared.Effect.{Effect}
use Rattle.state.specs.declared.Tables.{Tables}
use Rattle.state.specs.declared.Tables.TheVariants.{Same, Fresh, Point, Version, Settled}

-- the points then
abbrev pub points_by : Desk → Tables → List PointRecord
points_by d Same = d.points
points_by d Fresh = replicate points free_point
points_by d (Point i r) = set d.points i r
points_by d (Version i v) = d.points
points_by d (Settled run) = d.points

-- the version table then
abbrev pub versions_by : Desk → Tables → List VersionRecord
versions_by d Same = d.versions
versions_by d Fresh = replicate versions empty_version
versions_by d (Point i r) = d.versions
versions_by d (Version i v) = set d.versions i v
versions_by d (Settled run) = (settled_desk d run).versions

-- the desk then
abbrev pub changed_by : Desk → Effect → Desk
changed_by d e = record { frame = e.frame; points = points_by d e.tables; versions = versions_by d e.tables }

-- "changes nothing in the desk"
abbrev pub unchanged_in : Frame → Effect
unchanged_in f = record { tables = Same; frame = f }

-- what is made anew is a desk that is not open, a record is put at a place of its table, and what is settled is a desk within its limits
abbrev pub FitsIn : Desk → Tables → Type 0
FitsIn d Same = Unit {0}
FitsIn d Fresh = is_open d.frame.opening ≡ false
FitsIn d (Point i r) = i < points
FitsIn d (Version i v) = i < versions
FitsIn d (Settled run) = valid_desk d ≡ true

-- the same of an effect
abbrev pub Fits : Desk → Effect → Type 0
Fits d e = FitsIn d e.tables

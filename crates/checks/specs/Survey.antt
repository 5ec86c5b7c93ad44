-- What one point's record, a walk over the versions and one over the points tell, each part by its own definition.
use Rattle.std.specs.Prelude.{ℕ, ◌-◌, ◌≡◌, cond, List, length, get_or, None}
use Rattle.quantity.specs.Limits.{point_ok}
use Rattle.quantity.specs.Lists.{all, any}
use Rattle.state.specs.Point.{free_point, has_series}
use Rattle.state.specs.Selection.{raise_if, highest, no_version, higher_of, is_counted, own}
use Rattle.state.specs.Valid.{point_record_ok, version_record_ok}
use Rattle.state.specs.Version.{is_at, or_held, held}
use Rattle.state.specs.declared.PointRecord.{PointRecord}
use Rattle.state.specs.declared.PointState.{PointState}
use Rattle.state.specs.declared.PointState.TheVariants.{Free}
use Rattle.state.specs.declared.Selection.TheVariants.{None}
use Rattle.state.specs.declared.VersionRecord.{VersionRecord}
use Rattle.checks.specs.declared.Scan.{Scan}
use Rattle.checks.specs.declared.Survey.{Survey}
use Rattle.checks.specs.declared.Tested.{Tested}

-- ---- one point

-- where the record of a point stands: point p at p - 1; a number that is no point's has none
abbrev pub place_of : (point : ℕ) → ℕ
place_of p = cond (point_ok p) (p - 1) 0

-- the record there
abbrev pub record_at : List PointRecord → (point : ℕ) → PointRecord
record_at ps p = get_or ps (place_of p) free_point

-- the point's state by it
abbrev pub state_in : PointRecord → (point : ℕ) → PointState
state_in r p = cond (point_ok p) r.state Free

-- ---- the walks

-- "one pass is to give both": what a walk over the versions finds, by point and version asked for; "the number of records it read": one for each
pub record Surveyed (point version : ℕ) (vs : List VersionRecord) (s : Survey) : Type 0 where
  pub held : s.held ≡ held point version vs
  pub highest : s.highest.0 ≡ highest point vs
  pub first : s.first ≡ own 1 point vs
  pub second : s.second ≡ own 2 point vs
  pub read : s.read ≡ length vs

-- the same, and whether each record is within its limits
pub record TestedIn (rows point version : ℕ) (vs : List VersionRecord) (t : Tested) : Type 0 where
  pub fit : t.fit ≡ all (version_record_ok rows) vs
  pub survey : Surveyed point version vs t.survey

-- in no record
abbrev pub nothing_found : Survey
nothing_found = record { held = None; highest = no_version; first = None; second = None; read = 0 }

-- one record of the point more, at an index
abbrev pub survey_step : (point version : ℕ) → Survey → (at : ℕ) → VersionRecord → Survey
survey_step p x s i v =
    record {
      held = or_held p x s.held i v;
      highest = higher_of s.highest (is_at p v) v.version;
      first = raise_if (is_counted 1 p) s.first i v;
      second = raise_if (is_counted 2 p) s.second i v;
      read = s.read;
    }

-- so many records read
abbrev pub reading : (records : ℕ) → Survey → Survey
reading n s = record { held = s.held; highest = s.highest; first = s.first; second = s.second; read = n }

-- what a walk over the points finds, by kind, area and partner asked for
pub record Scanned (kind area partner : ℕ) (ps : List PointRecord) (s : Scan) : Type 0 where
  pub fit : s.fit ≡ all point_record_ok ps
  pub taken : s.taken ≡ any (has_series kind area partner) ps

-- The desk's points and versions as numbers, and how many of its answers are refusals.
use Rattle.std.specs.Prelude.{ℕ, zero, suc, ◌*◌, Bool, true, false, cond, List, [], ◌∷◌, ◌++◌, eqb, length}
use Rattle.quantity.specs.Limits.{points, versions}
use Rattle.state.specs.Point.{point_at}
use Rattle.state.specs.Selection.{version_of, status_of, selected}
use Rattle.state.specs.Status.{status_number}
use Rattle.state.specs.Version.{record_at}
use Rattle.state.specs.declared.PointRecord.{PointRecord}
use Rattle.state.specs.declared.PointState.{PointState}
use Rattle.state.specs.declared.PointState.TheVariants.{Free, Active}
use Rattle.state.specs.declared.Selection.{Selection}
use Rattle.state.specs.declared.VersionRecord.{VersionRecord}

-- the rows f 0, .., f (n - 1), one after the other
unfoldable pub rows_to : ℕ → (ℕ → List ℕ) → List ℕ
rows_to zero f = []
rows_to (suc n) f = rows_to n f ++ f n

-- how many numbers a point has
abbrev pub point_numbers : ℕ
point_numbers = 9

-- how many numbers a version has
abbrev pub version_numbers : ℕ
version_numbers = 4

-- places for every point
abbrev pub points_places : ℕ
points_places = point_numbers * points

-- places for every version that a desk can hold
abbrev pub versions_places : ℕ
versions_places = version_numbers * versions

-- the version that run 1 selects and the one that run 2 selects, then the status of each (0: none)
abbrev pub selected_places : (first second : Selection) → List ℕ
selected_places s t = version_of s ∷ version_of t ∷ status_of s ∷ status_of t ∷ []

-- a point: 1 where it is active, the day of its activation, kind, area and partner (all 0 of a free one), and what the runs select
abbrev pub point_places : PointState → (first second : Selection) → List ℕ
point_places Free s t = 0 ∷ 0 ∷ 0 ∷ 0 ∷ 0 ∷ selected_places s t
point_places (Active since kind area partner) s t = 1 ∷ since.0 ∷ kind.0 ∷ area.0 ∷ partner.0 ∷ selected_places s t

-- the point at an index of the table, which is one less than its number
abbrev pub point_row : List PointRecord → List VersionRecord → (at : ℕ) → List ℕ
point_row ps vs i = point_places (point_at ps (suc i)) (selected 1 (suc i) vs) (selected 2 (suc i) vs)

-- all points
abbrev pub point_table : List PointRecord → List VersionRecord → List ℕ
point_table ps vs = rows_to points (point_row ps vs)

-- a version: its point, number, status and row of values
abbrev pub version_places : VersionRecord → List ℕ
version_places v = v.point.0 ∷ v.version.0 ∷ status_number v.status ∷ v.row.0 ∷ []

-- the version at an index
abbrev pub version_row : List VersionRecord → (at : ℕ) → List ℕ
version_row vs i = version_places (record_at vs i)

-- the versions held, in the order of their submission
abbrev pub version_table : List VersionRecord → List ℕ
version_table vs = rows_to (length vs) (version_row vs)

-- how many answers are refusals
unfoldable pub refusals : List ℕ → ℕ
refusals [] = 0
refusals (a ∷ l) = cond (eqb a 0) (refusals l) (suc (refusals l))

-- the number of the first refused call, counted on from n; 0 without one
unfoldable pub first_refused : (n : ℕ) → List ℕ → ℕ
first_refused n [] = 0
first_refused n (a ∷ l) = cond (eqb a 0) (first_refused (suc n) l) n

-- a flag as a number
abbrev pub flag_number : Bool → ℕ
flag_number true = 1
flag_number false = 0

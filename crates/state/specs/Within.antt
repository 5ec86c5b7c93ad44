-- The limits of document 01 on a desk's state, in its own numbers: what cause 1 is judged by.
use Rattle.std.specs.Prelude.{ℕ, ◌+◌, ◌*◌, ◌%◌, ◌≤◌, ◌<◌, ◌≡◌, ◌⊎◌}
use Rattle.quantity.specs.Meaning.{Between, Each}
use Rattle.state.specs.Desk.{versions_in}
use Rattle.state.specs.Point.{free_point}
use Rattle.state.specs.Version.{empty_version}
use Rattle.state.specs.declared.Desk.{Desk}
use Rattle.state.specs.declared.Opening.{Opening}
use Rattle.state.specs.declared.PointState.{PointState}
use Rattle.state.specs.declared.PointState.TheVariants.{Free, Active}
use Rattle.state.specs.declared.PointRecord.{PointRecord}
use Rattle.state.specs.declared.VersionRecord.{VersionRecord}

-- "kind, area and partner .. together in the table above", line by line
abbrev pub InTable : (kind area partner : ℕ) → Type 0
InTable k a b =
    ((k ≡ 1) × (Between 1 16 a × (b < a)))
    ⊎ (((k ≡ 2) × (Between 1 16 a × Between 1 64 b))
    ⊎ (((k ≡ 3) × (Between 1 16 a × (b ≡ 0)))
    ⊎ (((k ≡ 4) × ((a ≡ 0) × Between 1 64 b))
    ⊎ ((k ≡ 5) × (Between 1 16 a × (b ≡ 0))))))

-- "Q from 1 to 2,980"; "1 ≤ F < C < K ≤ 399"; "book (162 × Q), log (a multiple of 4)"; document 02: schedules, "64 × Q numbers"
abbrev pub OpeningIn : Opening → Type 0
OpeningIn o =
    Between 1 2980 o.quarters
    × (((1 ≤ o.first.0) × ((o.first.0 < o.clearing.0) × ((o.clearing.0 < o.correction.0) × (o.correction.0 ≤ 399))))
    × ((o.book ≡ 162 * o.quarters)
    × ((o.log % 4 ≡ 0)
    × (o.schedules ≡ 64 * o.quarters))))

-- "a point is either free or active since a day, with its kind, area and partner"
abbrev pub StateIn : PointState → Type 0
StateIn Free = Unit {0}
StateIn (Active since kind area partner) = (since.0 ≤ 400) × InTable kind.0 area.0 partner.0

-- "Points are 1 to 256"; "Version: 1 to 99,999,999,999,999."; its row of Q numbers lies within the values
abbrev pub RecordIn : Opening → VersionRecord → Type 0
RecordIn o v = Between 1 256 v.point.0 × (Between 1 99999999999999 v.version.0 × ((v.row.0 + 1) * o.quarters ≤ o.values))

-- "a count, row number, Q, deadline, day, delta group, opening length, or field of a point or version record in its state outside the limits
-- above, used rows past the opening lengths included": none is
abbrev pub Within : Desk → Type 0
Within d =
    (OpeningIn d.frame.opening
    × ((d.frame.day.0 ≤ 400)
    × ((Each 0 (Between 1 64) d.frame.groups.first × Each 0 (Between 1 64) d.frame.groups.second)
    × ((d.frame.count ≤ 512)
    × ((d.frame.count * d.frame.opening.quarters ≤ d.frame.opening.values)
    × (4 * d.frame.used ≤ d.frame.opening.log))))))
    × (Each free_point (λ (r : PointRecord). StateIn r.state) d.points
    × Each empty_version (RecordIn d.frame.opening) (versions_in d))

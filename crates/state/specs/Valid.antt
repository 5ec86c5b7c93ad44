-- Cause 1: "desk not open, or a count, row number, Q, deadline, day, delta group, opening length, or field of a point or version record in
-- its state outside the limits above, used rows past the opening lengths included"
use Rattle.std.specs.Prelude.{ℕ, ◌*◌, ◌%◌, ◌≤◌, ◌≡◌, Bool, true, ◌&&◌, leb, ltb, eqb, List}
use Rattle.quantity.specs.Limits.{most_quarters, areas, groups as group_count, last_day, book_rows, schedule_rows, versions, quarters_ok, day_ok, deadlines_ok, version_ok, point_ok, group_ok}
use Rattle.quantity.specs.Lists.{all}
use Rattle.state.specs.Desk.{rows_in, log_rows_in, versions_in, rows_used}
use Rattle.state.specs.Point.{series_ok}
use Rattle.state.specs.declared.PerRun.{PerRun}
use Rattle.state.specs.declared.Desk.{Desk}
use Rattle.state.specs.declared.Frame.{Frame}
use Rattle.state.specs.declared.Opening.{Opening}
use Rattle.state.specs.declared.PointState.{PointState}
use Rattle.state.specs.declared.PointState.TheVariants.{Free, Active}
use Rattle.state.specs.declared.PointRecord.{PointRecord}
use Rattle.state.specs.declared.VersionRecord.{VersionRecord}

-- "Lent stores, lengths fixed at opening: values (any length), book (162 × Q), log (a multiple of 4)."; document 02: "Schedules are lent as a store
-- of 64 × Q numbers .., fixed at opening"
unfoldable pub opening_ok : Opening → Bool
opening_ok o =
    quarters_ok o.quarters
    && (deadlines_ok o.first.0 o.clearing.0 o.correction.0
    && (eqb o.book (book_rows * o.quarters)
    && (eqb (o.log % 4) 0
    && eqb o.schedules (schedule_rows * o.quarters))))

-- a field of a point record
abbrev pub state_ok : PointState → Bool
state_ok Free = true
state_ok (Active since kind area partner) = day_ok since.0 && series_ok kind.0 area.0 partner.0

-- the same of the record
abbrev pub point_record_ok : PointRecord → Bool
point_record_ok r = state_ok r.state

-- a field of a version record; its row is one of the rows that the values have
abbrev pub version_record_ok : (rows : ℕ) → VersionRecord → Bool
version_record_ok n v = point_ok v.point.0 && (version_ok v.version.0 && ltb v.row.0 n)

-- the delta groups of both runs
unfoldable pub deltas_ok : PerRun (List ℕ) → Bool
deltas_ok gs = all group_ok gs.first && all group_ok gs.second

-- all but the two tables: what the opening fixed, day, delta groups, the counts, "used rows past the opening lengths included"
unfoldable pub frame_ok : Frame → Bool
frame_ok f =
    opening_ok f.opening
    && (day_ok f.day.0
    && (deltas_ok f.groups
    && (leb f.count versions
    && (leb (rows_used f) (rows_in f.opening)
    && leb f.used (log_rows_in f.opening)))))

-- all points, and the versions held: records past the count are not looked at
unfoldable pub valid_desk : Desk → Bool
valid_desk d =
    frame_ok d.frame && (all point_record_ok d.points && all (version_record_ok (rows_in d.frame.opening)) (versions_in d))

-- what a line of the table of series gives
pub record SeriesIn (k a b : ℕ) : Type 0 where
  pub kind : k ≤ 5
  pub area : a ≤ areas
  pub partner : b ≤ group_count

-- what a valid desk gives
pub record Sound (d : Desk) : Type 0 where
  pub quarters : 1 ≤ d.frame.opening.quarters
  pub most : d.frame.opening.quarters ≤ most_quarters
  pub deadlines : deadlines_ok d.frame.opening.first.0 d.frame.opening.clearing.0 d.frame.opening.correction.0 ≡ true
  pub book : d.frame.opening.book ≡ book_rows * d.frame.opening.quarters
  pub log : d.frame.opening.log % 4 ≡ 0
  pub schedules : d.frame.opening.schedules ≡ schedule_rows * d.frame.opening.quarters
  pub day : d.frame.day.0 ≤ last_day
  pub groups : deltas_ok d.frame.groups ≡ true
  pub count : d.frame.count ≤ versions
  pub rows : rows_used d.frame * d.frame.opening.quarters ≤ d.frame.opening.values
  pub used : 4 * d.frame.used ≤ d.frame.opening.log
  pub points : all point_record_ok d.points ≡ true
  pub versions : all (version_record_ok (rows_in d.frame.opening)) (versions_in d) ≡ true

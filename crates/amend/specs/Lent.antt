-- What is asked of what is lent to be written: rows within the book, series within the values, room in the log; and what follows a change.
use Rattle.std.specs.Prelude.{◌≡◌, true, List, ℕ, ◌+◌, ◌*◌, ◌^◌, ◌≤◌, ◌<◌, length, Option, Some, None}
use Rattle.quantity.specs.Limits.{runs, run_rows, book_rows, most_quarters}
use Rattle.state.specs.Valid.{state_ok, deltas_ok}
use Rattle.state.specs.declared.Frame.{Frame}
use Rattle.state.specs.declared.PointState.{PointState}
use Rattle.state.specs.declared.Selection.{Selection}
use Rattle.state.specs.declared.Selection.TheVariants.{None, Selected}
use Rattle.model.specs.Log.{logged, used_after}
use Rattle.model.specs.Step.{amend_by}
use Rattle.model.specs.declared.LogRow.{LogRow}
use Rattle.model.specs.declared.Side.{Side}
use Rattle.model.specs.declared.Side.TheVariants.{Outside, Group, Delta}
use Rattle.model.specs.declared.Sides.{Sides}
use Rattle.model.specs.declared.Turn.{Turn}

-- a selected version's series of Q numbers within the values
abbrev pub SeriesIn : (quarters : ℕ) (values : List ℕ) → Selection → Type 0
SeriesIn q values None = Unit {0}
SeriesIn q values (Selected r) = r.row.0 * q + q ≤ length values

-- the rows of a side are rows of a run
abbrev pub SideIn : Side → Type 0
SideIn Outside = Unit {0}
SideIn (Group g) = g < run_rows
SideIn (Delta x g) = (x < run_rows) × (g < run_rows)

-- the rows of both sides
pub record SidesIn (s : Sides) : Type 0 where
  pub to : SideIn s.to
  pub from : SideIn s.from

-- a run's rows within a book of 162 rows
pub record BookIn (run quarters : ℕ) (book : List ℕ) : Type 0 where
  pub low : 1 ≤ run
  pub high : run ≤ runs
  pub few : quarters ≤ most_quarters
  pub whole : length book ≡ book_rows * quarters

-- the series of run 1's selections and of run 2's own, before and after
pub record TurnIn (q : ℕ) (values : List ℕ) (t : Turn) : Type 0 where
  pub old1 : SeriesIn q values t.old1
  pub new1 : SeriesIn q values t.new1
  pub old2 : SeriesIn q values t.old2
  pub new2 : SeriesIn q values t.new2

-- four numbers for a row that is due
abbrev pub RoomIn : (used : ℕ) (log : List ℕ) → Option LogRow → Type 0
RoomIn n log None = Unit {0}
RoomIn n log (Some r) = 4 * n + 4 ≤ length log

-- one row more can be counted
abbrev pub MoreIn : (used : ℕ) → Option LogRow → Type 0
MoreIn n None = Unit {0}
MoreIn n (Some r) = n + 1 < 2 ^ 64

-- a change of a point's versions, and the stores that are to follow
pub record Changed (f : Frame) (here : PointState) (values book : List ℕ) (t : Turn) : Type 0 where
  pub few : f.opening.quarters ≤ most_quarters
  pub allotted : deltas_ok f.groups ≡ true
  pub fit : state_ok here ≡ true
  pub whole : length book ≡ book_rows * f.opening.quarters
  pub turn : TurnIn f.opening.quarters values t

-- the book, the log and its rows in use after the change
pub record Followed (f : Frame) (here : PointState) (t : Turn) (due : Option LogRow) (values book log : List ℕ) (r : ℕ) (book' log' : List ℕ) : Type 0 where
  pub booked : book' ≡ amend_by f.opening.quarters f.groups here t values book
  pub noted : log' ≡ logged f.used due log
  pub counted : r ≡ used_after due f.used

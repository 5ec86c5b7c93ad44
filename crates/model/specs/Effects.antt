-- What an accepted call makes of the running desk and its stores, in any state, and what the plain desk begins with.
use Rattle.std.specs.Prelude.{ℕ, ◌+◌, ◌-◌, ◌*◌, ◌≤◌, ◌<◌, ◌≡◌, true, false, ◌⊎◌, List, [], ℤ, pos, length, get_or, Bool}
use Rattle.quantity.specs.Word.{word}
use Rattle.state.specs.Desk.{versions_in}
use Rattle.state.specs.Point.{free_point}
use Rattle.state.specs.Settling.{Settles}
use Rattle.state.specs.Status.{status_number}
use Rattle.state.specs.Version.{empty_version, record_at}
use Rattle.state.specs.declared.Desk.{Desk}
use Rattle.state.specs.declared.PointRecord.{PointRecord}
use Rattle.state.specs.declared.PointState.TheVariants.{Free}
use Rattle.state.specs.declared.PerRun.{PerRun}
use Rattle.state.specs.declared.Status.{Status}
use Rattle.state.specs.declared.VersionRecord.{VersionRecord}
use Rattle.model.specs.Call.{Stores, lengths_of}
use Rattle.model.specs.Laws.{Opens, Sets, Confirms}
use Rattle.model.specs.Plain.{Worked}
use Rattle.model.specs.Step.{Outcome}

-- "all points free": there are 256
pub record AllFree (points : List PointRecord) : Type 0 where
  pub size : length points ≡ 256
  pub free : (i : ℕ) → i < 256 → (get_or points i free_point).state ≡ Free

-- neither run's flag is set
pub record NoFlag (r : PerRun Bool) : Type 0 where
  pub first : r.first ≡ false
  pub second : r.second ≡ false

-- a store of so many numbers, all of them 0
pub record AllZero (size : ℕ) (l : List ℕ) : Type 0 where
  pub long : length l ≡ size
  pub zero : (i : ℕ) → i < size → get_or l i 0 ≡ 0

-- "Book all 0; all points free, no versions, no log rows used; values and log untouched."; "The desk's day is 0 at opening."; document 02: open "fills it
-- with 0", "opening sets both alike"
pub record OpensDesk (quarters first clearing correction : ℕ) (groups : List ℕ) (s : Stores) (o : Outcome) : Type 0 where
  pub opens : Opens quarters first clearing correction groups (lengths_of s) o.desk.frame.opening o.desk.frame.groups
  pub seventeen : length groups ≡ 17
  pub day : o.desk.frame.day.0 ≡ 0
  pub points : AllFree o.desk.points
  pub count : o.desk.frame.count ≡ 0
  pub used : o.desk.frame.used ≡ 0
  pub closed : NoFlag o.desk.frame.closed
  pub issued : NoFlag o.desk.frame.issued
  pub book : AllZero (162 * quarters) o.stores.book
  pub schedules : AllZero (64 * quarters) o.stores.schedules
  pub values : o.stores.values ≡ s.values
  pub log : o.stores.log ≡ s.log

-- the plain desk with an opening and nothing else: no group of the 64 has lodged
pub record Begins (w : Worked) : Type 0 where
  pub day : w.day ≡ 0
  pub points : AllFree w.points
  pub versions : w.versions ≡ []
  pub energies : w.energies ≡ []
  pub log : w.log ≡ []
  pub closed : NoFlag w.closed
  pub issued : NoFlag w.issued
  pub rows : length w.schedules ≡ 64
  pub schedules : (i : ℕ) → i < 64 → get_or w.schedules i [] ≡ []

-- a run's flag is set, and not the other's
pub record SetsFlag (run : ℕ) (before after : PerRun Bool) : Type 0 where
  pub first : run ≡ 1 → (after.first ≡ true) × (after.second ≡ before.second)
  pub second : run ≡ 2 → (after.second ≡ true) × (after.first ≡ before.first)

-- "The series goes to the next unused row of values (row i begins at i × Q).": every other number of the values is as it was
pub record WritesRow (quarters row : ℕ) (energies : List ℤ) (before after : List ℕ) : Type 0 where
  pub within : row * quarters + quarters ≤ length before
  pub there : (n : ℕ) → 1 ≤ n → n ≤ quarters → get_or after (row * quarters + (n - 1)) 0 ≡ word (get_or energies (n - 1) (pos 0))
  pub others : (i : ℕ) → (i < row * quarters) ⊎ (row * quarters + quarters ≤ i) → get_or after i 0 ≡ get_or before i 0
  pub size : length after ≡ length before

-- "Each submission makes a version that takes a row of values": behind those held; "Status 2 if day ≤ F, else 1."
pub record SubmitsDesk (point version day : ℕ) (energies : List ℤ) (d : Desk) (s : Stores) (o : Outcome) : Type 0 where
  pub made : VersionRecord
  pub of_point : made.point.0 ≡ point
  pub numbered : made.version.0 ≡ version
  pub row : made.row.0 ≡ d.frame.count
  pub status : ((day ≤ d.frame.opening.first.0) × (status_number made.status ≡ 2)) ⊎ ((d.frame.opening.first.0 < day) × (status_number made.status ≡ 1))
  pub put : Sets empty_version d.frame.count made d.versions o.desk.versions
  pub count : o.desk.frame.count ≡ d.frame.count + 1
  pub values : WritesRow d.frame.opening.quarters d.frame.count energies s.values o.stores.values

-- "Positive turns status 1 into 2 if day ≤ C, else 4. Negative changes no status."
pub record NoticesDesk (point version verdict day : ℕ) (d : Desk) (o : Outcome) : Type 0 where
  pub count : o.desk.frame.count ≡ d.frame.count
  pub positive : verdict ≡ 1
      → (t : Status) × ((((day ≤ d.frame.opening.clearing.0) × (status_number t ≡ 2)) ⊎ ((d.frame.opening.clearing.0 < day) × (status_number t ≡ 4))) × Confirms point version t d.versions o.desk.versions)
  pub negative : (verdict ≡ 1 → ⊥) → o.desk.versions ≡ d.versions

-- document 02: "issue (sets status 3 or 5)": the run's flag is set, and the versions held are settled; what stands behind them is as it was
pub record IssuesDesk (run : ℕ) (d : Desk) (o : Outcome) : Type 0 where
  pub flag : SetsFlag run d.frame.issued o.desk.frame.issued
  pub count : o.desk.frame.count ≡ d.frame.count
  pub first : run ≡ 1 → Settles 1 2 3 (versions_in d) (versions_in o.desk)
  pub second : run ≡ 2 → Settles 2 4 5 (versions_in d) (versions_in o.desk)
  pub behind : (j : ℕ) → d.frame.count ≤ j → record_at o.desk.versions j ≡ record_at d.versions j

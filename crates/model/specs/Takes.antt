-- What a run takes of each point and what it comes to in each figure, in document 01's words and numbers: what judges figures and the outside exchange, of
-- any points, delta groups, versions and energies.
use Rattle.std.specs.Prelude.{ℕ, ◌+◌, ◌-◌, ◌*◌, ◌^◌, ◌≤◌, ◌<◌, ◌≡◌, List, [], ◌⊎◌, ℤ, pos, ◌+ℤ◌, ◌-ℤ◌, length, get_or}
use Rattle.quantity.specs.Sum.{sum_to}
use Rattle.quantity.specs.Word.{word, signed}
use Rattle.state.specs.Desk.{versions_in}
use Rattle.state.specs.Point.{free_point, active_point}
use Rattle.state.specs.Status.{status_number}
use Rattle.state.specs.Version.{record_at}
use Rattle.state.specs.declared.PerRun.{PerRun}
use Rattle.state.specs.declared.Desk.{Desk}
use Rattle.state.specs.declared.PointRecord.{PointRecord}
use Rattle.state.specs.declared.PointState.{PointState}
use Rattle.state.specs.declared.PointState.TheVariants.{Free}
use Rattle.state.specs.declared.VersionRecord.{VersionRecord}
use Rattle.model.specs.Agreement.{Running}
use Rattle.model.specs.Call.{Call, Stores}
use Rattle.model.specs.Laws.{of_group, of_delta}
use Rattle.model.specs.Step.{step}
use Rattle.model.specs.declared.Answer.TheVariants.{Accepted}

-- ---- what a run takes of a point

-- the record at an index is a version of the point with one of two statuses, by their numbers
pub record IsOne (low high point : ℕ) (vs : List VersionRecord) (i : ℕ) : Type 0 where
  pub within : i < length vs
  pub here : (record_at vs i).point.0 ≡ point
  pub status : (status_number (record_at vs i).status ≡ low) ⊎ (status_number (record_at vs i).status ≡ high)

-- "the highest version of status 2 or 3", "the highest of status 4 or 5"; of equal numbers, which only a table that somebody else wrote has, the first
pub record IsTop (low high point : ℕ) (vs : List VersionRecord) (i : ℕ) : Type 0 where
  pub one : IsOne low high point vs i
  pub highest : (j : ℕ) → IsOne low high point vs j → (record_at vs j).version.0 ≤ (record_at vs i).version.0
  pub first : (j : ℕ) → IsOne low high point vs j → (record_at vs j).version.0 ≡ (record_at vs i).version.0 → i ≤ j

-- what is read of the highest such version, and where the point has none something else
pub data Takes (low high point : ℕ) (vs : List VersionRecord) (reads : (index : ℕ) → ℤ) (without : ℤ → Type 0) (v : ℤ) : Type 0 where
  top : (i : ℕ) → IsTop low high point vs i → v ≡ reads i → Takes low high point vs reads without v
  none : ((i : ℕ) → IsOne low high point vs i → ⊥) → without v → Takes low high point vs reads without v

-- "Run 1 selects for a point the highest version of status 2 or 3."; "where a point has no selected version it adds nothing"
abbrev pub TakesFirst : List VersionRecord → (reads : (index : ℕ) → ℤ) (point : ℕ) → ℤ → Type 0
TakesFirst vs reads p v = Takes 2 3 p vs reads (λ (x : ℤ). x ≡ pos 0) v

-- "Run 2 selects the highest of status 4 or 5 (its own), and without one what run 1 selects."
abbrev pub TakesSecond : List VersionRecord → (reads : (index : ℕ) → ℤ) (point : ℕ) → ℤ → Type 0
TakesSecond vs reads p v = Takes 4 5 p vs reads (TakesFirst vs reads p) v

-- an energy for each point, "Points are 1 to 256", as a run takes it
pub record Taken (takes : (point : ℕ) → ℤ → Type 0) : Type 0 where
  pub energy : ℕ → ℤ
  pub each : (p : ℕ) → 1 ≤ p → p ≤ 256 → takes p (energy p)

-- ---- what it comes to

-- the table of series, line by line: what the value v of a point in a state adds to row k, and of it to the outside exchange, "points of kind 1 with
-- partner 0"; a free one adds nothing
pub data Line (groups : List ℕ) (k : ℕ) (v : ℤ) : PointState → (added outside : ℤ) → Type 0 where
  free : Line groups k v Free (pos 0) (pos 0)
  outside : (day a : ℕ) → Line groups k v (active_point 1 a 0 day).state (of_delta groups a k v) v
  exchange : (day a b : ℕ) → 1 ≤ b → Line groups k v (active_point 1 a b day).state (of_delta groups a k v -ℤ of_delta groups b k v) (pos 0)
  group_sum : (day a g : ℕ) → Line groups k v (active_point 2 a g day).state (of_group g k v -ℤ of_delta groups a k v) (pos 0)
  area_sum : (day a : ℕ) → Line groups k v (active_point 3 a 0 day).state (of_delta groups 0 k v -ℤ of_delta groups a k v) (pos 0)
  group_sum_t : (day g : ℕ) → Line groups k v (active_point 4 0 g day).state (of_group g k v -ℤ of_delta groups 0 k v) (pos 0)
  transfer : (day a : ℕ) → Line groups k v (active_point 5 a 0 day).state (of_delta groups a k v -ℤ of_delta groups 0 k v) (pos 0)

-- each point's line, of what is taken of it
pub record Added (ps : List PointRecord) (groups : List ℕ) (k : ℕ) (energy : ℕ → ℤ) : Type 0 where
  pub row : ℕ → ℤ
  pub outside : ℕ → ℤ
  pub lines : (p : ℕ) → 1 ≤ p → p ≤ 256 → Line groups k (energy p) (get_or ps (p - 1) free_point).state (row p) (outside p)

-- a figure and an outside exchange are their sums
pub record IsSum (ps : List PointRecord) (groups : List ℕ) (k : ℕ) (energy : ℕ → ℤ) (figure outside : ℤ) : Type 0 where
  pub figures : (a : Added ps groups k energy) → figure ≡ sum_to 256 a.row
  pub outsides : (a : Added ps groups k energy) → outside ≡ sum_to 256 a.outside

-- "A figure is 0 plus what the selected versions' energies add by the table of series"; "The outside exchange of a run and quarter hour is the sum of the
-- energies there of the versions that the list selects for the run"; document 02: "each run under its own delta groups". Quarter hours are counted from 0
pub record Figured (ps : List PointRecord) (gs : PerRun (List ℕ)) (vs : List VersionRecord) (quarters : ℕ) (reads : (quarter index : ℕ) → ℤ) (figure : (run k quarter : ℕ) → ℤ) (outside : (run quarter : ℕ) → ℤ) : Type 0 where
  pub first : (k q : ℕ) → k < 81 → q < quarters → (t : Taken (TakesFirst vs (reads q))) → IsSum ps gs.first k t.energy (figure 1 k q) (outside 1 q)
  pub second : (k q : ℕ) → k < 81 → q < quarters → (t : Taken (TakesSecond vs (reads q))) → IsSum ps gs.second k t.energy (figure 2 k q) (outside 2 q)

-- ---- where it is read

-- the energies of the list's submissions, in their order
abbrev pub in_list : List (List ℤ) → (quarter index : ℕ) → ℤ
in_list es q i = get_or (get_or es i []) q (pos 0)

-- "row i begins at i × Q": a version's row of values
abbrev pub in_rows : (quarters : ℕ) (values : List ℕ) → List VersionRecord → (quarter index : ℕ) → ℤ
in_rows n values vs q i = signed (get_or values ((record_at vs i).row.0 * n + q) 0)

-- the same of the running desk
abbrev pub in_values : Running → (quarter index : ℕ) → ℤ
in_values r = in_rows r.desk.frame.opening.quarters r.stores.values (versions_in r.desk)

-- "Book: run r, row k, quarter q at index ((r-1) × 81 + k) × Q + q-1."
abbrev pub in_book : Running → (run k quarter : ℕ) → ℤ
in_book r run k q = let n = r.desk.frame.opening.quarters in signed (get_or r.stores.book (((run - 1) * 81 + k) * n + q) 0)

-- the sum of its 64 groups
abbrev pub total_in : Running → (run quarter : ℕ) → ℤ
total_in r run q = sum_to 64 (λ (g : ℕ). in_book r run (g - 1) q)

-- ---- what a change of a point's versions makes of the book, on a desk in any state

-- a store holds words
abbrev pub Words : List ℕ → Type 0
Words l = (i : ℕ) → get_or l i 0 < 2 ^ 64

-- a number of row k follows what is taken of a point: the old line out of it, the new one in; "sums wrap at 64 bits"
abbrev pub Follows : (groups : List ℕ) → PointState → (k : ℕ) (old new : ℤ) (before after : ℕ) → Type 0
Follows gs s k old new before after =
    (x y o u : ℤ) → Line gs k old s x o → Line gs k new s y u → after ≡ word (signed before +ℤ (y -ℤ x))

-- each number of the book of Q quarter hours, by what its run takes of point p of the versions before and after, both read from the values as they are then
pub record Amends (q : ℕ) (gs : PerRun (List ℕ)) (s : PointState) (p : ℕ) (vs ws : List VersionRecord) (values before after : List ℕ) : Type 0 where
  pub first : (k j : ℕ) → k < 81 → j < q → (old new : ℤ) → TakesFirst vs (in_rows q values vs j) p old → TakesFirst ws (in_rows q values ws j) p new
      → Follows gs.first s k old new (get_or before (k * q + j) 0) (get_or after (k * q + j) 0)
  pub second : (k j : ℕ) → k < 81 → j < q → (old new : ℤ) → TakesSecond vs (in_rows q values vs j) p old → TakesSecond ws (in_rows q values ws j) p new
      → Follows gs.second s k old new (get_or before ((81 + k) * q + j) 0) (get_or after ((81 + k) * q + j) 0)
  pub size : length after ≡ length before

-- an accepted call makes that of the book for a point, whatever desk and stores of words: "a version table of 512"
abbrev pub AmendsBook : Desk → Stores → (point : ℕ) → Call → Type 0
AmendsBook d s p c =
    let o = step d (record { call = c; stores = s }) in
    length d.versions ≡ 512 → Words s.values → Words s.book → o.answer ≡ Accepted
    → Amends d.frame.opening.quarters d.frame.groups (get_or d.points (p - 1) free_point).state p (versions_in d) (versions_in o.desk) o.stores.values s.book o.stores.book

-- What both desks share, said in other words: a theorem of their agreement could not judge it.
use Rattle.std.specs.Prelude.{ℕ, ◌+◌, ◌-◌, ◌*◌, ◌≤◌, ◌<◌, ◌≡◌, Bool, true, false, cond, List, [], ◌∷◌, ◌++◌, ◌⊎◌, eqb, ℤ, pos, ◌+ℤ◌, length, get_or}
use Rattle.quantity.specs.Sum.{sum_to}
use Rattle.quantity.specs.Word.{word}
use Rattle.state.specs.Selection.{own, selected, SameVersion, version_of}
use Rattle.state.specs.Settling.{Settles}
use Rattle.state.specs.Status.{status_number, is_check}
use Rattle.state.specs.Version.{record_at, restatus, is_version}
use Rattle.state.specs.declared.PerRun.{PerRun}
use Rattle.state.specs.declared.Opening.{Opening}
use Rattle.state.specs.declared.Selection.{Selection}
use Rattle.state.specs.declared.Selection.TheVariants.{None, Selected}
use Rattle.state.specs.declared.Status.{Status}
use Rattle.state.specs.declared.Status.TheVariants.{Check}
use Rattle.state.specs.declared.VersionRecord.{VersionRecord}
use Rattle.state.specs.declared.VersionRow.{VersionRow}
use Rattle.model.specs.Call.{Call, opens, activates, deactivates, submits, notices, assigns, shows, asks, closes, issues, lodges, reports, Lengths, Told, telling, cause_number}
use Rattle.model.specs.Causes.{Rule}
use Rattle.model.specs.Log.{log_words}
use Rattle.model.specs.Plain.{Worked}
use Rattle.model.specs.declared.Answer.{Answer}
use Rattle.model.specs.declared.Answer.TheVariants.{Refused}
use Rattle.model.specs.declared.Cause.{Cause}
use Rattle.model.specs.declared.LogRow.{LogRow}

-- no line of the table holds
abbrev pub Passed : List Rule → Type 0
Passed [] = Unit {0}
Passed (r ∷ l) = (r.holds ≡ false) × Passed l

-- "the first that holds decides": a line of the cause holds, and none above it
pub data Decides (x : Cause) : List Rule → Type 0 where
  here : {r : Rule} {l : List Rule} → r.holds ≡ true → r.cause ≡ x → Decides x (r ∷ l)
  below : {r : Rule} {l : List Rule} → r.holds ≡ false → Decides x l → Decides x (r ∷ l)

-- the versions with another status for the one at an index, and all else as it was
pub record Restates (i : ℕ) (s : Status) (vs ws : List VersionRecord) : Type 0 where
  pub within : i < length vs
  pub there : record_at ws i ≡ restatus s (record_at vs i)
  pub others : (j : ℕ) → (j ≡ i → ⊥) → record_at ws j ≡ record_at vs j
  pub size : length ws ≡ length vs

-- a positive notice: the version that it names, which was check data, gets a status
pub record Confirms (p x : ℕ) (s : Status) (vs ws : List VersionRecord) : Type 0 where
  pub at : ℕ
  pub named : is_version p x (record_at vs at) ≡ true
  pub check : is_check (record_at vs at).status ≡ true
  pub restates : Restates at s vs ws

-- "A call that changes run 1's selection or run 2's own adds one log row.": it changes one of the two, and of one point; a restated status is no
-- other selection
pub record OwesOne (vs ws : List VersionRecord) : Type 0 where
  pub point : ℕ
  pub elsewhere : (r i : ℕ) → (i ≡ point → ⊥) → SameVersion (own r i ws) (own r i vs)
  pub one : SameVersion (own 1 point ws) (own 1 point vs) ⊎ SameVersion (own 2 point ws) (own 2 point vs)

-- a point's versions rise in the order of their submission: one that is "present", or "below the point's highest", is refused
abbrev pub Rising : List VersionRecord → Type 0
Rising vs =
    (i j : ℕ) → i < j → j < length vs → (record_at vs i).point.0 ≡ (record_at vs j).point.0 → (record_at vs i).version.0 < (record_at vs j).version.0

-- run 2's own, where there is one, stands above what run 1 selects
abbrev pub OwnAbove : List VersionRecord → Type 0
OwnAbove vs = (p : ℕ) (r s : VersionRow) → selected 1 p vs ≡ Selected r → own 2 p vs ≡ Selected s → r.version.0 < s.version.0

-- a version becomes a run's own: the one before it was lower, and the log gains a row, "day, point, run, new version"
pub record TakenUp (run point version day : ℕ) (vs ws : List VersionRecord) (log after : List ℕ) : Type 0 where
  pub lower : version_of (own run point vs) < version
  pub chosen : version_of (own run point ws) ≡ version
  pub row : after ≡ log ++ (day ∷ point ∷ run ∷ version ∷ [])

-- "a notice counts only for the highest version that a point has": so an accepted positive one always counts, up to C in run 1, after it in run 2
pub record NoticeCounts (clearing point version day : ℕ) (vs ws : List VersionRecord) (log after : List ℕ) : Type 0 where
  pub early : day ≤ clearing → TakenUp 1 point version day vs ws log after
  pub late : clearing < day → TakenUp 2 point version day vs ws log after

-- what a status tells of its run, document 02: "issue (sets status 3 or 5)". Where run 1 is issued its selection has 3, and where run 2 is its own has
-- 5; before that 2 and 4, closed or not. Where run 2 has none of its own it tells run 1's, so once both are issued what it selects has 5 or 3
pub record TellsIssued (issued : PerRun Bool) (vs : List VersionRecord) : Type 0 where
  pub first : issued.first ≡ true → (p : ℕ) (r : VersionRow) → selected 1 p vs ≡ Selected r → status_number r.status ≡ 3
  pub first_open : issued.first ≡ false → (p : ℕ) (r : VersionRow) → selected 1 p vs ≡ Selected r → status_number r.status ≡ 2
  pub second : issued.second ≡ true → (p : ℕ) (r : VersionRow) → own 2 p vs ≡ Selected r → status_number r.status ≡ 5
  pub second_open : issued.second ≡ false → (p : ℕ) (r : VersionRow) → own 2 p vs ≡ Selected r → status_number r.status ≡ 4
  pub both : issued.first ≡ true → issued.second ≡ true → (p : ℕ) (r : VersionRow) → selected 2 p vs ≡ Selected r → (status_number r.status ≡ 5) ⊎ (status_number r.status ≡ 3)

-- how both acts stand to the deadlines: a closed run lies behind its own, since 27 is "day ≤ C (run 1) or ≤ K (run 2)", and an issued one is closed
pub record ActsInOrder (clearing correction day : ℕ) (closed issued : PerRun Bool) : Type 0 where
  pub first : closed.first ≡ true → clearing < day
  pub second : closed.second ≡ true → correction < day
  pub first_issued : issued.first ≡ true → closed.first ≡ true
  pub second_issued : issued.second ≡ true → closed.second ≡ true

-- a closed run goes on selecting the same version of every point, with perhaps another status
pub record StaysClosed (closed : PerRun Bool) (vs ws : List VersionRecord) : Type 0 where
  pub first : closed.first ≡ true → (p : ℕ) → SameVersion (selected 1 p ws) (selected 1 p vs)
  pub second : closed.second ≡ true → (p : ℕ) → SameVersion (selected 2 p ws) (selected 2 p vs)

-- what a run shows stands still: the version that it selects of every point, with perhaps another status, its delta groups, and each of its figures
pub record StandsStill (run quarters : ℕ) (vs ws : List VersionRecord) (gs hs : List ℕ) (figure later : (k quarter : ℕ) → ℤ) : Type 0 where
  pub selection : (p : ℕ) → SameVersion (selected run p ws) (selected run p vs)
  pub groups : hs ≡ gs
  pub figures : (k q : ℕ) → k < 81 → q < quarters → later k q ≡ figure k q

-- an issue by what the run had of its own at its close: each of these versions gets the status `settled`, one that has not the number selected for its
-- point then stays, and nothing but a status changes
pub record IssuesClosed (run settled : ℕ) (closed vs ws : List VersionRecord) : Type 0 where
  pub picked : (p : ℕ) (r : VersionRow) → own run p closed ≡ Selected r → status_number (record_at ws r.at).status ≡ settled
  pub lower : (i : ℕ) → ((record_at vs i).version.0 ≡ version_of (own run (record_at vs i).point.0 closed) → ⊥) → record_at ws i ≡ record_at vs i
  pub same : (i : ℕ) → restatus Check (record_at ws i) ≡ restatus Check (record_at vs i)

-- "39, issue of a run already issued": refused with any day, and by that number with one from the desk's day to 400
pub record IssuedAgain (before day : ℕ) (a : Answer) : Type 0 where
  pub cause : Cause
  pub refused : a ≡ Refused cause
  pub number : before ≤ day → day ≤ 400 → cause_number cause ≡ 39

-- no other selection: the same row of the version table, by index and number
abbrev pub SameRow : Selection → Selection → Type 0
SameRow None None = Unit {0}
SameRow None (Selected s) = ⊥
SameRow (Selected r) None = ⊥
SameRow (Selected r) (Selected s) = (r.at ≡ s.at) × (r.version.0 ≡ s.version.0)

-- "When run 1's selection or run 2's own changes, the log gains a row: day, point, run, new version."
pub record RowOf (vs ws : List VersionRecord) (point day run : ℕ) (r : LogRow) : Type 0 where
  pub changed : SameRow (own run point vs) (own run point ws) → ⊥
  pub words : log_words r ≡ day ∷ point ∷ run ∷ version_of (own run point ws) ∷ []

-- ---- the table of series, by the rows' own numbers: "Rows 0..63 are groups 1..64, row 64 delta T, rows 65..80 areas 1..16."

-- a value in a row, and 0 in every other
abbrev pub in_row : (row k : ℕ) → ℤ → ℤ
in_row r k v = cond (eqb r k) v (pos 0)

-- a group's
abbrev pub of_group : (group k : ℕ) → ℤ → ℤ
of_group g k v = in_row (g - 1) k v

-- a delta's, of T (0) or an area: "Each delta is also added to its delta group."
abbrev pub of_delta : (groups : List ℕ) (area k : ℕ) → ℤ → ℤ
of_delta gs a k v = in_row (64 + a) k v +ℤ of_group (get_or gs a 0) k v

-- ---- what an accepted call sets

-- "The opening gives Q, deadlines and store lengths."; document 02: "opening sets both alike"
pub record Opens (quarters first clearing correction : ℕ) (groups : List ℕ) (n : Lengths) (o : Opening) (gs : PerRun (List ℕ)) : Type 0 where
  pub q : o.quarters ≡ quarters
  pub f : o.first.0 ≡ first
  pub c : o.clearing.0 ≡ clearing
  pub k : o.correction.0 ≡ correction
  pub values : o.values ≡ n.values
  pub book : o.book ≡ n.book
  pub log : o.log ≡ n.log
  pub schedules : o.schedules ≡ n.schedules
  pub given1 : gs.first ≡ groups
  pub given2 : gs.second ≡ groups

-- an element of a list is another one, and every other as it was; z is read past the end
pub record Sets {A : Type 0} (z : A) (at : ℕ) (x : A) (before after : List A) : Type 0 where
  pub there : at < length before → get_or after at z ≡ x
  pub others : (j : ℕ) → (j ≡ at → ⊥) → get_or after j z ≡ get_or before j z
  pub size : length after ≡ length before

-- document 02: "Assign up to day C sets both, as before; after C and up to K it sets run 2 only."
pub record Allots (clearing day area group : ℕ) (before after : PerRun (List ℕ)) : Type 0 where
  pub early : day ≤ clearing → Sets 0 area group before.first after.first
  pub late : clearing < day → after.first ≡ before.first
  pub second : Sets 0 area group before.second after.second

-- "Each submission makes a version that takes a row of values": behind those held, with the next row; "Status 2 if day ≤ F, else 1."
pub record Delivers (point version day : ℕ) (energies : List ℤ) (before after : Worked) : Type 0 where
  pub size : length after.versions ≡ length before.versions + 1
  pub of_point : (record_at after.versions (length before.versions)).point.0 ≡ point
  pub numbered : (record_at after.versions (length before.versions)).version.0 ≡ version
  pub row : (record_at after.versions (length before.versions)).row.0 ≡ length before.versions
  pub status : ((day ≤ before.opening.first.0) × (status_number (record_at after.versions (length before.versions)).status ≡ 2))
      ⊎ ((before.opening.first.0 < day) × (status_number (record_at after.versions (length before.versions)).status ≡ 1))
  pub others : (j : ℕ) → j < length before.versions → record_at after.versions j ≡ record_at before.versions j
  pub deliveries : length after.energies ≡ length before.energies + 1
  pub series : get_or after.energies (length before.energies) [] ≡ energies
  pub earlier : (j : ℕ) → j < length before.energies → get_or after.energies j [] ≡ get_or before.energies j []

-- document 02: "close (records that the run is closed)": the run's flag is set and not the other's; no status changes
pub record Closes (flag other : PerRun Bool → Bool) (before after : Worked) : Type 0 where
  pub closed : flag after.closed ≡ true
  pub apart : other after.closed ≡ other before.closed
  pub issued : after.issued ≡ before.issued
  pub versions : after.versions ≡ before.versions

-- "issue (sets status 3 or 5)": the other flag of the run is set and not the other run's; the versions selected are settled
pub record Issues (flag other : PerRun Bool → Bool) (run status settled : ℕ) (before after : Worked) : Type 0 where
  pub issued : flag after.issued ≡ true
  pub apart : other after.issued ≡ other before.issued
  pub closed : after.closed ≡ before.closed
  pub settles : Settles run status settled before.versions after.versions

-- one for a submission
abbrev pub submission_by : Call → ℕ
submission_by (opens q f c k gs) = 0
submission_by (activates p k a b d) = 0
submission_by (deactivates p d) = 0
submission_by (submits p x d es) = 1
submission_by (notices p x y d) = 0
submission_by (assigns a g d) = 0
submission_by (shows r g) = 0
submission_by (asks p x) = 0
submission_by (closes r d) = 0
submission_by (issues r d) = 0
submission_by (lodges g d es) = 0
submission_by (reports r g) = 0

-- how many submissions a list of accepted calls has
unfoldable pub submissions : List Told → ℕ
submissions [] = 0
submissions (t ∷ h) = submission_by t.call + submissions h

-- document 02: "group g, quarter q at (g-1) × Q + q-1": a group's energies stand there, and every other number of the schedules is as it was
pub record Lodges (quarters group : ℕ) (energies : List ℤ) (before after : List ℕ) : Type 0 where
  pub there : (n : ℕ) → 1 ≤ n → n ≤ quarters → get_or after ((group - 1) * quarters + (n - 1)) 0 ≡ word (get_or energies (n - 1) (pos 0))
  pub others : (i : ℕ) → (i < (group - 1) * quarters) ⊎ (group * quarters ≤ i) → get_or after i 0 ≡ get_or before i 0
  pub size : length after ≡ length before

-- "An accepted call with a day sets it."
abbrev pub day_by : Call → (before : ℕ) → ℕ
day_by (opens q f c k gs) e = e
day_by (activates p k a b d) e = d
day_by (deactivates p d) e = d
day_by (submits p x d es) e = d
day_by (notices p x y d) e = d
day_by (assigns a g d) e = d
day_by (shows r g) e = e
day_by (asks p x) e = e
day_by (closes r d) e = d
day_by (issues r d) e = d
day_by (lodges g d es) e = d
day_by (reports r g) e = e

-- ---- lists that differ in delta groups only

-- what a call says beside delta groups: an assignment nothing, an opening all but its 17 groups
abbrev pub beside_groups : Told → List Told
beside_groups t = beside t.lengths t.call
  where
    beside : Lengths → Call → List Told
    beside n (opens q f c k gs) = telling n (opens q f c k []) ∷ []
    beside n (activates p k a b d) = telling n (activates p k a b d) ∷ []
    beside n (deactivates p d) = telling n (deactivates p d) ∷ []
    beside n (submits p x d es) = telling n (submits p x d es) ∷ []
    beside n (notices p x y d) = telling n (notices p x y d) ∷ []
    beside n (assigns a g d) = []
    beside n (shows r g) = telling n (shows r g) ∷ []
    beside n (asks p x) = telling n (asks p x) ∷ []
    beside n (closes r d) = telling n (closes r d) ∷ []
    beside n (issues r d) = telling n (issues r d) ∷ []
    beside n (lodges g d es) = telling n (lodges g d es) ∷ []
    beside n (reports r g) = telling n (reports r g) ∷ []

-- the same of a list
unfoldable pub groupless : List Told → List Told
groupless [] = []
groupless (t ∷ h) = beside_groups t ++ groupless h

-- the 64 group figures of each run and quarter hour add up to the same; "Rows 0..63 are groups 1..64"
abbrev pub SameTotals : (quarters : ℕ) (figures others : (run k quarter : ℕ) → ℤ) → Type 0
SameTotals n f g = (run q : ℕ) → 1 ≤ run → run ≤ 2 → q < n → sum_to 64 (λ (i : ℕ). f run (i - 1) q) ≡ sum_to 64 (λ (i : ℕ). g run (i - 1) q)

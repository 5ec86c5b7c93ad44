-- The table of causes of documents 01 and 02, for each call its lines from top to bottom: the number, and in the papers' words when it holds. What
-- both desks share, the tests of `terms`, is judged by it.
use Rattle.std.specs.Prelude.{ℕ, ◌+◌, ◌*◌, ◌%◌, ◌≤◌, ◌<◌, ◌≡◌, true, false, cond, ◌⊎◌, List, [], ◌∷◌, ◌++◌, eqb, ℤ, pos, nat_abs, length, get_or, Bool}
use Rattle.quantity.specs.Lists.{any}
use Rattle.quantity.specs.Meaning.{Between, Each, Among}
use Rattle.state.specs.Point.{free_point}
use Rattle.state.specs.Status.{status_number}
use Rattle.state.specs.Version.{empty_version, record_at}
use Rattle.state.specs.Within.{InTable, Within}
use Rattle.state.specs.declared.Desk.{Desk}
use Rattle.state.specs.declared.Frame.{Frame}
use Rattle.state.specs.declared.PointState.TheVariants.{Active}
use Rattle.state.specs.declared.PointRecord.{PointRecord}
use Rattle.state.specs.declared.PerRun.{PerRun}
use Rattle.state.specs.declared.VersionRecord.{VersionRecord}
use Rattle.model.specs.Call.{Call, opens, activates, deactivates, submits, notices, assigns, shows, asks, closes, issues, lodges, reports, Lengths, cause_number}
use Rattle.model.specs.View.{View, view_of}
use Rattle.model.specs.declared.Answer.{Answer}
use Rattle.model.specs.declared.Answer.TheVariants.{Refused}
use Rattle.model.specs.declared.Cause.{Cause}

-- lines, each with its number and when it holds
pub data Table : Type 1 where
  end : Table
  line : (number : ℕ) → (when : Type 0) → Table → Table

-- the numbers of the lines, from top to bottom
abbrev pub numbers_in : Table → List ℕ
numbers_in end = []
numbers_in (line m P t) = m ∷ numbers_in t

-- "Checks go down the table": all its numbers, from top to bottom; document 02: "37, .. checked after 24 and before 25", "38, .. after 5; 39, .. after 38"
abbrev pub order : List ℕ
order = 1 ∷ 2 ∷ 3 ∷ 6 ∷ 4 ∷ 5 ∷ 11 ∷ 26 ∷ 21 ∷ 22 ∷ 12 ∷ 23 ∷ 13 ∷ 14 ∷ 15 ∷ 24 ∷ 37 ∷ 25 ∷ 16 ∷ 17 ∷ 27 ∷ 28 ∷ 29 ∷ 38 ∷ 39 ∷ []

-- those of a list that stand in another, in the order of the first
abbrev pub among : (l other : List ℕ) → List ℕ
among [] m = []
among (n ∷ l) m = cond (any (eqb n) m) (n ∷ []) [] ++ among l m

-- "the first that holds decides": a line of the number holds, and none above it
abbrev pub FirstIs : Table → ℕ → Type 0
FirstIs end n = ⊥
FirstIs (line m P t) n = (P × (m ≡ n)) ⊎ ((P → ⊥) × FirstIs t n)

-- none holds
abbrev pub NoneIs : Table → Type 0
NoneIs end = Unit {0}
NoneIs (line m P t) = (P → ⊥) × NoneIs t

-- an answer is what the table says: a number is refused exactly where its line is the first that holds, and nothing where none does
pub record ByTable (t : Table) (a : Answer) : Type 0 where
  pub refused : (x : Cause) → a ≡ Refused x → FirstIs t (cause_number x)
  pub refuses : (n : ℕ) → FirstIs t n → (x : Cause) × ((a ≡ Refused x) × (cause_number x ≡ n))
  pub accepted : ((x : Cause) → a ≡ Refused x → ⊥) → NoneIs t
  pub accepts : NoneIs t → (x : Cause) → a ≡ Refused x → ⊥

-- ---- words of the paper

-- the point is active since a day; points are counted from 1, records from 0
pub record ActiveAt (ps : List PointRecord) (point : ℕ) : Type 0 where
  pub at : ℕ
  pub since : ℕ
  pub kind : ℕ
  pub area : ℕ
  pub partner : ℕ
  pub numbered : point ≡ at + 1
  pub there : (get_or ps at free_point).state ≡ Active (record { 0 = since }) (record { 0 = kind }) (record { 0 = area }) (record { 0 = partner })

-- "an active point has the same kind, area and partner"
pub record SameSeries (kind area partner : ℕ) (r : PointRecord) : Type 0 where
  pub since : ℕ
  pub there : r.state ≡ Active (record { 0 = since }) (record { 0 = kind }) (record { 0 = area }) (record { 0 = partner })

-- the version's record; of two, which only a dishonest table has, the first
pub record FoundAt (vs : List VersionRecord) (point version at : ℕ) : Type 0 where
  pub within : at < length vs
  pub here : (record_at vs at).point.0 ≡ point
  pub numbered : (record_at vs at).version.0 ≡ version
  pub first : (j : ℕ) → j < at → (record_at vs j).point.0 ≡ point → (record_at vs j).version.0 ≡ version → ⊥

-- "version present"
abbrev pub Present : (vs : List VersionRecord) (point version : ℕ) → Type 0
Present vs p x = Among empty_version (λ (v : VersionRecord). (v.point.0 ≡ p) × (v.version.0 ≡ x)) vs

-- "version below the point's highest": the point has one above it, of whatever status
abbrev pub BelowHighest : (vs : List VersionRecord) (point version : ℕ) → Type 0
BelowHighest vs p x = Among empty_version (λ (v : VersionRecord). (v.point.0 ≡ p) × (x < v.version.0)) vs

-- "none is left": a row has four numbers
abbrev pub NoneLeft : Frame → Type 0
NoneLeft f = f.opening.log < 4 * (f.used + 1)

-- the run's flag is set: "already closed", "already issued"
abbrev pub Set : (run : ℕ) → PerRun Bool → Type 0
Set r s = ((r ≡ 1) × (s.first ≡ true)) ⊎ ((r ≡ 2) × (s.second ≡ true))

-- it is not: "not closed"
abbrev pub Unset : (run : ℕ) → PerRun Bool → Type 0
Unset r s = ((r ≡ 1) × (s.first ≡ false)) ⊎ ((r ≡ 2) × (s.second ≡ false))

-- ---- the table

-- "open: Q, deadlines, groups or store lengths not allowed": what is allowed
abbrev pub Allowed : (quarters first clearing correction : ℕ) (groups : List ℕ) → Lengths → Type 0
Allowed q f c k gs n =
    (Between 1 2980 q
    × (((1 ≤ f) × ((f < c) × ((c < k) × (k ≤ 399))))
    × ((n.book ≡ 162 * q)
    × ((n.log % 4 ≡ 0)
    × (n.schedules ≡ 64 * q)))))
    × ((length gs ≡ 17) × Each 0 (Between 1 64) gs)

-- a submission's fields: point, version, day, "Q energies", "each from -10^12 to 10^12"
abbrev pub SubmitIn : (point version day quarters : ℕ) → List ℤ → Type 0
SubmitIn p x d q es =
    Between 1 256 p
    × (Between 1 99999999999999 x
    × ((d ≤ 400)
    × ((length es ≡ q)
    × Each (pos 0) (λ (e : ℤ). nat_abs e ≤ 1000000000000) es)))

-- a lodging's fields: group, day, "Q energies", each in its range
abbrev pub LodgeIn : (group day quarters : ℕ) → List ℤ → Type 0
LodgeIn g d q es =
    Between 1 64 g
    × ((d ≤ 400)
    × ((length es ≡ q)
    × Each (pos 0) (λ (e : ℤ). nat_abs e ≤ 1000000000000) es))

module _ (v : View) (n : Lengths) where
  -- "desk not open": "An unopened desk has no quarter hours."
  abbrev pub Unopened : Type 0
  Unopened = v.frame.opening.quarters ≡ 0

  -- "values, book or log that the call takes differs from its opening length": all three
  abbrev pub OtherStores : Type 0
  OtherStores =
      (n.values ≡ v.frame.opening.values → ⊥) ⊎ ((n.book ≡ v.frame.opening.book → ⊥) ⊎ (n.log ≡ v.frame.opening.log → ⊥))

  -- the book alone
  abbrev pub OtherBook : Type 0
  OtherBook = n.book ≡ v.frame.opening.book → ⊥

  -- the schedules alone
  abbrev pub OtherSchedules : Type 0
  OtherSchedules = n.schedules ≡ v.frame.opening.schedules → ⊥

  -- "Checks go down the table, only those that fit the call"; document 02: 26 is "a day above K for assign, and stays day C for schedules"
  abbrev pub table : Call → Table
  table (opens q f c k gs) =
      line 6 (Unopened → ⊥)
      (line 4 (Allowed q f c k gs n → ⊥)
      end)
  table (activates p k a b d) =
      line 1 Unopened
      (line 3 (Between 1 256 p × ((d ≤ 400) × InTable k a b) → ⊥)
      (line 5 (d < v.frame.day.0)
      (line 11 (v.frame.opening.correction.0 < d)
      (line 21 (ActiveAt v.points p)
      (line 22 (Among free_point (SameSeries k a b) v.points)
      end)))))
  table (deactivates p d) =
      line 1 Unopened
      (line 3 (Between 1 256 p × (d ≤ 400) → ⊥)
      (line 5 (d < v.frame.day.0)
      (line 11 (v.frame.opening.correction.0 < d)
      (line 12 (ActiveAt v.points p → ⊥)
      (line 23 (Among empty_version (λ (r : VersionRecord). r.point.0 ≡ p) v.versions)
      end)))))
  table (submits p x d es) =
      line 1 Unopened
      (line 2 OtherStores
      (line 3 (SubmitIn p x d v.frame.opening.quarters es → ⊥)
      (line 5 (d < v.frame.day.0)
      (line 11 (v.frame.opening.correction.0 < d)
      (line 12 (ActiveAt v.points p → ⊥)
      (line 13 ((a : ActiveAt v.points p) × (d < a.since + 2))
      (line 14 (Present v.versions p x)
      (line 15 (BelowHighest v.versions p x)
      (line 16 ((512 ≤ length v.versions) ⊎ (v.frame.opening.values < (length v.versions + 1) * v.frame.opening.quarters))
      (line 17 ((d ≤ v.frame.opening.first.0) × NoneLeft v.frame)
      end))))))))))
  table (notices p x y d) =
      line 1 Unopened
      (line 2 OtherStores
      (line 3 (Between 1 256 p × (Between 1 99999999999999 x × ((y ≤ 1) × (d ≤ 400))) → ⊥)
      (line 5 (d < v.frame.day.0)
      (line 11 (v.frame.opening.correction.0 < d)
      (line 12 (ActiveAt v.points p → ⊥)
      (line 24 (Present v.versions p x → ⊥)
      (line 37 (BelowHighest v.versions p x)
      (line 25 ((i : ℕ) × (FoundAt v.versions p x i × (status_number (record_at v.versions i).status ≡ 1 → ⊥)))
      (line 17 ((y ≡ 1) × NoneLeft v.frame)
      end)))))))))
  table (assigns a g d) =
      line 1 Unopened
      (line 2 OtherBook
      (line 3 ((a ≤ 16) × (Between 1 64 g × (d ≤ 400)) → ⊥)
      (line 5 (d < v.frame.day.0)
      (line 26 (v.frame.opening.correction.0 < d)
      end))))
  table (shows r g) =
      line 1 Unopened
      (line 2 OtherBook
      (line 3 (((r ≡ 1) ⊎ (r ≡ 2)) × Between 1 64 g → ⊥)
      end))
  table (asks p x) =
      line 1 Unopened
      (line 3 (Between 1 256 p × Between 1 99999999999999 x → ⊥)
      (line 12 (ActiveAt v.points p → ⊥)
      (line 24 (Present v.versions p x → ⊥)
      end)))
  table (closes r d) =
      line 1 Unopened
      (line 3 (((r ≡ 1) ⊎ (r ≡ 2)) × (d ≤ 400) → ⊥)
      (line 5 (d < v.frame.day.0)
      (line 27 (((r ≡ 1) × (d ≤ v.frame.opening.clearing.0)) ⊎ ((r ≡ 2) × (d ≤ v.frame.opening.correction.0)))
      (line 28 (Set r v.frame.closed)
      (line 29 ((r ≡ 2) × (v.frame.closed.first ≡ false))
      end)))))
  table (issues r d) =
      line 1 Unopened
      (line 3 (((r ≡ 1) ⊎ (r ≡ 2)) × (d ≤ 400) → ⊥)
      (line 5 (d < v.frame.day.0)
      (line 38 (Unset r v.frame.closed)
      (line 39 (Set r v.frame.issued)
      end))))
  table (lodges g d es) =
      line 1 Unopened
      (line 2 OtherSchedules
      (line 3 (LodgeIn g d v.frame.opening.quarters es → ⊥)
      (line 5 (d < v.frame.day.0)
      (line 26 (v.frame.opening.clearing.0 < d)
      end))))
  table (reports r g) =
      line 1 Unopened
      (line 2 (OtherSchedules ⊎ OtherBook)
      (line 3 (((r ≡ 1) ⊎ (r ≡ 2)) × Between 1 64 g → ⊥)
      end))

-- "(all but open)"
abbrev pub all_but_open : Call → Type 0 → Table → Table
all_but_open (opens q f c k gs) P t = t
all_but_open (activates p k a b d) P t = line 1 P t
all_but_open (deactivates p d) P t = line 1 P t
all_but_open (submits p x d es) P t = line 1 P t
all_but_open (notices p x y d) P t = line 1 P t
all_but_open (assigns a g d) P t = line 1 P t
all_but_open (shows r g) P t = line 1 P t
all_but_open (asks p x) P t = line 1 P t
all_but_open (closes r d) P t = line 1 P t
all_but_open (issues r d) P t = line 1 P t
all_but_open (lodges g d es) P t = line 1 P t
all_but_open (reports r g) P t = line 1 P t

-- the table on a desk in any state
abbrev pub desk_table : Desk → Lengths → Call → Table
desk_table d n c = all_but_open c (Within d → ⊥) (table (view_of d) n c)

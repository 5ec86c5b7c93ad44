-- The pick of a version: the highest of those that pass a test, and what a run selects for a point.
use Rattle.std.specs.Prelude.{ℕ, ◌≤◌, ◌<◌, ◌≡◌, Bool, true, false, cond, ◌&&◌, List, leb, ltb, eqb, length}
use Rattle.quantity.specs.declared.Version.{Version}
use Rattle.state.specs.Status.{status_number, counts}
use Rattle.state.specs.Version.{is_at, record_at}
use Rattle.state.specs.Walk.{walk}
use Rattle.state.specs.declared.Status.{Status}
use Rattle.state.specs.declared.Status.TheVariants.{Check}
use Rattle.state.specs.declared.VersionRecord.{VersionRecord}
use Rattle.state.specs.declared.VersionRow.{VersionRow}
use Rattle.state.specs.declared.Selection.{Selection}
use Rattle.state.specs.declared.Selection.TheVariants.{None, Selected}

-- a record as a row of the version table: its index, its number, its row of values, its status ("gives its status along with it")
abbrev pub row_at : (at : ℕ) → VersionRecord → VersionRow
row_at i v = record { at = i; version = v.version; row = v.row; status = v.status }

-- a version beside the highest so far: of equal ones, which only a dishonest table has, the first stays
abbrev pub raise : Selection → VersionRow → Selection
raise None r = Selected r
raise (Selected s) r = cond (ltb s.version.0 r.version.0) (Selected r) (Selected s)

-- a version beside the highest so far, where no record of its number stands before its own: of equal ones it is the first
abbrev pub raise_earlier : Selection → VersionRow → Selection
raise_earlier None r = Selected r
raise_earlier (Selected s) r = cond (leb s.version.0 r.version.0) (Selected r) (Selected s)

-- a record that passes the test is put beside it
abbrev pub raise_if : (VersionRecord → Bool) → Selection → (at : ℕ) → VersionRecord → Selection
raise_if f s i v = cond (f v) (raise s (row_at i v)) s

-- the highest version of those that pass the test
unfoldable pub best : (VersionRecord → Bool) → List VersionRecord → Selection
best f vs = walk (raise_if f) None 0 vs

-- whether there is one
abbrev pub is_selected : Selection → Bool
is_selected None = false
is_selected (Selected r) = true

-- the number of the version, 0 without one
abbrev pub version_of : Selection → ℕ
version_of None = 0
version_of (Selected r) = r.version.0

-- the number of its status, 0 without one
abbrev pub status_of : Selection → ℕ
status_of None = 0
status_of (Selected r) = status_number r.status

-- "the point's highest", 0 without a version
abbrev pub highest : (point : ℕ) → List VersionRecord → ℕ
highest p vs = version_of (best (is_at p) vs)

-- the number without a version
abbrev pub no_version : Version
no_version = record { 0 = 0 }

-- the higher of two versions, where the second counts
abbrev pub higher_of : (top : Version) → Bool → (version : Version) → Version
higher_of t c n = cond (c && ltb t.0 n.0) n t

-- a version of the point whose status counts in the run
abbrev pub is_counted : (run point : ℕ) → VersionRecord → Bool
is_counted run p v = is_at p v && counts run v.status

-- "the highest version of status 2 or 3"; for run 2 "the highest of status 4 or 5 (its own)"
abbrev pub own : (run point : ℕ) → List VersionRecord → Selection
own run p vs = best (is_counted run p) vs

-- the first selection, and without one the second
abbrev pub or_else : Selection → Selection → Selection
or_else None t = t
or_else (Selected r) t = Selected r

-- the same selection with another status
abbrev pub with_status : Status → Selection → Selection
with_status t None = None
with_status t (Selected r) = Selected (record { at = r.at; version = r.version; row = r.row; status = t })

-- the same version, with perhaps another status
abbrev pub SameVersion : Selection → Selection → Type 0
SameVersion s t = with_status Check s ≡ with_status Check t

-- a run's selection, of run 1's and run 2's own: "Run 2 selects the highest of status 4 or 5 (its own), and without one what run 1 selects."
abbrev pub in_run : (run : ℕ) → (first second : Selection) → Selection
in_run run s t = cond (eqb run 1) s (or_else t s)

-- the selection of a run for a point
abbrev pub selected : (run point : ℕ) → List VersionRecord → Selection
selected run p vs = in_run run (own 1 p vs) (own 2 p vs)

-- "The lookup of a point's selected version for a run gives its status along with it": what it tells of a version of the point stands in the
-- version's record
pub record Tells (p : ℕ) (vs : List VersionRecord) (r : VersionRow) : Type 0 where
  pub within : r.at < length vs
  pub point : (record_at vs r.at).point.0 ≡ p
  pub version : (record_at vs r.at).version ≡ r.version
  pub row : (record_at vs r.at).row ≡ r.row
  pub status : (record_at vs r.at).status ≡ r.status

-- what a row of the version table is as the highest among the first n records: it stands there and passes the test, none that passes is
-- higher, and none before it is as high
pub record IsHighest (f : VersionRecord → Bool) (vs : List VersionRecord) (n : ℕ) (r : VersionRow) : Type 0 where
  pub within : r.at < n
  pub here : row_at r.at (record_at vs r.at) ≡ r
  pub passes : f (record_at vs r.at) ≡ true
  pub most : (j : ℕ) → j < n → f (record_at vs j) ≡ true → (record_at vs j).version.0 ≤ r.version.0
  pub first : (j : ℕ) → j < r.at → f (record_at vs j) ≡ true → (record_at vs j).version.0 < r.version.0

-- and without one none of them passes
abbrev pub Highest : (VersionRecord → Bool) → List VersionRecord → ℕ → Selection → Type 0
Highest f vs n None = (j : ℕ) → j < n → f (record_at vs j) ≡ false
Highest f vs n (Selected r) = IsHighest f vs n r

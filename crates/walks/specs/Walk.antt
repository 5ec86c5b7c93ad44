-- What the driver of the walks makes of a table of numbers, and what it writes.
use Rattle.std.specs.Prelude.{cond, List, [], ◌∷◌, ◌≡◌, ℕ, ◌+◌, ◌*◌, ◌<◌, ◌≤◌, length, get_or, set, take, Option, Some, None}
use Rattle.book.specs.Row.{splice}
use Rattle.state.specs.Selection.{version_of, status_of}
use Rattle.state.specs.Version.{record_at}
use Rattle.state.specs.declared.HeldVersion.{HeldVersion}
use Rattle.state.specs.declared.Selection.{Selection}
use Rattle.state.specs.declared.Selection.TheVariants.{None, Selected}
use Rattle.state.specs.declared.VersionRecord.{VersionRecord}
use Rattle.damage.specs.Record.{record_by}
use Rattle.checks.specs.Survey.{Surveyed, TestedIn}
use Rattle.checks.specs.declared.Survey.{Survey}
use Rattle.checks.specs.declared.Tested.{Tested}

-- the record of the four numbers from a place on: version, point, row, status
abbrev pub record_from : List ℕ → (at : ℕ) → VersionRecord
record_from t i = record_by (get_or t i 0) (get_or t (i + 1) 0) (get_or t (i + 2) 0) (get_or t (i + 3) 0)

-- a version table of them
pub record Made (table : List ℕ) (vs : List VersionRecord) : Type 0 where
  pub size : length vs ≡ 512
  pub each : (k : ℕ) → k < 512 → record_at vs k ≡ record_from table (4 * k)

-- 1 where the version was found
abbrev pub is_held : Option HeldVersion → ℕ
is_held None = 0
is_held (Some h) = 1

-- its index, 0 without it
abbrev pub held_at : Option HeldVersion → ℕ
held_at None = 0
held_at (Some h) = h.at

-- the index of a selection, 0 without one
abbrev pub selected_at : Selection → ℕ
selected_at None = 0
selected_at (Selected r) = r.at

-- the numbers of one walk
abbrev pub numbers_of : Survey → List ℕ
numbers_of s =
    is_held s.held ∷ held_at s.held ∷ s.highest.0 ∷ status_of s.first ∷ version_of s.first ∷ selected_at s.first ∷ status_of s.second ∷ version_of s.second ∷ selected_at s.second ∷ s.read ∷ []

-- those of both in the first places of an output, and whether all records held fit
abbrev pub walks_in : List ℕ → Survey → Tested → List ℕ
walks_in out s t = set (splice (splice out 0 10 (numbers_of s)) 10 10 (numbers_of t.survey)) 20 (cond t.fit 1 0)

-- an output in which the numbers of both walks over a table stand
pub record Walks (table : List ℕ) (count rows point version : ℕ) (before after : List ℕ) : Type 0 where
  pub versions : List VersionRecord
  pub made : Made table versions
  pub plain : Survey
  pub tested : Tested
  pub surveyed : Surveyed point version (take count versions) plain
  pub within : TestedIn rows point version (take count versions) tested
  pub written : after ≡ walks_in before plain tested

-- the same for any lengths: a table of another length, or an output too short, changes nothing
pub record Driven (table : List ℕ) (count rows point version : ℕ) (before after : List ℕ) : Type 0 where
  pub walks : length table ≡ 2048 → 21 ≤ length before → Walks table count rows point version before after
  pub other : (length table ≡ 2048 → ⊥) → after ≡ before
  pub short : length before < 21 → after ≡ before

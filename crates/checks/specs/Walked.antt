-- Document 02, Change 5, in its own numbers: what one walk over the version table gives.
use Rattle.std.specs.Prelude.{ℕ, ◌≤◌, ◌<◌, ◌≡◌, List, [], map, ◌⊎◌, length, Some, None}
use Rattle.quantity.specs.declared.Version.{Version}
use Rattle.state.specs.Version.{record_at, held_version}
use Rattle.state.specs.declared.VersionRecord.{VersionRecord}
use Rattle.model.specs.Agreement.{Chained, end, fresh}
use Rattle.model.specs.Call.{Stores, Lent, told}
use Rattle.model.specs.Laws.{submissions}
use Rattle.model.specs.Plain.{plain_end, versions_of}
use Rattle.model.specs.declared.Asks.{Asks}
use Rattle.checks.specs.Look.{Looked}
use Rattle.checks.specs.declared.Look.{Look}
use Rattle.checks.specs.declared.Survey.{Survey}

-- a record that is held, in a table of 512: it stands before the count
pub record Stands (table : List VersionRecord) (count at point version : ℕ) : Type 0 where
  pub held : at < count
  pub inside : at < 512
  pub of_point : (record_at table at).point.0 ≡ point
  pub numbered : (record_at table at).version.0 ≡ version

-- some record is such a one
pub record Somewhere (table : List VersionRecord) (count point version : ℕ) : Type 0 where
  pub at : ℕ
  pub stands : Stands table count at point version

-- "one pass is to give both, the highest as 0 without a version, for any table handed in. It also gives the number of records it read"
pub record Walked (table : List VersionRecord) (count point version : ℕ) (s : Survey) : Type 0 where
  -- "a present version"
  pub present : (i : ℕ) (v : VersionRecord) → s.held ≡ Some (held_version i v) → Stands table count i point version × (record_at table i ≡ v)
  pub absent : s.held ≡ None → (i : ℕ) → Stands table count i point version → ⊥
  -- "the point's highest": none is above it, and it is one of them, or 0
  pub highest : (i x : ℕ) → Stands table count i point x → x ≤ s.highest.0
  pub reached : Somewhere table count point s.highest.0 ⊎ (s.highest.0 ≡ 0)
  pub without : ((i x : ℕ) → Stands table count i point x → ⊥) → s.highest.0 ≡ 0
  -- "the number of records it read, never above 512": the count, 512 where it is above
  pub counted : count ≤ 512 → s.read ≡ count
  pub most : 512 ≤ count → s.read ≡ 512

-- the records read by a look of a call that asks for versions, after the calls of a list: "from a fresh desk on one for each version held", which are as
-- many as submissions were accepted before
pub record ReadsEach (l : List Lent) (k : Look) : Type 0 where
  pub each : k.survey.read ≡ length (versions_of (plain_end [] (map told l)))
  pub accepted : k.survey.read ≡ submissions (plain_end [] (map told l))
  pub most : k.survey.read ≤ 512

-- on every list under demand 3's premises
abbrev pub ReadsHeld : Type 0
ReadsHeld = (s : Stores) (l : List Lent) → Chained (fresh s) l → (a : Asks) (k : Look) (x : Version) → a.version ≡ Some x → Looked (end (fresh s) l).desk a k → ReadsEach l k

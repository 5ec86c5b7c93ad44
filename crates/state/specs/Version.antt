-- Version records: the tests on one, the one that a submission makes, and the version asked for in a table.
use Rattle.std.specs.Prelude.{ℕ, ◌<◌, ◌≡◌, Bool, true, false, cond, ◌&&◌, List, eqb, get_or, Option, Some, None}
use Rattle.state.specs.Status.{submitted_status}
use Rattle.state.specs.Walk.{walk}
use Rattle.state.specs.declared.Status.{Status}
use Rattle.state.specs.declared.Status.TheVariants.{Check}
use Rattle.state.specs.declared.VersionRecord.{VersionRecord}
use Rattle.state.specs.declared.HeldVersion.{HeldVersion}

-- a record that holds no version
abbrev pub empty_version : VersionRecord
empty_version = record { version = record { 0 = 0 }; point = record { 0 = 0 }; row = record { 0 = 0 }; status = Check }

-- what a submission makes: its point, its number, its row of values, "Status 2 if day ≤ F, else 1."
abbrev pub new_version : (first row point version day : ℕ) → VersionRecord
new_version f r p x d = record { version = record { 0 = x }; point = record { 0 = p }; row = record { 0 = r }; status = submitted_status f d }

-- the record with another status
abbrev pub restatus : Status → VersionRecord → VersionRecord
restatus s v = record { version = v.version; point = v.point; row = v.row; status = s }

-- a version of the point
abbrev pub is_at : (point : ℕ) → VersionRecord → Bool
is_at p v = eqb v.point.0 p

-- this version of the point
abbrev pub is_version : (point version : ℕ) → VersionRecord → Bool
is_version p x v = is_at p v && eqb v.version.0 x

-- the record at an index
abbrev pub record_at : List VersionRecord → (at : ℕ) → VersionRecord
record_at vs i = get_or vs i empty_version

-- a version that was asked for: where it stands, and its record
abbrev pub held_version : (at : ℕ) → VersionRecord → HeldVersion
held_version i v = record { at = i; «record» = v }

-- of two records of one version, which only a dishonest table has, the first answers
abbrev pub or_held : (point version : ℕ) → Option HeldVersion → (at : ℕ) → VersionRecord → Option HeldVersion
or_held p x None i v = cond (is_version p x v) (Some (held_version i v)) None
or_held p x (Some h) i v = Some (held_version h.at h.record)

-- "no such version", or where it stands and its record
unfoldable pub held : (point version : ℕ) → List VersionRecord → Option HeldVersion
held p x vs = walk (or_held p x) None 0 vs

-- what a version found among the first n records is: the first record of that point and number
pub record IsHeld (point version : ℕ) (vs : List VersionRecord) (n at : ℕ) (v : VersionRecord) : Type 0 where
  pub within : at < n
  pub found : is_version point version (record_at vs at) ≡ true
  pub here : record_at vs at ≡ v
  pub first : (j : ℕ) → j < at → is_version point version (record_at vs j) ≡ false

-- and without one none of them has that point and number
abbrev pub HeldIn : (point version : ℕ) → List VersionRecord → ℕ → Option HeldVersion → Type 0
HeldIn p x vs n None = (j : ℕ) → j < n → is_version p x (record_at vs j) ≡ false
HeldIn p x vs n (Some h) = IsHeld p x vs n h.at h.record

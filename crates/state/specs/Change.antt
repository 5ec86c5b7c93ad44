-- What accepted calls make of the versions and of the desk.
use Rattle.std.specs.Prelude.{ℕ, ◌+◌, cond, ◌&&◌, List, [], ◌∷◌, ◌++◌, map, eqb, set, Option, Some, None}
use Rattle.state.specs.Desk.{versions_in, desk_with, the_versions}
use Rattle.state.specs.Selection.{own, version_of}
use Rattle.state.specs.Status.{counts, is_check, confirmed_status, settled_status}
use Rattle.state.specs.Version.{restatus, held}
use Rattle.state.specs.Walk.{map_first}
use Rattle.state.specs.declared.Desk.{Desk}
use Rattle.state.specs.declared.HeldVersion.{HeldVersion}
use Rattle.state.specs.declared.VersionRecord.{VersionRecord}

-- "Each submission makes a version that takes a row of values"
abbrev pub submitted : VersionRecord → List VersionRecord → List VersionRecord
submitted v vs = vs ++ (v ∷ [])

-- "Positive turns status 1 into 2 if day ≤ C, else 4. Negative changes no status.": of the version found
abbrev pub confirm : (clearing verdict day : ℕ) → Option HeldVersion → List VersionRecord → List VersionRecord
confirm c y d None vs = vs
confirm c y d (Some h) vs = cond (eqb y 1 && is_check h.record.status) (set vs h.at (restatus (confirmed_status c d) h.record)) vs

-- the same of the versions held
abbrev pub noticed : (clearing point version verdict day : ℕ) → List VersionRecord → List VersionRecord
noticed c p x y d vs = confirm c y d (held p x vs) vs

-- a record that counts in the run and has the number `top` gets the status of a settled one
abbrev pub settle_by : (run top : ℕ) → VersionRecord → VersionRecord
settle_by run top v = cond (counts run v.status && eqb v.version.0 top) (restatus (settled_status run) v) v

-- "Run 1: each selected version gets 3. Run 2: each own one gets 5."; document 02: "issue (sets status 3 or 5)": `top` is the highest version of the
-- record's point that counts
unfoldable pub settle : (run : ℕ) → List VersionRecord → VersionRecord → VersionRecord
settle run vs v = settle_by run (version_of (own run v.point.0 vs)) v

-- the same of all versions
abbrev pub settled_by : (run : ℕ) → List VersionRecord → List VersionRecord
settled_by run vs = map (settle run vs) vs

-- the desk with one version more
abbrev pub submitted_desk : Desk → VersionRecord → Desk
submitted_desk d v = desk_with d (the_versions (d.frame.count + 1) (set d.versions d.frame.count v))

-- the desk after a notice on the version found
abbrev pub noticed_desk : Desk → Option HeldVersion → (verdict day : ℕ) → Desk
noticed_desk d h y day = desk_with d (the_versions d.frame.count (confirm d.frame.opening.clearing.0 y day h d.versions))

-- the desk with its versions settled in a run
abbrev pub settled_desk : Desk → (run : ℕ) → Desk
settled_desk d run = desk_with d (the_versions d.frame.count (map_first d.frame.count (settle run (versions_in d)) d.versions))

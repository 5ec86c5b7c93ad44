-- Settling: what it is in the numbers of the statuses, and what its two passes hand over.
use Rattle.std.specs.Prelude.{ℕ, ◌-◌, ◌≡◌, true, List, length, get_or}
use Rattle.quantity.specs.Limits.{points, point_ok}
use Rattle.quantity.specs.Lists.{all}
use Rattle.quantity.specs.declared.Version.{Version}
use Rattle.state.specs.Selection.{no_version, own, version_of}
use Rattle.state.specs.Status.{status_number}
use Rattle.state.specs.Version.{record_at, restatus}
use Rattle.state.specs.declared.Selection.TheVariants.{Selected}
use Rattle.state.specs.declared.Status.TheVariants.{Check}
use Rattle.state.specs.declared.VersionRecord.{VersionRecord}
use Rattle.state.specs.declared.VersionRow.{VersionRow}

-- "Run 1: each selected version gets 3. Run 2: each own one gets 5."; document 02: "issue (sets status 3 or 5)". The selected ones get the status
-- `settled`, and the lookup tells it; one of neither status that the run counts (`status` and `settled`) stays, and so does one that has not the
-- number selected for its point; nothing but a status changes
pub record Settles (run status settled : ℕ) (vs ws : List VersionRecord) : Type 0 where
  pub size : length ws ≡ length vs
  pub picked : (p : ℕ) (r : VersionRow) → own run p vs ≡ Selected r → status_number (record_at ws r.at).status ≡ settled
  pub told : (p : ℕ) (r : VersionRow) → own run p ws ≡ Selected r → status_number r.status ≡ settled
  pub uncounted : (i : ℕ) → (status_number (record_at vs i).status ≡ status → ⊥) → (status_number (record_at vs i).status ≡ settled → ⊥) → record_at ws i ≡ record_at vs i
  pub lower : (i : ℕ) → ((record_at vs i).version.0 ≡ version_of (own run (record_at vs i).point.0 vs) → ⊥) → record_at ws i ≡ record_at vs i
  pub same : (i : ℕ) → restatus Check (record_at ws i) ≡ restatus Check (record_at vs i)

-- every version is of a point that there is
pub record PointsIn (vs : List VersionRecord) : Type 0 where
  pub each : all (λ (v : VersionRecord). point_ok v.point.0) vs ≡ true

-- point p's highest version that counts in the run, at index p - 1
pub record Tops (run : ℕ) (vs : List VersionRecord) (tops : List Version) : Type 0 where
  pub size : length tops ≡ points
  pub each : (p : ℕ) → point_ok p ≡ true → (get_or tops (p - 1) no_version).0 ≡ version_of (own run p vs)

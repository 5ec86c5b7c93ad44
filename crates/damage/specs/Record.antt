-- A version's record made of numbers that may be any.
use Rattle.std.specs.Prelude.{cond, ℕ, ◌%◌, eqb}
use Rattle.state.specs.declared.Status.{Status}
use Rattle.state.specs.declared.Status.TheVariants.{Check, Settlement, Settled, Correction, CorrectionSettled}
use Rattle.state.specs.declared.VersionRecord.{VersionRecord}

-- a status by its number; any other number is check data
unfoldable pub status_by : ℕ → Status
status_by n = cond (eqb n 2) Settlement (cond (eqb n 3) Settled (cond (eqb n 4) Correction (cond (eqb n 5) CorrectionSettled Check)))

-- a record by its four numbers: of a point and a row the two low bytes
abbrev pub record_by : (version point row status : ℕ) → VersionRecord
record_by x p r s = record { version = record { 0 = x }; point = record { 0 = p % 65536 }; row = record { 0 = r % 65536 }; status = status_by s }

-- The statuses of a version: their numbers, which run counts them, what calls make of them.
use Rattle.std.specs.Prelude.{ℕ, Bool, false, cond, leb, eqb}
use Rattle.state.specs.declared.Status.{Status}
use Rattle.state.specs.declared.Status.TheVariants.{Check, Settlement, Settled, Correction, CorrectionSettled}

-- "Status: 1 check data, 2 settlement data, 3 settled, 4 correction settlement data, 5 correction settled."
abbrev pub status_number : Status → ℕ
status_number Check = 1
status_number Settlement = 2
status_number Settled = 3
status_number Correction = 4
status_number CorrectionSettled = 5

-- "Run 1 selects for a point the highest version of status 2 or 3. Run 2 selects the highest of status 4 or 5 (its own)"
abbrev pub counts : (run : ℕ) → Status → Bool
counts run Check = false
counts run Settlement = eqb run 1
counts run Settled = eqb run 1
counts run Correction = eqb run 2
counts run CorrectionSettled = eqb run 2

-- "notice: status not 1"
abbrev pub is_check : Status → Bool
is_check s = eqb (status_number s) 1

-- a submission: "Status 2 if day ≤ F, else 1."
abbrev pub submitted_status : (first day : ℕ) → Status
submitted_status f d = cond (leb d f) Settlement Check

-- a notice: "Positive turns status 1 into 2 if day ≤ C, else 4."
abbrev pub confirmed_status : (clearing day : ℕ) → Status
confirmed_status c d = cond (leb d c) Settlement Correction

-- "Run 1: each selected version gets 3. Run 2: each own one gets 5."
abbrev pub settled_status : (run : ℕ) → Status
settled_status run = cond (eqb run 1) Settled CorrectionSettled

-- What an accepted show, report or status tells, in the papers' numbers, on each desk.
use Rattle.std.specs.Prelude.{ℕ, ◌+◌, ◌-◌, ◌*◌, ◌≤◌, ◌<◌, ◌≡◌, List, ℤ, pos, ◌-ℤ◌, length, get_or}
use Rattle.quantity.specs.Sum.{sum_to}
use Rattle.deviation.specs.Deviation.{larger}
use Rattle.state.specs.Version.{record_at}
use Rattle.state.specs.declared.Status.{Status}
use Rattle.state.specs.declared.Status.TheVariants.{Check, Settlement, Settled, Correction, CorrectionSettled}
use Rattle.state.specs.declared.VersionRecord.{VersionRecord}
use Rattle.model.specs.declared.Answer.{Answer}
use Rattle.model.specs.declared.Answer.TheVariants.{Refused}
use Rattle.model.specs.declared.Cause.{Cause}

-- a call is accepted where its answer is no refusal
abbrev pub IsAccepted : Answer → Type 0
IsAccepted a = (x : Cause) → a ≡ Refused x → ⊥

-- "run r, row k, quarter q at index ((r-1) × 81 + k) × Q + q-1. Rows 0..63 are groups 1..64": show's part has the Q numbers that stand there
pub record Shows (quarters run group : ℕ) (book part : List ℕ) : Type 0 where
  pub some : 1 ≤ quarters
  pub size : length part ≡ quarters
  pub within : ((run - 1) * 81 + (group - 1)) * quarters + quarters ≤ length book
  pub there : (n : ℕ) → 1 ≤ n → n ≤ quarters → get_or part (n - 1) 0 ≡ get_or book (((run - 1) * 81 + (group - 1)) * quarters + (n - 1)) 0

-- "show 0 and its group's Q figures": of this run
pub record PlainShows (quarters run group : ℕ) (figure : (run k quarter : ℕ) → ℤ) (row : List ℤ) : Type 0 where
  pub size : length row ≡ quarters
  pub there : (n : ℕ) → 1 ≤ n → n ≤ quarters → get_or row (n - 1) (pos 0) ≡ figure run (group - 1) (n - 1)

-- "the surplus is the larger of 0 and schedule minus figure, the shortfall the larger of 0 and figure minus schedule": of this run and group, summed
-- over the month
pub record PlainReports (quarters run group : ℕ) (schedule : (group quarter : ℕ) → ℤ) (figure : (run k quarter : ℕ) → ℤ) (more less : ℤ) : Type 0 where
  pub surplus : more ≡ sum_to quarters (λ (n : ℕ). larger (schedule group (n - 1) -ℤ figure run (group - 1) (n - 1)))
  pub shortfall : less ≡ sum_to quarters (λ (n : ℕ). larger (figure run (group - 1) (n - 1) -ℤ schedule group (n - 1)))

-- "Status: 1 check data, 2 settlement data, 3 settled, 4 correction settlement data, 5 correction settled."
abbrev pub HasNumber : Status → ℕ → Type 0
HasNumber Check n = n ≡ 1
HasNumber Settlement n = n ≡ 2
HasNumber Settled n = n ≡ 3
HasNumber Correction n = n ≡ 4
HasNumber CorrectionSettled n = n ≡ 5

-- "status gets the version's status": that of the record with this point and version among those held; of two, which only a dishonest table has, of
-- the first
pub record TellsStatus (point version count : ℕ) (vs : List VersionRecord) (answer : ℕ) : Type 0 where
  pub at : ℕ
  pub within : at < count
  pub of_point : (record_at vs at).point.0 ≡ point
  pub numbered : (record_at vs at).version.0 ≡ version
  pub first : (j : ℕ) → j < at → (record_at vs j).point.0 ≡ point → (record_at vs j).version.0 ≡ version → ⊥
  pub number : HasNumber (record_at vs at).status answer

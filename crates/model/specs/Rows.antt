-- The log rows that calls add, in the papers' numbers.
use Rattle.std.specs.Prelude.{ℕ, ◌+◌, ◌*◌, ◌≤◌, ◌<◌, ◌≡◌, cond, List, [], ◌∷◌, leb, eqb, length, get_or}
use Rattle.model.specs.Call.{Call, opens, activates, deactivates, submits, notices, assigns, shows, asks, closes, issues, lodges, reports}

-- "day, point, run, new version": an accepted submission's up to day F, since its version then counts in run 1, and an accepted positive notice's, up
-- to day C of run 1 and after it of run 2; no other call adds a row
abbrev pub row_by : (first clearing : ℕ) → Call → List ℕ
row_by f c (opens q g d k gs) = []
row_by f c (activates p k a b d) = []
row_by f c (deactivates p d) = []
row_by f c (submits p x d es) = cond (leb d f) (d ∷ p ∷ 1 ∷ x ∷ []) []
row_by f c (notices p x y d) = cond (eqb y 1) (d ∷ p ∷ cond (leb d c) 1 2 ∷ x ∷ []) []
row_by f c (assigns a g d) = []
row_by f c (shows r g) = []
row_by f c (asks p x) = []
row_by f c (closes r d) = []
row_by f c (issues r d) = []
row_by f c (lodges g d es) = []
row_by f c (reports r g) = []

-- the log gains a row of four numbers, or none: the row stands behind those used, and is used then; every other number of the log is as it was
pub record Gains (row : List ℕ) (used used_then : ℕ) (log log_then : List ℕ) : Type 0 where
  pub within : (i : ℕ) → i < length row → 4 * used + i < length log
  pub size : length log_then ≡ length log
  pub earlier : (i : ℕ) → i < 4 * used → get_or log_then i 0 ≡ get_or log i 0
  pub there : (i : ℕ) → i < length row → get_or log_then (4 * used + i) 0 ≡ get_or row i 0
  pub behind : (i : ℕ) → 4 * used + length row ≤ i → get_or log_then i 0 ≡ get_or log i 0
  pub counted : 4 * used_then ≡ 4 * used + length row

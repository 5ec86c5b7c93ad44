-- A whole file through a fresh desk, as plain numbers and slices.
use Rattle.std.specs.Prelude.{ℕ, ◌+◌, ◌*◌, ◌≡◌, Bool, true, false, ◌&&◌, List, [], ◌∷◌, ◌++◌, leb, length}
use Rattle.quantity.specs.Limits.{runs, deltas}
use Rattle.state.specs.declared.PerRun.{PerRun}
use Rattle.replay.specs.Given.{Given}
use Rattle.message.specs.Cause.{cause_number}
use Rattle.message.specs.File.{calls_in}
use Rattle.message.specs.declared.FileCause.TheVariants.{NoRoom}
use Rattle.model.specs.Call.{Stores, Told}
use Rattle.model.specs.Plain.{opening_of, day_of, points_of, groups_of, versions_of, log_of, closed_of, issued_of, plain_replies, plain_end}
use Rattle.replay.specs.Replay.{calls_for, ending_of, told_of, numbers_of, over, Gives}
use Rattle.replay.specs.declared.Ending.{Ending}
use Rattle.replay.specs.declared.Ending.TheVariants.{End, Refused, Full}
use Rattle.summary.specs.Table.{points_places, versions_places, point_table, version_table, refusals, first_refused, flag_number}

-- 0, or the number of the first refusal; 35 too where the answers are full ("output too short")
abbrev pub ending_number : Ending → ℕ
ending_number End = 0
ending_number (Refused x at) = cause_number x
ending_number Full = cause_number NoRoom

-- "its offset or, without one, the file's length"; 0 where the answers are full
abbrev pub ending_offset : (length : ℕ) → Ending → ℕ
ending_offset n End = n
ending_offset n (Refused x at) = at
ending_offset n Full = 0

-- the places that are lent for what a replay tells: its summary, the points, the versions
pub record Places : Type 0 where
  pub summary : List ℕ
  pub points : List ℕ
  pub versions : List ℕ

-- the same of its parts
abbrev pub places_of : (summary points versions : List ℕ) → Places
places_of r p v = record { summary = r; points = p; versions = v }

-- how many numbers of a summary stand before the delta groups
abbrev pub summary_numbers : ℕ
summary_numbers = 12

-- how many numbers a summary has: those, and the delta groups of each run
abbrev pub summary_places : ℕ
summary_places = summary_numbers + runs * deltas

-- whether there are places enough: for a summary, for every point and for every version that a desk can hold
abbrev pub fits : (summary points versions : ℕ) → Bool
fits r p v = leb summary_places r && (leb points_places p && leb versions_places v)

-- the same of the places lent
abbrev pub fitting : Places → Bool
fitting p = fits (length p.summary) (length p.points) (length p.versions)

-- how many calls are answered, the offset, Q (0: not open), log rows used, versions held, how many calls are refused, which is the first, the
-- desk's day, whether run 1 is closed and whether run 2 is, whether run 1 is issued and whether run 2 is
abbrev pub numbered : (answered offset quarters used held refused first day : ℕ) (closed issued : PerRun Bool) → List ℕ
numbered answered offset quarters used held refused first day closed issued =
    answered ∷ offset ∷ quarters ∷ used ∷ held ∷ refused ∷ first ∷ day ∷ flag_number closed.first ∷ flag_number closed.second ∷ flag_number issued.first ∷ flag_number issued.second ∷ []

-- behind them the delta groups of run 1, T's and those of areas 1 to 16, then those of run 2
abbrev pub listed : (answered offset quarters used held refused first day : ℕ) (closed issued : PerRun Bool) → PerRun (List ℕ) → List ℕ
listed answered offset quarters used held refused first day closed issued gs =
    numbered answered offset quarters used held refused first day closed issued ++ (gs.first ++ gs.second)

-- the summary on a file of so many bytes, with the plain desk's answers and its list
abbrev pub summary_of : (length answered : ℕ) → Ending → (answers : List ℕ) → List Told → List ℕ
summary_of n answered e answers h =
    listed answered (ending_offset n e) (opening_of h).quarters (length (log_of h)) (length (versions_of h)) (refusals answers) (first_refused 1 answers) (day_of h) (closed_of h) (issued_of h) (groups_of h)

-- a file that is run
pub record Ran (file : List ℕ) (cs : List Given) (e : Ending) (s : Stores) (buffer output : List ℕ) (p : Places) (number : ℕ) (after : Stores) (buffer' output' : List ℕ) (p' : Places) : Type 0 where
  pub answer : number ≡ ending_number e
  pub summary : p'.summary ≡ over (summary_of (length file) (length cs) e (numbers_of (plain_replies [] (told_of s cs))) (plain_end [] (told_of s cs))) p.summary
  pub points : p'.points ≡ over (point_table (points_of (plain_end [] (told_of s cs))) (versions_of (plain_end [] (told_of s cs)))) p.points
  pub versions : p'.versions ≡ over (version_table (versions_of (plain_end [] (told_of s cs)))) p.versions
  pub gives : Gives cs s buffer output after buffer' output'

-- 2, as for a store of another length: places are too few, and nothing changes
pub record Kept (number : ℕ) (s after : Stores) (buffer buffer' output output' : List ℕ) (p p' : Places) : Type 0 where
  pub answer : number ≡ 2
  pub stores : after ≡ s
  pub series : buffer' ≡ buffer
  pub answers : output' ≡ output
  pub places : p' ≡ p

-- either, by the places lent
pub record Summarised (file : List ℕ) (s : Stores) (buffer output : List ℕ) (p : Places) (number : ℕ) (after : Stores) (buffer' output' : List ℕ) (p' : Places) : Type 0 where
  pub short : fitting p ≡ false → Kept number s after buffer buffer' output output' p p'
  pub runs : fitting p ≡ true → Ran file (calls_for file (length buffer) (length output)) (ending_of (length file) (length output) (calls_in (length buffer) file)) s buffer output p number after buffer' output' p'

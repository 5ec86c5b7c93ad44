-- The sample month goes on, with corrections: what a desk is to say, whichever desk it is. A second version counts in run 1, others in run 2 alone, an area
-- names another group for its correction, and both runs are closed and issued. P1 to P12 stand in Sample.antt.
use Rattle.std.specs.Prelude.{ℕ, ◌≡◌, List, [], ◌∷◌, ◌++◌, map, ℤ, pos, negsuc}
use Rattle.state.specs.Selection.{selected, version_of, status_of}
use Rattle.model.specs.Call.{Call, submits, notices, assigns, shows, asks, closes, issues, answer_number}
use Rattle.model.specs.Sample.{Account, month, two, total}

-- a call, the number of its answer, and the row that it shows
pub record Entry : Type 0 where
  pub call : Call
  pub number : ℕ
  pub row : List ℤ

-- one that shows nothing
abbrev pub gets : (number : ℕ) → Call → Entry
gets n c = record { call = c; number = n; row = [] }

-- "show 0 and its group's Q figures"
abbrev pub showing : (run group : ℕ) → (first second : ℤ) → Entry
showing r g a b = record { call = shows r g; number = 0; row = two a b }

-- the month of P1 to P4, and then: a version on day F counts in run 1, one noticed on day C too; one noticed on C + 1 counts in run 2 alone, and one with
-- a negative notice in neither
unfoldable pub delivered : List Entry
delivered =
    map (gets 0) month
    ++ (gets 0 (submits 1 2 10 (two (pos 95000) (pos 85000)))
    ∷ gets 2 (asks 1 2)
    ∷ gets 0 (submits 2 2 11 (two (pos 31000) (pos 20500)))
    ∷ gets 0 (submits 3 2 12 (two (pos 52000) (pos 44000)))
    ∷ gets 0 (submits 4 2 12 (two (pos 9100) (pos 7900)))
    ∷ gets 1 (asks 2 2)
    ∷ gets 0 (notices 2 2 1 30)
    ∷ gets 2 (asks 2 2)
    ∷ gets 0 (notices 3 2 1 31)
    ∷ gets 0 (notices 4 2 0 31)
    ∷ gets 4 (asks 3 2)
    ∷ gets 1 (asks 4 2)
    ∷ showing 1 5 (pos 50000) (pos 45000)
    ∷ showing 2 5 (pos 52000) (pos 44000)
    ∷ [])

-- a correction of the exchange with the outside counts in run 2 alone, and so does area 1's other group after C
unfoldable pub corrected : List Entry
corrected =
    delivered
    ++ (gets 0 (submits 1 3 32 (two (pos 104000) (pos 79000)))
    ∷ gets 0 (notices 1 3 1 40)
    ∷ showing 1 1 (pos 5000) (pos 11500)
    ∷ showing 2 1 (pos 12000) (pos 6500)
    ∷ gets 0 (assigns 1 7 41)
    ∷ showing 1 1 (pos 5000) (pos 11500)
    ∷ showing 2 1 (pos 0) (pos 0)
    ∷ showing 1 7 (pos 0) (pos 0)
    ∷ showing 2 7 (pos 12000) (pos 6500)
    ∷ [])

-- a close changes no status; an issue of run 1 sets 3, one of run 2 sets 5, and what neither selects keeps its own
unfoldable pub issued : List Entry
issued =
    corrected
    ++ (gets 0 (closes 1 42)
    ∷ gets 2 (asks 1 2)
    ∷ gets 0 (issues 1 43)
    ∷ gets 2 (asks 1 1)
    ∷ gets 3 (asks 1 2)
    ∷ gets 4 (asks 1 3)
    ∷ gets 3 (asks 3 1)
    ∷ gets 1 (asks 4 2)
    ∷ gets 0 (closes 2 151)
    ∷ gets 4 (asks 1 3)
    ∷ gets 0 (issues 2 152)
    ∷ gets 2 (asks 1 1)
    ∷ gets 3 (asks 1 2)
    ∷ gets 5 (asks 1 3)
    ∷ gets 3 (asks 2 2)
    ∷ gets 3 (asks 3 1)
    ∷ gets 5 (asks 3 2)
    ∷ gets 1 (asks 4 2)
    ∷ [])

-- the calls of entries
abbrev pub calls_of : List Entry → List Call
calls_of l = map (λ (e : Entry). e.call) l

-- both quarter hours of a row in a run, at the end
abbrev pub Booked : Account → (run k : ℕ) → (first second : ℤ) → Type 0
Booked d run k a b = (d.figures (calls_of issued) run k 0 ≡ a) × (d.figures (calls_of issued) run k 1 ≡ b)

-- both runs
abbrev pub BothBooked : Account → (k : ℕ) → (first second : ℤ) → Type 0
BothBooked d k a b = Booked d 1 k a b × Booked d 2 k a b

-- the sum of the 64 groups
abbrev pub Totalled : Account → (run : ℕ) → (first second : ℤ) → Type 0
Totalled d run a b = (total d (calls_of issued) run 0 ≡ a) × (total d (calls_of issued) run 1 ≡ b)

-- "S run point version status"
abbrev pub Selects : Account → (run point version status : ℕ) → Type 0
Selects d run p x s = let v = selected run p (d.versions (calls_of issued)) in (version_of v ≡ x) × (status_of v ≡ s)

-- "day, point, run, new version"
abbrev pub log_row : (day point run version : ℕ) → List ℕ
log_row d p r x = d ∷ p ∷ r ∷ x ∷ []

-- what a desk says of it
pub record Corrected (d : Account) : Type 0 where
  -- each answer, and each row shown
  pub answers : map answer_number (d.answers (calls_of issued)) ≡ map (λ (e : Entry). e.number) issued
  pub rows : d.rows (calls_of issued) ≡ map (λ (e : Entry). e.row) issued
  -- a row for each change of run 1's selection or run 2's own, and for nothing else
  pub log : d.log (calls_of issued)
      ≡ log_row 2 1 1 1 ++ log_row 2 2 1 1 ++ log_row 2 3 1 1 ++ log_row 2 4 1 1 ++ log_row 2 5 1 1 ++ log_row 2 6 1 1 ++ log_row 10 1 1 2 ++ log_row 30 2 1 2 ++ log_row 31 3 2 2 ++ log_row 40 1 2 3
  -- run 1: the exchange of day F, and the one noticed on day C
  pub delta1 : Booked d 1 65 (pos 5000) (pos 11500)
  pub group1 : Booked d 1 0 (pos 5000) (pos 11500)
  pub group5 : Booked d 1 4 (pos 50000) (pos 45000)
  pub group7 : Booked d 1 6 (pos 0) (pos 0)
  -- run 2: both corrections, and run 1's where it has none
  pub delta1_corrected : Booked d 2 65 (pos 12000) (pos 6500)
  pub group1_corrected : Booked d 2 0 (pos 0) (pos 0)
  pub group5_corrected : Booked d 2 4 (pos 52000) (pos 44000)
  pub group7_corrected : Booked d 2 6 (pos 12000) (pos 6500)
  -- in both: the exchange between areas is the one of day C on both its sides; delta T has no correction
  pub delta2 : BothBooked d 66 (pos 31200) (pos 20400)
  pub group2 : BothBooked d 1 (pos 31200) (pos 20400)
  pub delta_t : BothBooked d 64 (pos 300) (negsuc 99)
  -- "S 1 1 2 3", "S 1 2 2 3", "S 1 3 1 3", "S 1 4 1 3"; "S 2 1 3 5", "S 2 2 2 3", "S 2 3 2 5", "S 2 4 1 3"
  pub selects : Selects d 1 1 2 3 × (Selects d 1 2 2 3 × (Selects d 1 3 1 3 × Selects d 1 4 1 3))
  pub selects_corrected : Selects d 2 1 3 5 × (Selects d 2 2 2 3 × (Selects d 2 3 2 5 × Selects d 2 4 1 3))

-- the totals of both runs: "the 64 group figures add up to the outside exchange"
pub record CorrectedTotals (d : Account) : Type 0 where
  pub total1 : Totalled d 1 (pos 95000) (pos 85000)
  pub total2 : Totalled d 2 (pos 104000) (pos 79000)

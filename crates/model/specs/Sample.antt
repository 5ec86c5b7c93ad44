-- "Sample month (P: to be proved)" and the example file: what a desk is to say, whichever desk it is.
use Rattle.std.specs.Prelude.{ℕ, ◌*◌, ◌≡◌, List, [], ◌∷◌, ◌++◌, map, ℤ, pos, negsuc, length, get_or, take, replicate}
use Rattle.quantity.specs.Limits.{groups, book_rows, schedule_rows}
use Rattle.quantity.specs.Sum.{sum_to}
use Rattle.book.specs.Place.{group_row}
use Rattle.message.specs.File.{verdict_of, refusal_of, offset_of}
use Rattle.state.specs.Desk.{versions_in}
use Rattle.state.specs.declared.Status.TheVariants.{Check, Settlement, Correction}
use Rattle.model.specs.Agreement.{replies, end, fresh, book_figure, lend}
use Rattle.model.specs.Call.{Call, opens, activates, submits, notices, asks, Stores, Lengths, telling, answer_number, Reply}
use Rattle.state.specs.declared.VersionRecord.{VersionRecord}
use Rattle.model.specs.Log.{log_numbers}
use Rattle.model.specs.Plain.{plain_replies, plain_end, versions_of, log_of, figure}
use Rattle.model.specs.declared.Answer.{Answer}
use Rattle.model.specs.declared.Answer.TheVariants.{Accepted, HasStatus, Refused}
use Rattle.model.specs.declared.Cause.TheVariants.{BadField, AfterCorrection, TooEarly}

-- what a desk says of calls from its opening on: its answer to each and the row shown, and then each figure, the log rows and the versions
pub record Account : Type 0 where
  pub answers : List Call → List Answer
  pub rows : List Call → List (List ℤ)
  pub figures : List Call → (run k quarter : ℕ) → ℤ
  pub log : List Call → List ℕ
  pub versions : List Call → List VersionRecord

-- the plain desk, with stores of these lengths
abbrev pub plain_desk : Lengths → Account
plain_desk n =
    record {
      answers = λ l. map (λ (r : Reply). r.answer) (plain_replies [] (map (telling n) l));
      rows = λ l. map (λ (r : Reply). r.row) (plain_replies [] (map (telling n) l));
      figures = λ l. figure (plain_end [] (map (telling n) l));
      log = λ l. log_numbers (log_of (plain_end [] (map (telling n) l)));
      versions = λ l. versions_of (plain_end [] (map (telling n) l));
    }

-- the running desk, each call lent the stores as the last one left them
abbrev pub running_desk : Stores → Account
running_desk s =
    record {
      answers = λ l. map (λ (r : Reply). r.answer) (replies (fresh s) (lend (fresh s) l));
      rows = λ l. map (λ (r : Reply). r.row) (replies (fresh s) (lend (fresh s) l));
      figures = λ l. book_figure (end (fresh s) (lend (fresh s) l));
      log = λ l. let r = end (fresh s) (lend (fresh s) l) in take (4 * r.desk.frame.used) r.stores.log;
      versions = λ l. versions_in (end (fresh s) (lend (fresh s) l)).desk;
    }

-- the stores of the desk program: "4,096 values, 162 × Q book, 512 log rows"
abbrev pub room : (quarters : ℕ) → Lengths
room q = record { values = 4096; book = book_rows * q; log = 2048; schedules = schedule_rows * q }

-- "delta groups T 4, area 1: 1, area 2: 2, others 3"
abbrev pub delta_groups : List ℕ
delta_groups = 4 ∷ 1 ∷ 2 ∷ replicate 14 3

-- "Q 2, F 10, C 30, K 150"; "Points activated on day 0": exchange 1 from 0; exchange 2 from 1; kind 2 area 1 group 5; kind 3 area 1; kind 4
-- group 6; kind 5 area 2
unfoldable pub activations : List Call
activations =
    opens 2 10 30 150 delta_groups
    ∷ activates 1 1 1 0 0
    ∷ activates 2 1 2 1 0
    ∷ activates 3 2 1 5 0
    ∷ activates 4 3 1 0 0
    ∷ activates 5 4 0 6 0
    ∷ activates 6 5 2 0 0
    ∷ []

-- "submitted day 2: exchange 1 from 0: 100000, 80000; exchange 2 from 1: 30000, 20000; kind 2 area 1 group 5: 50000, 45000; kind 3 area 1:
-- 9000, 8000; kind 4 group 6: 8500, 8200; kind 5 area 2: 200, -100."
unfoldable pub month : List Call
month =
    activations
    ++ (submits 1 1 2 (pos 100000 ∷ pos 80000 ∷ [])
    ∷ submits 2 1 2 (pos 30000 ∷ pos 20000 ∷ [])
    ∷ submits 3 1 2 (pos 50000 ∷ pos 45000 ∷ [])
    ∷ submits 4 1 2 (pos 9000 ∷ pos 8000 ∷ [])
    ∷ submits 5 1 2 (pos 8500 ∷ pos 8200 ∷ [])
    ∷ submits 6 1 2 (pos 200 ∷ negsuc 99 ∷ [])
    ∷ [])

-- a series of two quarter hours
abbrev pub two : (first second : ℤ) → List ℤ
two a b = a ∷ b ∷ []

-- the calls after the month: a new highest version submitted on a day
abbrev pub later : (day : ℕ) → List Call
later d = month ++ (submits 1 2 d (two (pos 70000) (pos 60000)) ∷ [])

-- and a positive notice on it
abbrev pub confirmed : (submitted noticed : ℕ) → List Call
confirmed d e = later d ++ (notices 1 2 1 e ∷ [])

-- the answer to a call after others, with its number
pub record Says (d : Account) (l : List Call) (c : Call) (a : Answer) (n : ℕ) : Type 0 where
  pub answer : get_or (d.answers (l ++ (c ∷ []))) (length l) Accepted ≡ a
  pub number : answer_number a ≡ n

-- both quarter hours of a row, in a run
abbrev pub RowIs : Account → (run k : ℕ) → (first second : ℤ) → Type 0
RowIs d run k a b = (d.figures month run k 0 ≡ a) × (d.figures month run k 1 ≡ b)

-- in both runs; "Rows 0..63 are groups 1..64, row 64 delta T, rows 65..80 areas 1..16."
abbrev pub BothRows : Account → (k : ℕ) → (first second : ℤ) → Type 0
BothRows d k a b = RowIs d 1 k a b × RowIs d 2 k a b

-- the sum of the 64 groups in a quarter hour
abbrev pub total : Account → List Call → (run quarter : ℕ) → ℤ
total d l run q = sum_to groups (λ (g : ℕ). d.figures l run (group_row g) q)

-- both quarter hours of it, in a run
abbrev pub TotalIs : Account → (run : ℕ) → (first second : ℤ) → Type 0
TotalIs d run a b = (total d month run 0 ≡ a) × (total d month run 1 ≡ b)

-- P1 to P12, the figures in both runs
pub record Sample (d : Account) : Type 0 where
  -- each call of the month is accepted
  pub taken : d.answers month ≡ replicate 13 Accepted
  -- "P1 delta 1 is 11000, 7000. P2 delta 2 is 30200, 19900. P3 delta T is 300, -100. P4 totals 100000, 80000."
  pub p1 : BothRows d 65 (pos 11000) (pos 7000)
  pub p2 : BothRows d 66 (pos 30200) (pos 19900)
  pub p3 : BothRows d 64 (pos 300) (negsuc 99)
  pub p4 : TotalIs d 1 (pos 100000) (pos 80000) × TotalIs d 2 (pos 100000) (pos 80000)
  -- the groups: 5 and 6 have their sums, 1, 2 and 4 the deltas of area 1, area 2 and T, and 3 those of areas without a series
  pub group5 : BothRows d 4 (pos 50000) (pos 45000)
  pub group6 : BothRows d 5 (pos 8500) (pos 8200)
  pub group1 : BothRows d 0 (pos 11000) (pos 7000)
  pub group2 : BothRows d 1 (pos 30200) (pos 19900)
  pub group4 : BothRows d 3 (pos 300) (negsuc 99)
  pub group3 : BothRows d 2 (pos 0) (pos 0)
  -- "P5 a new highest version submitted on day 10 has status 2; P6 on day 11 status 1."
  pub p5 : Says d (later 10) (asks 1 2) (HasStatus Settlement) 2
  pub p6 : Says d (later 11) (asks 1 2) (HasStatus Check) 1
  -- "P7 a positive notice on that of P6 on day 30 gives 2; P8 on day 31 instead gives 4."
  pub p7 : Says d (confirmed 11 30) (asks 1 2) (HasStatus Settlement) 2
  pub p8 : Says d (confirmed 11 31) (asks 1 2) (HasStatus Correction) 4
  -- "P9 a submit on day 1, straight after the activations and before any submission: 13. P10 a submit on day 151: 11, even on a free point."
  pub p9 : Says d activations (submits 1 1 1 (two (pos 1) (pos 1))) (Refused TooEarly) 13
  pub p10 : Says d month (submits 1 2 151 (two (pos 1) (pos 1))) (Refused AfterCorrection) 11
      × Says d month (submits 200 2 151 (two (pos 1) (pos 1))) (Refused AfterCorrection) 11
  -- "P11 a submitted energy 10^12 is taken, 10^12+1 is 3."
  pub p11 : Says d month (submits 1 2 10 (two (pos 1000000000000) (negsuc 999999999999))) Accepted 0
      × Says d month (submits 1 2 10 (two (pos 1) (pos 1000000000001))) (Refused BadField) 3
  -- "P12 a file `80 00` is 32 at offset 0.": of any desk, since the reader stands before it
  pub p12 : (refusal_of (verdict_of (128 ∷ 0 ∷ [])) ≡ 32) × (offset_of (verdict_of (128 ∷ 0 ∷ [])) ≡ 0)

-- the example file's calls: open, activate, submit, submit again
unfoldable pub file : List Call
file =
    opens 1 10 30 150 delta_groups
    ∷ activates 1 1 1 0 0
    ∷ submits 1 7 2 (pos 1000 ∷ [])
    ∷ submits 1 7 2 (pos 1000 ∷ [])
    ∷ []

-- its output
pub record Example (d : Account) : Type 0 where
  -- "1 0", "2 0", "3 0", "4 14"
  pub answers : map answer_number (d.answers file) ≡ 0 ∷ 0 ∷ 0 ∷ 14 ∷ []
  -- "G 1 1 1 1000", "T 1 1 1000", "G 2 1 1 1000", "T 2 1 1000"
  pub figures : (d.figures file 1 (group_row 1) 0 ≡ pos 1000) × (d.figures file 2 (group_row 1) 0 ≡ pos 1000)
  pub totals : (total d file 1 0 ≡ pos 1000) × (total d file 2 0 ≡ pos 1000)

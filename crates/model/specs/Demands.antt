-- Demands 1 and 2 as statements on the desks.
use Rattle.std.specs.Prelude.{ℕ, ◌*◌, ◌≤◌, ◌<◌, ◌≡◌, Bool, true, false, List, [], map, take, Option}
use Rattle.quantity.specs.Limits.{runs, run_rows}
use Rattle.state.specs.Desk.{versions_in}
use Rattle.state.specs.Version.{held}
use Rattle.state.specs.declared.Desk.{Desk}
use Rattle.model.specs.Agreement.{fresh, replies, end, book_figure}
use Rattle.model.specs.Call.{Call, opens, activates, deactivates, submits, notices, assigns, shows, asks, closes, issues, lodges, reports, Stores, lengths_of, Lent, told}
use Rattle.model.specs.Log.{log_numbers, logged}
use Rattle.model.specs.Plain.{plain_replies, plain_end, versions_of, log_of, figure}
use Rattle.model.specs.Step.{Outcome, step}
use Rattle.model.specs.Table.{ByTable, desk_table}
use Rattle.model.specs.declared.Answer.{Answer}
use Rattle.model.specs.declared.Answer.TheVariants.{Accepted, HasStatus, Refused}
use Rattle.model.specs.declared.Cause.{Cause}
use Rattle.model.specs.declared.LogRow.{LogRow}

-- "A call accepted returns 0 (status: 1..5; show: the row)."
abbrev pub asks_status : Call → Bool
asks_status (opens q f c k gs) = false
asks_status (activates p k a b d) = false
asks_status (deactivates p d) = false
asks_status (submits p x d es) = false
asks_status (notices p x y d) = false
asks_status (assigns a g d) = false
asks_status (shows r g) = false
asks_status (asks p x) = true
asks_status (closes r d) = false
asks_status (issues r d) = false
asks_status (lodges g d es) = false
asks_status (reports r g) = false

-- accepted with 0, and of status with a status
abbrev pub Granted : Call → Answer → Type 0
Granted c Accepted = asks_status c ≡ false
Granted c (HasStatus s) = asks_status c ≡ true
Granted c (Refused x) = Unit {0}

-- "a refused call leaves the desk, value store, book, log and output as they were"; "A refused show returns an empty part too"; a report's sums are
-- "both 0 when refused"
pub record Untouched (d : Desk) (s : Stores) (o : Outcome) : Type 0 where
  pub desk : o.desk ≡ d
  pub stores : o.stores ≡ s
  pub part : o.part ≡ []
  pub surplus : o.surplus ≡ 0
  pub shortfall : o.shortfall ≡ 0

-- demand 1: "Whoever calls the desk, with any numbers, series, bytes or stores, open or not"
pub record DemandOne (d : Desk) (l : Lent) : Type 0 where
  -- "gets an answer from the table of document 01"
  pub answers : ByTable (desk_table d (lengths_of l.stores) l.call) (step d l).answer
  pub granted : Granted l.call (step d l).answer
  pub keeps : (x : Cause) → (step d l).answer ≡ Refused x → Untouched d l.stores (step d l)

-- demand 2: "From a fresh desk on, while nobody else writes in it or in its stores, every answer, data status, log row and book figure is
-- the one that document 01 works out from the accepted calls"
pub record DemandTwo (s : Stores) (l : List Lent) : Type 0 where
  pub answers : replies (fresh s) l ≡ plain_replies [] (map told l)
  pub statuses : (p x : ℕ) → held p x (versions_in (end (fresh s) l).desk) ≡ held p x (versions_of (plain_end [] (map told l)))
  pub log : take (4 * (end (fresh s) l).desk.frame.used) (end (fresh s) l).stores.log ≡ log_numbers (log_of (plain_end [] (map told l)))
  pub figures : (run k q : ℕ) → 1 ≤ run → run ≤ runs → k < run_rows → q < (end (fresh s) l).desk.frame.opening.quarters → book_figure (end (fresh s) l) run k q ≡ figure (plain_end [] (map told l)) run k q

-- two outcomes of a desk, with stores s and t, that have the same answer, desk and log row
pub record Alike (d : Desk) (s t : Stores) (o p : Outcome) : Type 0 where
  pub answer : o.answer ≡ p.answer
  pub desk : o.desk ≡ p.desk
  pub row : Option LogRow
  pub log : o.stores.log ≡ logged d.frame.used row s.log
  pub other_log : p.stores.log ≡ logged d.frame.used row t.log

-- "Answer numbers, statuses and log rows never depend on what the stores hold": only on their lengths
abbrev pub Blind : Type 0
Blind =
    (d : Desk) (c : Call) (s t : Stores) → lengths_of s ≡ lengths_of t → Alike d s t (step d (record { call = c; stores = s })) (step d (record { call = c; stores = t }))

-- Demand 3: the running desk and the plain desk, fed the same list of calls, agree.
use Rattle.std.specs.Prelude.{ℕ, ◌+◌, ◌*◌, ◌≤◌, ◌<◌, ◌≡◌, Bool, true, cond, ◌&&◌, List, [], ◌∷◌, map, eqb, ℤ, ◌-ℤ◌, length, get_or, take}
use Rattle.quantity.specs.Limits.{runs, groups, run_rows}
use Rattle.quantity.specs.Sum.{sum_to}
use Rattle.quantity.specs.Word.{signed}
use Rattle.book.specs.Place.{group_row, row_start}
use Rattle.deviation.specs.Deviation.{over}
use Rattle.deviation.specs.Place.{schedule_start}
use Rattle.state.specs.Desk.{fresh_desk, is_open, versions_in}
use Rattle.state.specs.declared.Desk.{Desk}
use Rattle.state.specs.declared.Opening.{Opening}
use Rattle.model.specs.Call.{Call, Stores, Taken, Lent, Told, told, Reply}
use Rattle.model.specs.Causes.{takes}
use Rattle.model.specs.Log.{log_numbers}
use Rattle.model.specs.Plain.{plain_replies, plain_end, opening_of, groups_of, versions_of, log_of, figure, outside, schedule, surplus_at, shortfall_at}
use Rattle.model.specs.Step.{step, reply_of}

-- the running desk, with the stores of its opening as the last call left them
pub record Running : Type 0 where
  pub desk : Desk
  pub stores : Stores

-- a store that a call takes, on an open desk, in its opening length
abbrev pub IsOwn : Opening → (taken : Bool) (opening : ℕ) (kept lent : List ℕ) → Type 0
IsOwn o t n kept lent = is_open o ≡ true → t ≡ true → length lent ≡ n → lent ≡ kept

-- "After the opening, a store lent in its opening length is that of the opening as the last call left it"; "Up to the opening, and in
-- another length after it, a lent store may hold anything."
pub record Own (o : Opening) (t : Taken) (kept lent : Stores) : Type 0 where
  pub values : IsOwn o t.values o.values kept.values lent.values
  pub book : IsOwn o t.book o.book kept.book lent.book
  pub log : IsOwn o t.log o.log kept.log lent.log
  pub schedules : IsOwn o t.schedules o.schedules kept.schedules lent.schedules

-- what a call left in a store that it took in its opening length is kept; one in another length is somebody else's
abbrev pub left_in : (taken : Bool) (opening : ℕ) (kept left : List ℕ) → List ℕ
left_in t n kept left = cond (t && eqb (length left) n) left kept

-- the same for the four stores
abbrev pub left : Opening → Taken → (kept after : Stores) → Stores
left o t s e =
    record {
      values = left_in t.values o.values s.values e.values;
      book = left_in t.book o.book s.book e.book;
      log = left_in t.log o.log s.log e.log;
      schedules = left_in t.schedules o.schedules s.schedules e.schedules;
    }

-- after one call
unfoldable pub next : Running → Lent → Running
next r l =
    let o = step r.desk l in
    record { desk = o.desk; stores = left o.desk.frame.opening (takes l.call) r.stores o.stores }

-- "Each call gets the desk as the last one returned or left it, and nobody else writes in it or its stores meanwhile."
unfoldable pub Chained : Running → List Lent → Type 0
Chained r [] = Unit {0}
Chained r (l ∷ ls) = Own r.desk.frame.opening (takes l.call) r.stores l.stores × Chained (next r l) ls

-- the running desk's answers
unfoldable pub replies : Running → List Lent → List Reply
replies r [] = []
replies r (l ∷ ls) = reply_of (step r.desk l) ∷ replies (next r l) ls

-- and how it ends
unfoldable pub end : Running → List Lent → Running
end r [] = r
end r (l ∷ ls) = end (next r l) ls

-- "Two desks start fresh and unopened, whatever the stores hold."
abbrev pub fresh : Stores → Running
fresh s = record { desk = fresh_desk; stores = s }

-- the word that the book has for a run, row k and quarter hour, counted from 0
abbrev pub book_word : Running → (run k quarter : ℕ) → ℕ
book_word r run k q = get_or r.stores.book (row_start r.desk.frame.opening.quarters run k + q) 0

-- the figure that it is
unfoldable pub book_figure : Running → (run k quarter : ℕ) → ℤ
book_figure r run k q = signed (book_word r run k q)

-- "group g, quarter q at (g-1) × Q + q-1": the word that the schedules have, quarter hours counted from 0
abbrev pub schedule_word : Running → (group quarter : ℕ) → ℕ
schedule_word r g q = get_or r.stores.schedules (schedule_start r.desk.frame.opening.quarters g + q) 0

-- a group's surplus in a quarter hour, from the two stores
abbrev pub surplus_in : Running → (run group quarter : ℕ) → ℤ
surplus_in r run g q = signed (over (schedule_word r g q) (book_word r run (group_row g) q))

-- and its shortfall
abbrev pub shortfall_in : Running → (run group quarter : ℕ) → ℤ
shortfall_in r run g q = signed (over (book_word r run (group_row g) q) (schedule_word r g q))

-- "After every such list, whichever calls are refused, both desks have given the same answer to each call, show's row included. They have
-- the same versions, each with the same status, the same log rows in the same order, and the same figure for each run, row and quarter
-- hour. In both, for each run and quarter hour, the 64 group figures add up to the outside exchange"; document 02: "equal books, each
-- run under its own delta groups", "both desks have the same schedules and reports", and "in each run and quarter hour surplus minus shortfall, added over
-- all groups, is the schedules' sum minus the outside exchange"
pub record Agree (given : List Reply) (r : Running) (plain : List Reply) (h : List Told) : Type 0 where
  pub answers : given ≡ plain
  pub opening : r.desk.frame.opening ≡ opening_of h
  pub delta_groups : r.desk.frame.groups ≡ groups_of h
  pub versions : versions_in r.desk ≡ versions_of h
  pub log : take (4 * r.desk.frame.used) r.stores.log ≡ log_numbers (log_of h)
  pub figures : (run k q : ℕ) → 1 ≤ run → run ≤ runs → k < run_rows → q < r.desk.frame.opening.quarters → book_figure r run k q ≡ figure h run k q
  pub sum : (run q : ℕ) → 1 ≤ run → run ≤ runs → q < r.desk.frame.opening.quarters → sum_to groups (λ (g : ℕ). book_figure r run (group_row g) q) ≡ outside h run q
  pub plain_sum : (run q : ℕ) → 1 ≤ run → run ≤ runs → q < r.desk.frame.opening.quarters → sum_to groups (λ (g : ℕ). figure h run (group_row g) q) ≡ outside h run q
  pub schedules : (g q : ℕ) → 1 ≤ g → g ≤ groups → q < r.desk.frame.opening.quarters → signed (schedule_word r g q) ≡ schedule h g q
  pub deviation : (run q : ℕ) → 1 ≤ run → run ≤ runs → q < r.desk.frame.opening.quarters
      → sum_to groups (λ (g : ℕ). surplus_in r run g q -ℤ shortfall_in r run g q) ≡ sum_to groups (λ (g : ℕ). signed (schedule_word r g q)) -ℤ outside h run q
  pub plain_deviation : (run q : ℕ) → 1 ≤ run → run ≤ runs → q < r.desk.frame.opening.quarters
      → sum_to groups (λ (g : ℕ). surplus_at h run g q -ℤ shortfall_at h run g q) ≡ sum_to groups (λ (g : ℕ). schedule h g q) -ℤ outside h run q

-- demand 3: one claim on every list
abbrev pub Agreement : Type 0
Agreement =
    (s : Stores) (l : List Lent) → Chained (fresh s) l
    → Agree (replies (fresh s) l) (end (fresh s) l) (plain_replies [] (map told l)) (plain_end [] (map told l))

-- each call lent the stores as the last one left them: so the premise can be met, whatever the calls
unfoldable pub lend : Running → List Call → List Lent
lend r [] = []
lend r (c ∷ l) = record { call = c; stores = r.stores } ∷ lend (next r (record { call = c; stores = r.stores })) l

-- What a call's contract says: its answer, its desk and every store that it takes, after it, are the step's. It says so whatever the stores
-- are that the call does not take.
use Rattle.std.specs.Prelude.{◌≡◌, List, ℕ}
use Rattle.state.specs.declared.Desk.{Desk}
use Rattle.model.specs.Call.{Stores, Call, Lent}
use Rattle.model.specs.Step.{Outcome, step, with_book, with_schedules}
use Rattle.model.specs.declared.Answer.{Answer}

-- a call with stores
abbrev pub lent : Call → Stores → Lent
lent c s = record { call = c; stores = s }

-- the stores, of which values, book and log are these
abbrev pub storing : Stores → (values book log : List ℕ) → Stores
storing s values book log = record { values = values; book = book; log = log; schedules = s.schedules }

-- all stores
abbrev pub stores_of : (values book log schedules : List ℕ) → Stores
stores_of values book log schedules = record { values = values; book = book; log = log; schedules = schedules }

-- a step's answer and desk, and every store
pub record IsWholeStep (o : Outcome) (answer : Answer) (desk : Desk) (stores : Stores) : Type 0 where
  pub answered : answer ≡ o.answer
  pub held : desk ≡ o.desk
  pub left : stores ≡ o.stores

-- a step's answer, desk, values, book and log
pub record IsStep (o : Outcome) (answer : Answer) (desk : Desk) (values book log : List ℕ) : Type 0 where
  pub answered : answer ≡ o.answer
  pub held : desk ≡ o.desk
  pub valued : values ≡ o.stores.values
  pub booked : book ≡ o.stores.book
  pub noted : log ≡ o.stores.log

-- a step's answer, desk and book
pub record IsBookStep (o : Outcome) (answer : Answer) (desk : Desk) (book : List ℕ) : Type 0 where
  pub answered : answer ≡ o.answer
  pub held : desk ≡ o.desk
  pub booked : book ≡ o.stores.book

-- a step's answer, desk and schedules
pub record IsScheduleStep (o : Outcome) (answer : Answer) (desk : Desk) (schedules : List ℕ) : Type 0 where
  pub answered : answer ≡ o.answer
  pub held : desk ≡ o.desk
  pub planned : schedules ≡ o.stores.schedules

-- a step's answer and both sums
pub record IsReport (o : Outcome) (answer : Answer) (surplus shortfall : ℕ) : Type 0 where
  pub answered : answer ≡ o.answer
  pub over : surplus ≡ o.surplus
  pub under : shortfall ≡ o.shortfall

-- a step's answer and desk
pub record IsAnswer (o : Outcome) (answer : Answer) (desk : Desk) : Type 0 where
  pub answered : answer ≡ o.answer
  pub held : desk ≡ o.desk

-- a call that takes every store, as they are lent and as it leaves them
abbrev pub WholeStepped : Desk → Call → Stores → Answer → Desk → Stores → Type 0
WholeStepped d c s a e s' = IsWholeStep (step d (lent c s)) a e s'

-- a call that takes values, book and log, as they are lent and as it leaves them
abbrev pub Stepped : Desk → Call → (values book log : List ℕ) → Answer → Desk → (values' book' log' : List ℕ) → Type 0
Stepped d c values book log a e values' book' log' = (s : Stores) → IsStep (step d (lent c (storing s values book log))) a e values' book' log'

-- a call that takes the book
abbrev pub BookStepped : Desk → Call → (book : List ℕ) → Answer → Desk → (book' : List ℕ) → Type 0
BookStepped d c book a e book' = (s : Stores) → IsBookStep (step d (lent c (with_book s book))) a e book'

-- a call that takes the schedules
abbrev pub ScheduleStepped : Desk → Call → (schedules : List ℕ) → Answer → Desk → (schedules' : List ℕ) → Type 0
ScheduleStepped d c schedules a e schedules' = (s : Stores) → IsScheduleStep (step d (lent c (with_schedules s schedules))) a e schedules'

-- a call that takes book and schedules and gives two sums
abbrev pub Reported : Desk → Call → (book schedules : List ℕ) → Answer → (surplus shortfall : ℕ) → Type 0
Reported d c book schedules a surplus shortfall =
    (s : Stores) → IsReport (step d (lent c (with_schedules (with_book s book) schedules))) a surplus shortfall

-- a call that takes no store
abbrev pub Answered : Desk → Call → Answer → Desk → Type 0
Answered d c a e = (s : Stores) → IsAnswer (step d (lent c s)) a e

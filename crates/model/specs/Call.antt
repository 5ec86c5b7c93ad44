-- The calls of documents 01 and 02 with what is lent to them, and their answers with the papers' numbers.
use Rattle.std.specs.Prelude.{ℕ, Bool, true, false, List, ℤ, length}
use Rattle.state.specs.Status.{status_number}
use Rattle.model.specs.declared.Cause.{Cause}
use Rattle.model.specs.declared.Cause.TheVariants.{NotOpen, WrongLength, BadField, OpenAgain, BadOpening, PastDay, AfterCorrection, TooLate, PointActive, SameSeries, NotActive, HasVersion, TooEarly, VersionPresent, VersionBelow, NoVersion, NoticeBelow, NotCheckData, NoRow, NoLogRow, CloseTooEarly, AlreadyClosed, FirstRunOpen, NotClosed, AlreadyIssued}
use Rattle.model.specs.declared.Answer.{Answer}
use Rattle.model.specs.declared.Answer.TheVariants.{Accepted, HasStatus, Refused}

-- "Lent stores, lengths fixed at opening: values (any length), book (162 × Q), log (a multiple of 4)."; document 02: "Schedules are lent as a store
-- of 64 × Q numbers"
pub record Stores : Type 0 where
  pub values : List ℕ
  pub book : List ℕ
  pub log : List ℕ
  pub schedules : List ℕ

-- "each call with the same store lengths at both"
pub record Lengths : Type 0 where
  pub values : ℕ
  pub book : ℕ
  pub log : ℕ
  pub schedules : ℕ

-- the lengths of the stores
abbrev pub lengths_of : Stores → Lengths
lengths_of s = record { values = length s.values; book = length s.book; log = length s.log; schedules = length s.schedules }

-- "The calls, in building order", each with its fields; document 02: "Settle becomes close .. and issue .., both with run and day", "A schedule of Q
-- energies per group .. is lodged up to day C", "A report of run and group"
pub data Call : Type 0 where
  opens : (quarters first clearing correction : ℕ) (groups : List ℕ) → Call
  activates : (point kind area partner day : ℕ) → Call
  deactivates : (point day : ℕ) → Call
  submits : (point version day : ℕ) (energies : List ℤ) → Call
  notices : (point version verdict day : ℕ) → Call
  assigns : (area group day : ℕ) → Call
  shows : (run group : ℕ) → Call
  asks : (point version : ℕ) → Call
  closes : (run day : ℕ) → Call
  issues : (run day : ℕ) → Call
  lodges : (group day : ℕ) (energies : List ℤ) → Call
  reports : (run group : ℕ) → Call

-- the stores that a call takes; one that it does not take may be any, and is not looked at
pub record Taken : Type 0 where
  pub values : Bool
  pub book : Bool
  pub log : Bool
  pub schedules : Bool

-- "open takes it too": all four stores
abbrev pub every_store : Taken
every_store = record { values = true; book = true; log = true; schedules = true }

-- values, book and log
abbrev pub all_but_schedules : Taken
all_but_schedules = record { values = true; book = true; log = true; schedules = false }

-- the book alone
abbrev pub the_book : Taken
the_book = record { values = false; book = true; log = false; schedules = false }

-- "Lodging takes this store": the schedules alone
abbrev pub the_schedules : Taken
the_schedules = record { values = false; book = false; log = false; schedules = true }

-- "a report this and the book"
abbrev pub book_and_schedules : Taken
book_and_schedules = record { values = false; book = true; log = false; schedules = true }

-- none of them
abbrev pub no_store : Taken
no_store = record { values = false; book = false; log = false; schedules = false }

-- a call with the stores that are lent to it
pub record Lent : Type 0 where
  pub call : Call
  pub stores : Stores

-- "The plain desk is fed each call's fields and store lengths."
pub record Told : Type 0 where
  pub call : Call
  pub lengths : Lengths

-- what the plain desk is told of a call
abbrev pub told : Lent → Told
told l = record { call = l.call; lengths = lengths_of l.stores }

-- a call lent stores of these lengths
abbrev pub telling : Lengths → Call → Told
telling n c = record { call = c; lengths = n }

-- "Causes and numbers"
abbrev pub cause_number : Cause → ℕ
cause_number NotOpen = 1
cause_number WrongLength = 2
cause_number BadField = 3
cause_number OpenAgain = 6
cause_number BadOpening = 4
cause_number PastDay = 5
cause_number AfterCorrection = 11
cause_number TooLate = 26
cause_number PointActive = 21
cause_number SameSeries = 22
cause_number NotActive = 12
cause_number HasVersion = 23
cause_number TooEarly = 13
cause_number VersionPresent = 14
cause_number VersionBelow = 15
cause_number NoVersion = 24
cause_number NoticeBelow = 37
cause_number NotCheckData = 25
cause_number NoRow = 16
cause_number NoLogRow = 17
cause_number CloseTooEarly = 27
cause_number AlreadyClosed = 28
cause_number FirstRunOpen = 29
cause_number NotClosed = 38
cause_number AlreadyIssued = 39

-- "A call accepted returns 0 (status: 1..5; show: the row). An accepted status is its own case of the answer."
abbrev pub answer_number : Answer → ℕ
answer_number Accepted = 0
answer_number (HasStatus s) = status_number s
answer_number (Refused c) = cause_number c

-- an answer with show's row and a report's two sums
pub record Reply : Type 0 where
  pub answer : Answer
  pub row : List ℤ
  pub surplus : ℤ
  pub shortfall : ℤ

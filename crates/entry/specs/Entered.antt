-- A run of the twelve calls of the code: what each entry was called with, and what it gave and left.
use Rattle.std.specs.Prelude.{ℕ, ◌≡◌, List, [], ◌∷◌, map, pos}
use Rattle.quantity.specs.Word.{signed}
use Rattle.quantity.specs.declared.Day.{Day}
use Rattle.quantity.specs.declared.PointNo.{PointNo}
use Rattle.quantity.specs.declared.Version.{Version}
use Rattle.message.specs.declared.DeskCall.{DeskCall}
use Rattle.state.specs.declared.Desk.{Desk}
use Rattle.model.specs.Agreement.{Running, Own, left}
use Rattle.model.specs.Call.{Call, opens, shows, asks, lodges, reports, Stores, Lent, Reply}
use Rattle.model.specs.Causes.{takes}
use Rattle.model.specs.Plain.{plainly}
use Rattle.model.specs.Step.{step, with_book, with_schedules}
use Rattle.model.specs.declared.Answer.{Answer}
use Rattle.checks.specs.Stepped.{WholeStepped, ScheduleStepped, Reported, Answered, lent, stores_of}
use Rattle.dispatch.specs.Asked.{asked}

-- one call of an entry: what it was called with, then what it gave and left
pub data Entered : Type 0 where
  -- `open::open`
  by_open : (quarters : ℕ) (first clearing correction : Day) (groups : List ℕ) (lending : Stores) (answer : Answer) (desk : Desk) (book schedules : List ℕ) → Entered
  -- `apply::apply`
  by_apply : (call : DeskCall) (groups series : List ℕ) (lending : Stores) (answer : Answer) (desk : Desk) (stores : Stores) → Entered
  -- "Its number and its part come from two entries over the same input": `calls::show::show_number` and `show_row`
  by_show : (run group : ℕ) (book : List ℕ) (answer : Answer) (part : List ℕ) → Entered
  -- `calls::status::status`
  by_status : (point : PointNo) (version : Version) (answer : Answer) (desk : Desk) → Entered
  -- `lodge::lodge`
  by_lodge : (group : ℕ) (day : Day) (series schedules : List ℕ) (answer : Answer) (desk : Desk) (schedules' : List ℕ) → Entered
  -- `schedules::report::report`
  by_report : (run group : ℕ) (book schedules : List ℕ) (answer : Answer) (surplus shortfall : ℕ) → Entered

-- the call of the papers that it is
abbrev pub call_of : Entered → Call
call_of (by_open q f c k gs lending answer desk book schedules) = opens q f.0 c.0 k.0 gs
call_of (by_apply call gs es lending answer desk stores) = asked call gs (map signed es)
call_of (by_show run group book answer part) = shows run group
call_of (by_status p x answer desk) = asks p.0 x.0
call_of (by_lodge group day es schedules answer desk schedules') = lodges group day.0 (map signed es)
call_of (by_report run group book schedules answer surplus shortfall) = reports run group

-- the stores that were lent to it; a store that an entry has no parameter for is empty here, and no call takes it
abbrev pub lending_of : Entered → Stores
lending_of (by_open q f c k gs lending answer desk book schedules) = lending
lending_of (by_apply call gs es lending answer desk stores) = lending
lending_of (by_show run group book answer part) = stores_of [] book [] []
lending_of (by_status p x answer desk) = stores_of [] [] [] []
lending_of (by_lodge group day es schedules answer desk schedules') = stores_of [] [] [] schedules
lending_of (by_report run group book schedules answer surplus shortfall) = stores_of [] book [] schedules

-- the call with what was lent to it
abbrev pub lent_of : Entered → Lent
lent_of e = lent (call_of e) (lending_of e)

-- its answer, with show's part and a report's two sums read as signed numbers
abbrev pub reply_in : Entered → Reply
reply_in (by_open q f c k gs lending answer desk book schedules) = plainly answer
reply_in (by_apply call gs es lending answer desk stores) = plainly answer
reply_in (by_show run group book answer part) = record { answer = answer; row = map signed part; surplus = pos 0; shortfall = pos 0 }
reply_in (by_status p x answer desk) = plainly answer
reply_in (by_lodge group day es schedules answer desk schedules') = plainly answer
reply_in (by_report run group book schedules answer surplus shortfall) = record { answer = answer; row = []; surplus = signed surplus; shortfall = signed shortfall }

-- the desk after it; show and report give none back
abbrev pub desk_after : Desk → Entered → Desk
desk_after d (by_open q f c k gs lending answer desk book schedules) = desk
desk_after d (by_apply call gs es lending answer desk stores) = desk
desk_after d (by_show run group book answer part) = d
desk_after d (by_status p x answer desk) = desk
desk_after d (by_lodge group day es schedules answer desk schedules') = desk
desk_after d (by_report run group book schedules answer surplus shortfall) = d

-- the stores that were lent to it, as it left them
abbrev pub stores_after : Entered → Stores
stores_after (by_open q f c k gs lending answer desk book schedules) = with_schedules (with_book lending book) schedules
stores_after (by_apply call gs es lending answer desk stores) = stores
stores_after (by_show run group book answer part) = stores_of [] book [] []
stores_after (by_status p x answer desk) = stores_of [] [] [] []
stores_after (by_lodge group day es schedules answer desk schedules') = stores_of [] [] [] schedules'
stores_after (by_report run group book schedules answer surplus shortfall) = stores_of [] book [] schedules

-- its contract on this desk: the code of open, apply and lodge ensures this very definition, and of the others proofs/Contracts has that their contracts give it
abbrev pub Meets : Desk → Entered → Type 0
Meets d (by_open q f c k gs lending answer desk book schedules) =
    WholeStepped d (opens q f.0 c.0 k.0 gs) lending answer desk (with_schedules (with_book lending book) schedules)
Meets d (by_apply call gs es lending answer desk stores) = WholeStepped d (asked call gs (map signed es)) lending answer desk stores
Meets d (by_show run group book answer part) =
    ((s : Stores) → answer ≡ (step d (lent (shows run group) (with_book s book))).answer)
    × ((s : Stores) → part ≡ (step d (lent (shows run group) (with_book s book))).part)
Meets d (by_status p x answer desk) = Answered d (asks p.0 x.0) answer desk
Meets d (by_lodge group day es schedules answer desk schedules') = ScheduleStepped d (lodges group day.0 (map signed es)) schedules answer desk schedules'
Meets d (by_report run group book schedules answer surplus shortfall) = Reported d (reports run group) book schedules answer surplus shortfall

-- the desk as the entry left it, with the stores of its opening
unfoldable pub left_by : Running → Entered → Running
left_by r e = record { desk = desk_after r.desk e; stores = left (desk_after r.desk e).frame.opening (takes (call_of e)) r.stores (stores_after e) }

-- after one entry after the other
unfoldable pub end_of : Running → List Entered → Running
end_of r [] = r
end_of r (e ∷ es) = end_of (left_by r e) es

-- "Each call gets the desk as the last one returned or left it, and nobody else writes in it or its stores meanwhile."
unfoldable pub Run : Running → List Entered → Type 0
Run r [] = Unit {0}
Run r (e ∷ es) = Meets r.desk e × Own r.desk.frame.opening (takes (call_of e)) r.stores (lending_of e) × Run (left_by r e) es

-- the nearest way to meet that: each store that an entry has a parameter for is lent as the last one left it
abbrev pub LentOn : Stores → Entered → Type 0
LentOn s (by_open q f c k gs lending answer desk book schedules) = lending ≡ s
LentOn s (by_apply call gs es lending answer desk stores) = lending ≡ s
LentOn s (by_show run group book answer part) = book ≡ s.book
LentOn s (by_status p x answer desk) = Unit {0}
LentOn s (by_lodge group day es schedules answer desk schedules') = schedules ≡ s.schedules
LentOn s (by_report run group book schedules answer surplus shortfall) = (book ≡ s.book) × (schedules ≡ s.schedules)

-- and then stands as it left it
abbrev pub on_after : Stores → Entered → Stores
on_after s (by_open q f c k gs lending answer desk book schedules) = with_schedules (with_book lending book) schedules
on_after s (by_apply call gs es lending answer desk stores) = stores
on_after s (by_show run group book answer part) = s
on_after s (by_status p x answer desk) = s
on_after s (by_lodge group day es schedules answer desk schedules') = with_schedules s schedules'
on_after s (by_report run group book schedules answer surplus shortfall) = s

-- one entry after the other on the desk and the stores as the last one left them
unfoldable pub Onward : Desk → Stores → List Entered → Type 0
Onward d s [] = Unit {0}
Onward d s (e ∷ es) = LentOn s e × Meets d e × Onward (desk_after d e) (on_after s e) es

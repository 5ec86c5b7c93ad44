-- The running desk on one call of a file after the other, with its stores, the series buffer and the answers whole.
use Rattle.std.specs.Prelude.{ℕ, suc, List, [], ◌∷◌, ◌++◌, length, set, take, drop}
use Rattle.quantity.specs.Limits.{book_rows, schedule_rows}
use Rattle.model.specs.Agreement.{Running, fresh}
use Rattle.model.specs.Causes.{terms}
use Rattle.model.specs.Call.{Call, Stores, Lent, answer_number}
use Rattle.model.specs.Step.{Outcome, step, with_book, with_schedules}
use Rattle.message.specs.Series.{filled}
use Rattle.replay.specs.Feeding.{lent_of}
use Rattle.replay.specs.Given.{Given, given}

-- the numbers of a store that are lent
abbrev pub first_of : (rows quarters : ℕ) → List ℕ → List ℕ
first_of k q l = take (lent_of k (length l) q) l

-- and those behind them
abbrev pub behind_of : (rows quarters : ℕ) → List ℕ → List ℕ
behind_of k q l = drop (lent_of k (length l) q) l

-- what is lent of the stores: of book and schedules the first numbers, the others whole
abbrev pub lent_by : (quarters : ℕ) → Stores → Stores
lent_by q s = with_schedules (with_book s (first_of book_rows q s.book)) (first_of schedule_rows q s.schedules)

-- the stores then: what a call left of that, and the numbers behind it, which stay
abbrev pub back_by : (quarters : ℕ) (whole left : Stores) → Stores
back_by q s a = with_schedules (with_book a (a.book ++ behind_of book_rows q s.book)) (a.schedules ++ behind_of schedule_rows q s.schedules)

-- Q of what a call is lent
unfoldable pub quarters_for : Running → Call → ℕ
quarters_for r c = (terms c).quarters r.desk.frame.opening.quarters

-- a call with what is lent to it
unfoldable pub lent_to : Running → Call → Lent
lent_to r c = record { call = c; stores = lent_by (quarters_for r c) r.stores }

-- the call's outcome
abbrev pub outcome_of : Running → Call → Outcome
outcome_of r c = step r.desk (lent_to r c)

-- the desk and its stores after the call
unfoldable pub handed : Running → Call → Running
handed r c =
    let o = outcome_of r c in
    record { desk = o.desk; stores = back_by (quarters_for r c) r.stores o.stores }

-- a replay under way: the desk and its stores, the series buffer, the answers with those given so far
pub record Playing : Type 0 where
  pub running : Running
  pub series : List ℕ
  pub answers : List ℕ
  pub answered : ℕ

-- one call of the file more
unfoldable pub played : Playing → Given → Playing
played p c =
    record {
      running = handed p.running (given c);
      series = filled c.energies p.series;
      answers = set p.answers p.answered (answer_number (outcome_of p.running (given c)).answer);
      answered = suc p.answered;
    }

-- one after the other
unfoldable pub play : Playing → List Given → Playing
play p [] = p
play p (c ∷ l) = play (played p c) l

-- "Two desks start fresh and unopened, whatever the stores hold."
abbrev pub starting : Stores → (series answers : List ℕ) → Playing
starting s series answers = record { running = fresh s; series = series; answers = answers; answered = 0 }

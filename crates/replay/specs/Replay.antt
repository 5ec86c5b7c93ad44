-- What a replay promises, said with the reader's definition and the plain desk.
use Rattle.std.specs.Prelude.{ℕ, ◌+◌, ◌*◌, ◌-◌, ◌≤◌, ◌<◌, ◌≡◌, cond, List, [], ◌∷◌, ◌++◌, map, leb, ltb, ℤ, length, get_or, take, drop, replicate}
use Rattle.quantity.specs.Limits.{runs, groups as group_count, run_rows, book_rows, schedule_rows}
use Rattle.quantity.specs.Sum.{sum_to}
use Rattle.quantity.specs.Word.{word, signed}
use Rattle.book.specs.Place.{group_row, row_start}
use Rattle.message.specs.File.{Ending, whole, stopped, Found, calls_in}
use Rattle.state.specs.declared.Desk.{Desk}
use Rattle.model.specs.Call.{Stores, lengths_of, Told, Reply, answer_number}
use Rattle.model.specs.Log.{log_numbers}
use Rattle.model.specs.Plain.{opening_of, energies_of, log_of, view_in, figure, outside, plain_replies, plain_end}
use Rattle.model.specs.View.{view_of}
use Rattle.message.specs.Series.{filled}
use Rattle.replay.specs.Feeding.{tells}
use Rattle.replay.specs.Given.{Given, given, given_in}
use Rattle.replay.specs.declared.Ending.{Ending as EndingOf}
use Rattle.replay.specs.declared.Ending.TheVariants.{End, Refused, Full}
use Rattle.replay.specs.declared.Replayed.{Replayed}

-- the calls that are answered: those of the file up to its end or its first refusal, as many as there is room for
abbrev pub calls_for : (file : List ℕ) (room answers : ℕ) → List Given
calls_for s room n = take n (given_in (calls_in room s).calls)

-- how a replay of a file of so many bytes ends, with room for so many answers: with the file, or where the answers are full and bytes are left
abbrev pub ending_of : (length answers : ℕ) → Found → EndingOf
ending_of n most f = ending_by f.ending
  where
    ending_by : Ending → EndingOf
    ending_by whole = cond (leb (length f.calls) most) End Full
    ending_by (stopped x) = cond (ltb (length f.calls) most) (Refused x (n - length f.left)) Full

-- the series buffer after the calls: "an accepted submission fills the first places with its energies, the others stay"
unfoldable pub series_left : List ℕ → List Given → List ℕ
series_left s [] = s
series_left s (c ∷ l) = series_left (filled c.energies s) l

-- what the plain desk is told of the calls
abbrev pub told_of : Stores → List Given → List Told
told_of s cs = tells (lengths_of s) [] (map given cs)

-- answers as numbers
abbrev pub numbers_of : List Reply → List ℕ
numbers_of l = map (λ (r : Reply). answer_number r.answer) l

-- one list after the other
unfoldable pub joined : List (List ℤ) → List ℤ
joined [] = []
joined (l ∷ ls) = l ++ joined ls

-- the first places overwritten, the others as they were
abbrev pub over : (new old : List ℕ) → List ℕ
over new old = new ++ drop (length new) old

-- a desk that holds what the plain desk works out from its list h of accepted calls: opening, day, delta groups, points, versions with their
-- statuses and how many there are, log rows used, closed and issued runs
pub record Holding (h : List Told) (d : Desk) : Type 0 where
  pub view : view_of d ≡ view_in h

-- the stores after the calls; s are the stores as they were lent at first. Used rows of values are the submissions' words; the book has the words of
-- the plain desk's figures in its first 162 × Q places, which are read as these figures, and with them the outside exchange as their sum; the first
-- 64 × Q schedules are 0, since message files carry no lodgings; all else is as it was, and so are book and schedules where the desk was never opened
-- (Q is 0 then).
pub record Leaving (h : List Told) (s after : Stores) : Type 0 where
  pub values : after.values ≡ over (map word (joined (energies_of h))) s.values
  pub log : after.log ≡ over (log_numbers (log_of h)) s.log
  pub words : (run k q : ℕ) → 1 ≤ run → run ≤ runs → k < run_rows → q < (opening_of h).quarters → get_or after.book (row_start (opening_of h).quarters run k + q) 0 ≡ word (figure h run k q)
  pub figures : (run k q : ℕ) → 1 ≤ run → run ≤ runs → k < run_rows → q < (opening_of h).quarters → signed (get_or after.book (row_start (opening_of h).quarters run k + q) 0) ≡ figure h run k q
  pub sum : (run q : ℕ) → 1 ≤ run → run ≤ runs → q < (opening_of h).quarters → sum_to group_count (λ (g : ℕ). signed (get_or after.book (row_start (opening_of h).quarters run (group_row g) + q) 0)) ≡ outside h run q
  pub others : drop (book_rows * (opening_of h).quarters) after.book ≡ drop (book_rows * (opening_of h).quarters) s.book
  pub size : length after.book ≡ length s.book
  pub schedules : after.schedules ≡ over (replicate (schedule_rows * (opening_of h).quarters) 0) s.schedules

-- what calls give and leave, in the answers, in the series buffer and in the stores
pub record Gives (cs : List Given) (s : Stores) (buffer output : List ℕ) (after : Stores) (buffer' output' : List ℕ) : Type 0 where
  pub answers : output' ≡ over (numbers_of (plain_replies [] (told_of s cs))) output
  pub series : buffer' ≡ series_left buffer cs
  pub stores : Leaving (plain_end [] (told_of s cs)) s after

-- a replay of a file: its calls as the reader has them, and what the plain desk makes of them
pub record Replays (file : List ℕ) (s : Stores) (buffer output : List ℕ) (r : Replayed) (after : Stores) (buffer' output' : List ℕ) : Type 0 where
  pub answered : r.answered ≡ length (calls_for file (length buffer) (length output))
  pub ending : r.ending ≡ ending_of (length file) (length output) (calls_in (length buffer) file)
  pub desk : Holding (plain_end [] (told_of s (calls_for file (length buffer) (length output)))) r.desk
  pub gives : Gives (calls_for file (length buffer) (length output)) s buffer output after buffer' output'

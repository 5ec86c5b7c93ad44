-- What is lent of book and schedules, and what the plain desk is told.
use Rattle.std.specs.Prelude.{ℕ, ◌*◌, cond, List, [], ◌∷◌, leb}
use Rattle.quantity.specs.Limits.{book_rows, schedule_rows}
use Rattle.model.specs.Call.{Call, Lengths, Told, telling}
use Rattle.model.specs.Causes.{terms}
use Rattle.model.specs.Plain.{opening_of, plain_next}

-- "162 × Q book", "64 × Q numbers": of a store that has so many numbers, rows × Q are lent; all of them where there are not so many, which is cause 4
unfoldable pub lent_of : (rows store quarters : ℕ) → ℕ
lent_of k n q = cond (leb (k * q) n) (k * q) n

-- the lengths that are lent to a call, of stores of these lengths
unfoldable pub lengths_for : Lengths → (quarters : ℕ) → Call → Lengths
lengths_for n q c =
    record {
      values = n.values;
      book = lent_of book_rows n.book ((terms c).quarters q);
      log = n.log;
      schedules = lent_of schedule_rows n.schedules ((terms c).quarters q);
    }

-- what the plain desk is told of a call
abbrev pub told_as : Lengths → List Told → Call → Told
told_as n h c = telling (lengths_for n (opening_of h).quarters c) c

-- and of one call after the other
unfoldable pub tells : Lengths → List Told → List Call → List Told
tells n h [] = []
tells n h (c ∷ l) = told_as n h c ∷ tells n (plain_next h (told_as n h c)) l

-- "Schedules are lent as a store of 64 × Q numbers (group g, quarter q at (g-1) × Q + q-1)".
use Rattle.std.specs.Prelude.{ℕ, ◌+◌, ◌*◌, List, get_or}
use Rattle.book.specs.Place.{group_row}

-- "group g, quarter q at (g-1) × Q + q-1": where a group's schedule begins
abbrev pub schedule_start : (quarters group : ℕ) → ℕ
schedule_start q g = group_row g * q

-- the k-th word of a row, counted from 0
abbrev pub word_from : List ℕ → (start : ℕ) → ℕ → ℕ
word_from s at k = get_or s (at + k) 0

-- The lengths of what is lent to a call.
use Rattle.std.specs.Prelude.{ℕ, List, length}
use Rattle.model.specs.Call.{Lengths}
use Rattle.checks.specs.declared.Sizes.{Sizes}

-- of all stores
abbrev pub sizes : (values book log schedules : ℕ) → Lengths
sizes values book log schedules = record { values = values; book = book; log = log; schedules = schedules }

-- with another length of the book
abbrev pub with_book_length : Lengths → (book : ℕ) → Lengths
with_book_length n book = record { values = n.values; book = book; log = n.log; schedules = n.schedules }

-- of the schedules
abbrev pub with_schedules_length : Lengths → (schedules : ℕ) → Lengths
with_schedules_length n schedules = record { values = n.values; book = n.book; log = n.log; schedules = schedules }

-- with those of values, book and log that the code has
abbrev pub lengths_in : Lengths → Sizes → Lengths
lengths_in m n = record { values = n.values; book = n.book; log = n.log; schedules = m.schedules }

-- those of the stores
abbrev pub sizes_of : (values book log : List ℕ) → Sizes
sizes_of values book log = record { values = length values; book = length book; log = length log }

-- "For each figure row that changes, the one book row is lent on to be written; rows that the change doesn't touch stay."
use Rattle.std.specs.Prelude.{List, ℕ}
use Rattle.book.specs.Row.{zip, part, splice, changed}
use Rattle.book.specs.declared.Way.{Way}

-- the book with the q values from `at` on put into the q figures from `start` on, or taken out of them
unfoldable pub posted : Way → (book : List ℕ) (start q : ℕ) (values : List ℕ) (at : ℕ) → List ℕ
posted way book start q values at = splice book start q (zip (changed way) (part book start q) (part values at q))

-- A submission's energies in the lent series buffer.
use Rattle.std.specs.Prelude.{ℕ, List, [], ◌++◌, map, ℤ, length, drop}
use Rattle.quantity.specs.Word.{word}
use Rattle.message.specs.Read.{Read, got, refused}

-- a list that was read, none where it is refused
abbrev pub list_of : {A : Type 0} → Read (List A) → List A
list_of (got l r) = l
list_of (refused x) = []

-- "an accepted submission fills the first places with its energies, the others stay"
abbrev pub filled : List ℤ → (series : List ℕ) → List ℕ
filled es series = map word es ++ drop (length es) series

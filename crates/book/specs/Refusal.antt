-- The refusals of a book of bytes as numbers: "3 for a number outside its range, else 2 for a length other than 1,296 × Q, else 0".
use Rattle.std.specs.Prelude.{ℕ, Result, Ok, Err}
use Rattle.quantity.specs.declared.WattHours.{WattHours}
use Rattle.book.specs.declared.refusal.BookRefusal.{BookRefusal}
use Rattle.book.specs.declared.refusal.BookRefusal.TheVariants.{WrongLength, OutOfRange}

abbrev pub number_of : BookRefusal → ℕ
number_of WrongLength = 2
number_of OutOfRange = 3

-- of an answer: 0 where it is none
abbrev pub refusal_of : {A : Type 0} → Result A BookRefusal → ℕ
refusal_of (Ok x) = 0
refusal_of (Err r) = number_of r

-- "the figure, and 0 where the first refuses"
abbrev pub figure_of : Result WattHours BookRefusal → ℕ
figure_of (Ok x) = x.0
figure_of (Err r) = 0

-- Rows of a store: a row changed figure by figure, a part, and a store with a part replaced.
use Rattle.std.specs.Prelude.{List, [], ◌∷◌, ◌++◌, ℕ, take, drop}
use Rattle.quantity.specs.Word.{plus, minus}
use Rattle.book.specs.declared.Way.{Way}
use Rattle.book.specs.declared.Way.TheVariants.{In, Out}

-- a figure with an energy put in, or taken out
unfoldable pub changed : Way → (figure energy : ℕ) → ℕ
changed In a b = plus a b
changed Out a b = minus a b

-- the other way
abbrev pub back : Way → Way
back In = Out
back Out = In

module _ {A : Type 0} where
  -- f of each figure of the row with the number at its place in the series; past the series' end the row as it is
  unfoldable pub zip : (A → A → A) → List A → List A → List A
  zip f [] s = []
  zip f (x ∷ r) [] = x ∷ r
  zip f (x ∷ r) (y ∷ s) = f x y ∷ zip f r s

  -- the q numbers of a store from `start` on
  unfoldable pub part : List A → (start q : ℕ) → List A
  part l start q = take q (drop start l)

  -- the store with those q numbers replaced by r
  unfoldable pub splice : List A → (start q : ℕ) → List A → List A
  splice l start q r = take start l ++ (r ++ drop q (drop start l))

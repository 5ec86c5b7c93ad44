-- Lists gone through from their start, each element with its index.
use Rattle.std.specs.Prelude.{ℕ, suc, List, [], ◌∷◌, ◌++◌, map, take, drop}

-- each element in turn, with its index from `i` on, changes what was found before it
unfoldable pub walk : {A B : Type 0} → (B → ℕ → A → B) → B → (i : ℕ) → List A → B
walk f b i [] = b
walk f b i (x ∷ l) = walk f (f b i x) (suc i) l

-- the first n elements changed, the others as they were
unfoldable pub map_first : {A : Type 0} → (n : ℕ) → (A → A) → List A → List A
map_first n f l = map f (take n l) ++ drop n l

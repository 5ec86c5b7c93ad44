-- A test and what it says: the words in which laws judge definitions that are tests.
use Rattle.std.specs.Prelude.{◌≡◌, ℕ, ◌<◌, ◌≤◌, Bool, true, false, List, length, slice_index_or}

-- the test holds exactly where P does
pub record Means (t : Bool) (P : Type 0) : Type 0 where
  pub holds : t ≡ true → P
  pub fails : t ≡ false → P → ⊥

-- from low to high, both included
abbrev pub Between : (low high n : ℕ) → Type 0
Between low high n = (low ≤ n) × (n ≤ high)

-- each element of a list; z is read past its end
abbrev pub Each : {A : Type 0} → (z : A) → (A → Type 0) → List A → Type 0
Each z P l = (i : ℕ) → i < length l → P (slice_index_or l i z)

-- some element of it
abbrev pub Among : {A : Type 0} → (z : A) → (A → Type 0) → List A → Type 0
Among z P l = (i : ℕ) × ((i < length l) × P (slice_index_or l i z))

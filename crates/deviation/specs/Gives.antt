-- What a call gives for each of n places.
use Rattle.std.specs.Prelude.{ℕ, ◌≡◌, ◌<◌}
use Rattle.quantity.specs.declared.WattHours.{WattHours}

-- each answer of a place below n is the word of f there
abbrev pub Gives : (answers : ℕ → WattHours → Type 0) (f : ℕ → ℕ) (n : ℕ) → Type 0
Gives answers f n = (k : ℕ) → k < n → (r : WattHours) → answers k r → r.0 ≡ f k

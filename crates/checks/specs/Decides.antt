-- What it means that a call of a test answers as a definition does.
use Rattle.std.specs.Prelude.{◌≡◌, Bool}

-- each result that the test may have is the definition's
abbrev pub Decides : {T : Type 0} → (answers : T → Bool → Type 0) → (test : T → Bool) → Type 0
Decides {T} answers test = (x : T) (b : Bool) → answers x b → b ≡ test x

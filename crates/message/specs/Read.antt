-- What a parser finds at the head of a list of bytes.
use Rattle.std.specs.Prelude.{ℕ, Bool, true, false, List}
use Rattle.message.specs.declared.FileCause.{FileCause}

-- a value and the bytes behind it, or the cause of a refusal
pub data Read (A : Type 0) : Type 0 where
  got : A → List ℕ → Read A
  refused : FileCause → Read A

-- what is read behind it
abbrev pub onward : {A B : Type 0} → Read A → (A → List ℕ → Read B) → Read B
onward (got a r) k = k a r
onward (refused c) k = refused c

-- nothing is refused
abbrev pub accepted : {A : Type 0} → Read A → Bool
accepted (got a r) = true
accepted (refused x) = false

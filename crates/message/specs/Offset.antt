-- What stands at an offset of a file.
use Rattle.std.specs.Prelude.{ℕ, ◌-◌, List, length, drop, Result, Ok, Err}
use Rattle.message.specs.Read.{Read, got, refused}
use Rattle.message.specs.Number.{decode}
use Rattle.message.specs.declared.FileCause.{FileCause}
use Rattle.message.specs.declared.NumberRead.{NumberRead}

-- a number that was read, and the offset behind it
abbrev pub number_to : (value next : ℕ) → Result NumberRead FileCause
number_to v n = Ok (record { value = v; next = n })

-- the number of what was read in a file of so many bytes, and the offset behind it
abbrev pub number_of : {A : Type 0} → (A → ℕ) → (length : ℕ) → Read A → Result NumberRead FileCause
number_of f n (got a r) = number_to (f a) (n - length r)
number_of f n (refused x) = Err x

-- a number as it is
abbrev pub itself : ℕ → ℕ
itself v = v

-- the number at an offset
abbrev pub number_at : (file : List ℕ) (at : ℕ) → Result NumberRead FileCause
number_at s at = number_of itself (length s) (decode (drop at s))

-- the offset behind what was read
abbrev pub passed_of : {A : Type 0} → (length : ℕ) → Read A → Result ℕ FileCause
passed_of n (got a r) = Ok (n - length r)
passed_of n (refused x) = Err x

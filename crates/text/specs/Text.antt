-- Numbers as text, in ASCII.
use Rattle.std.specs.Prelude.{ℕ, zero, suc, ◌+◌, ◌/◌, ◌%◌, ◌≤◌, ◌≡◌, cond, List, [], ◌∷◌, ◌++◌, ltb, ℤ, pos, negsuc, take, drop}

-- a line's end
abbrev pub newline : ℕ
newline = 10

-- between the parts of a line
abbrev pub blank : ℕ
blank = 32

-- a negative number's sign
abbrev pub minus : ℕ
minus = 45

-- the digit of a number below 10
abbrev pub digit : ℕ → ℕ
digit d = 48 + d

-- a number's decimal digits, in as many steps as there are at most
unfoldable pub decimal_in : (steps : ℕ) → ℕ → List ℕ
decimal_in zero n = digit (n % 10) ∷ []
decimal_in (suc k) n = cond (ltb n 10) (digit n ∷ []) (decimal_in k (n / 10) ++ (digit (n % 10) ∷ []))

-- a number's decimal digits, with no zero in front
abbrev pub decimal : ℕ → List ℕ
decimal n = decimal_in n n

-- an integer, with its sign where it is negative
unfoldable pub signed_text : ℤ → List ℕ
signed_text (pos n) = decimal n
signed_text (negsuc n) = minus ∷ decimal (suc n)

-- one text after the other, of each number from 1 to n, rising
unfoldable pub each_to : (n : ℕ) → (ℕ → List ℕ) → List ℕ
each_to zero f = []
each_to (suc n) f = each_to n f ++ f (suc n)

-- a text put into a buffer from a place on, in at most so many bytes, all behind it as it was; the place behind it
pub record Put (most at : ℕ) (text : List ℕ) (before after : List ℕ) (next : ℕ) : Type 0 where
  pub holds : take next after ≡ take at before ++ text
  pub rest : drop next after ≡ drop next before
  pub from : at ≤ next
  pub few : next ≤ at + most

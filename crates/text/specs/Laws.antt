-- Numbers and lines as text, said in bytes: what the definitions of text are judged by.
use Rattle.std.specs.Prelude.{ℕ, ◌+◌, ◌-◌, ◌*◌, ◌≤◌, ◌≡◌, ℤ, pos, negsuc, length}
use mathlib.Core.List.{List, [], ◌∷◌, ◌++◌, Memᴰ}
use Rattle.quantity.specs.Meaning.{Between}

-- digits read from the left, behind a number read so far: ten times that number and the digit
unfoldable pub read_from : (before : ℕ) → List ℕ → ℕ
read_from n [] = n
read_from n (d ∷ t) = read_from (10 * n + (d - 48)) t

-- "in decimal": digits 0 to 9, one or more, of which a 0 in front stands alone, and which read as the number
pub record InDecimal (n : ℕ) (t : List ℕ) : Type 0 where
  pub some : 1 ≤ length t
  pub digits : (d : ℕ) → Memᴰ d t → Between 48 57 d
  pub front : (u : List ℕ) → t ≡ 48 ∷ u → u ≡ []
  pub reads : read_from 0 t ≡ n

-- an integer: in decimal, one below 0 behind a minus
abbrev pub InSigned : ℤ → List ℕ → Type 0
InSigned (pos n) t = InDecimal n t
InSigned (negsuc n) t = (u : List ℕ) × (t ≡ 45 ∷ u) × InDecimal (n + 1) u

-- the rest of a line: a blank and a number each, and the line's end
pub data Fields : List ℤ → List ℕ → Type 0 where
  done : Fields [] (10 ∷ [])
  field : {v : ℤ} {vs : List ℤ} {u : List ℕ} (t : List ℕ) → InSigned v t → Fields vs u → Fields (v ∷ vs) ((32 ∷ t) ++ u)

-- a line of the program's output
pub data Line : Type 0 where
  answer : (number answer : ℕ) → Line
  refusal : (number offset : ℕ) → Line
  group : (run quarter group : ℕ) (figure : ℤ) → Line
  total : (run quarter : ℕ) (sum : ℤ) → Line
  chosen : (run point version status : ℕ) → Line

-- a line that begins with a letter
abbrev pub Lettered : (letter : ℕ) → List ℤ → List ℕ → Type 0
Lettered c vs t = (u : List ℕ) × (t ≡ c ∷ u) × Fields vs u

-- a text is that line: "call number (from 1) and answer in decimal", "`F number offset`", "`G run quarter group figure`", "`T run quarter sum`"; document 02:
-- "`S run point version status`"
abbrev pub Shows : Line → List ℕ → Type 0
Shows (answer n a) t = Fields (pos n ∷ pos a ∷ []) (32 ∷ t)
Shows (refusal n o) t = Lettered 70 (pos n ∷ pos o ∷ []) t
Shows (group r q g v) t = Lettered 71 (pos r ∷ pos q ∷ pos g ∷ v ∷ []) t
Shows (total r q v) t = Lettered 84 (pos r ∷ pos q ∷ v ∷ []) t
Shows (chosen r p x s) t = Lettered 83 (pos r ∷ pos p ∷ pos x ∷ pos s ∷ []) t

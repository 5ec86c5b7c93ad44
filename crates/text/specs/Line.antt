-- The lines that the program prints.
use Rattle.std.specs.Prelude.{ℕ, List, [], ◌∷◌, ◌++◌, ℤ}
use Rattle.text.specs.Text.{blank, newline, decimal, signed_text}

-- "call number (from 1) and answer in decimal"
abbrev pub answer_line : (number answer : ℕ) → List ℕ
answer_line n a = decimal n ++ (blank ∷ decimal a) ++ (newline ∷ [])

-- `F number offset`
abbrev pub refusal_line : (number offset : ℕ) → List ℕ
refusal_line n o = (70 ∷ []) ++ (blank ∷ decimal n) ++ (blank ∷ decimal o) ++ (newline ∷ [])

-- `G run quarter group figure`
abbrev pub group_line : (run quarter group : ℕ) (figure : ℤ) → List ℕ
group_line r q g v =
    (71 ∷ []) ++ (blank ∷ decimal r) ++ (blank ∷ decimal q) ++ (blank ∷ decimal g) ++ (blank ∷ signed_text v) ++ (newline ∷ [])

-- `T run quarter sum`
abbrev pub total_line : (run quarter : ℕ) (sum : ℤ) → List ℕ
total_line r q v = (84 ∷ []) ++ (blank ∷ decimal r) ++ (blank ∷ decimal q) ++ (blank ∷ signed_text v) ++ (newline ∷ [])

-- `S run point version status`
abbrev pub selection_line : (run point version status : ℕ) → List ℕ
selection_line r p x s =
    (83 ∷ []) ++ (blank ∷ decimal r) ++ (blank ∷ decimal p) ++ (blank ∷ decimal x) ++ (blank ∷ decimal s) ++ (newline ∷ [])

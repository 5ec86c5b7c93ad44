-- What the generator prints.
use Rattle.std.specs.Prelude.{ℕ, ◌-◌, List, [], ◌∷◌, ◌++◌}
use Rattle.text.specs.Text.{newline, decimal, each_to}
use Rattle.workdays.specs.Count.{before}
use Rattle.workdays.specs.Date.{months}

-- a number on a line of its own
abbrev pub line_of : ℕ → List ℕ
line_of n = decimal n ++ (newline ∷ [])

-- "A generator prints a constant table for the years 2020 to 2059: for each month the number of working days before its first day"
abbrev pub table_text : List ℕ
table_text = each_to months (λ (i : ℕ). line_of (before (i - 1)))

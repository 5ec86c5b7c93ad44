-- "For each run, group and quarter hour the surplus is the larger of 0 and schedule minus figure, the shortfall the larger of 0 and figure minus
-- schedule. A report of run and group gives both sums over the month in watt-hours (differences wrap as sums do)".
use Rattle.std.specs.Prelude.{ℕ, zero, suc, ◌^◌, cond, ltb, ℤ, pos, negsuc, ◌-ℤ◌}
use Rattle.quantity.specs.Word.{plus, minus}

-- "the larger of 0 and"
unfoldable pub larger : ℤ → ℤ
larger (pos n) = pos n
larger (negsuc n) = pos 0

-- "the surplus is the larger of 0 and schedule minus figure"
abbrev pub surplus : (schedule figure : ℤ) → ℤ
surplus s f = larger (s -ℤ f)

-- "the shortfall the larger of 0 and figure minus schedule"
abbrev pub shortfall : (schedule figure : ℤ) → ℤ
shortfall s f = larger (f -ℤ s)

-- "differences wrap as sums do": of two words, the larger of 0 and what a's difference from b is read as
unfoldable pub over : (a b : ℕ) → ℕ
over a b = cond (ltb (minus a b) (2 ^ 63)) (minus a b) 0

-- "sums over the month": of the first n quarter hours, counted from 0; it wraps
unfoldable pub over_sum : (a b : ℕ → ℕ) (n : ℕ) → ℕ
over_sum a b zero = 0
over_sum a b (suc n) = plus (over_sum a b n) (over (a n) (b n))

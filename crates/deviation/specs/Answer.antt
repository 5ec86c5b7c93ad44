-- The answer on the report from bytes: "both sums over the month in watt-hours .., both 0 when refused."
use Rattle.std.specs.Prelude.{ℕ, Result, Ok, Err}
use Rattle.book.specs.declared.refusal.BookRefusal.{BookRefusal}
use Rattle.deviation.specs.declared.Deviation.{Deviation}

abbrev pub surplus_of : Result Deviation BookRefusal → ℕ
surplus_of (Ok sums) = sums.surplus.0
surplus_of (Err r) = 0

abbrev pub shortfall_of : Result Deviation BookRefusal → ℕ
shortfall_of (Ok sums) = sums.shortfall.0
shortfall_of (Err r) = 0

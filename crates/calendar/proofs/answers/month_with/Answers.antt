-- `month_with` meets its contract. Assumes nothing.
use Rattle.std.proofs.Common.{◌+◌, ◌≤◌, ◌<◌, ℕ, ◌-◌, Option, Some, None, MatchOption, unwrap_or, arith, rules, tests}
use Rattle.std.proofs.lemmas.Iterator.{first_from_Range}
use Rattle.workdays.specs.Date.{months}
use Rattle.workdays.specs.Count.{before}
use Rattle.calendar.proofs.Back.{month-found}
use Rattle.calendar.specs.Walk.{MonthWith}
use Rattle.calendar.proofs.answers.month_with.Goals as goal

pub returns : goal.returns
returns c =
    let h = first_from_Range _ _ _ _ (λ (i : ℕ). c.args.count ≤ before i) (λ (i : ℕ). before i < c.args.count) c.find-behind.ensures.ran (λ x q k. search (rules, tests)) (λ x q k. search (rules, tests)) in
    rw c.unwrap_or.ensures (of c.find-behind.result h)
  where
    of : (r : Option ℕ) → MatchOption r ((k : ℕ) → c.args.start + 1 ≤ k → k < 480 → before k < c.args.count) (λ i. (c.args.start + 1 ≤ i) × (i < 480) × (c.args.count ≤ before i) × ((k : ℕ) → c.args.start + 1 ≤ k → k < i → before k < c.args.count)) → MonthWith c.args.start c.args.count (unwrap_or r 480 - 1)
    of None h = month-found c.args.start c.args.count months (omega arith) (omega arith) c.requires.1 (λ j l u. h j (omega arith) u) (λ x. absurd (omega arith))
    of (Some i) h = month-found c.args.start c.args.count i (omega arith) (omega arith) c.requires.1 (λ j l u. h.3 j (omega arith) u) (λ _. h.2)

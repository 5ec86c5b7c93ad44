-- What is added up over the numbers of a range, 1 to n. Assumes nothing.
use Rattle.std.proofs.Common.{◌≡◌, ℕ, ◌+◌, ◌≤◌, ◌<◌, List, [], ◌∷◌, true, false, length, get_or, fold, ap, ◌∙◌, suc, arith}
use Rattle.std.proofs.iter.runs.Sources.{inclusive_listed, nat_range_inclusive_steps}
use Rattle.std.specs.Iterator.Runs.{Run}
use Rattle.std.specs.Range.{range_inclusive_start, range_inclusive_end, range_inclusive_exhausted}
use Rattle.std.specs.declared.ops.RangeInclusive.{RangeInclusive}

-- f is g added up, number by number
module _ (f g : ℕ → ℕ) (none : 0 ≡ f 0) (step : (d : ℕ) → f (d + 1) ≡ f d + g (d + 1)) where
  -- over numbers that follow one another, from behind a number on
  from-behind : (l : List ℕ) (d n : ℕ) → n ≡ f d → ((k : ℕ) → k < length l → get_or l k 0 ≡ d + 1 + k) → fold (λ a x. a + g x) n l ≡ f (d + length l)
  from-behind [] d n e h = e ∙ ap f (omega arith)
  from-behind (x ∷ l) d n e h =
      let p : x ≡ d + 1 = omega (arith, h 0 (omega arith)) in
      from-behind l (d + 1) (n + g x) (cc (step d)) (λ k i. omega (arith, h (suc k) (omega arith)))
      ∙ ap f (omega arith)

  -- over the first numbers of `1..=n`, and over all of them
  pub added : (q : Run nat_range_inclusive_steps) (n : ℕ) (s : RangeInclusive ℕ) → range_inclusive_start s ≡ 1 → range_inclusive_end s ≡ n → range_inclusive_exhausted s ≡ false → q.from ≡ s → (fold (λ a x. a + g x) 0 q.items ≡ f q.len) × (q.len ≤ n) × (q.whole ≡ true → q.len ≡ n)
  added q n s x y z e =
      let range = inclusive_listed q q.seen in
      let up = (range.4 (ap range_inclusive_exhausted e ∙ z)).0 in
      let a : range.0 ≡ 1 = range.2 ∙ ap range_inclusive_start e ∙ x in
      let b : range.1 ≡ n + 1 = range.3 ∙ ap (λ t. range_inclusive_end t + 1) e ∙ ap (λ t. t + 1) y in (
        from-behind q.items 0 0 none (λ k i. let j : k < q.len = omega (arith, q.long) in let read = q.reads k 0 j in let place = up.3 k j in let item : get_or q.items k 0 ≡ range.0 + k = cc in omega arith)
            ∙ ap f (omega (arith, q.long)),
        omega (arith, up.0),
        λ w. omega (arith, up.1 w),
      )

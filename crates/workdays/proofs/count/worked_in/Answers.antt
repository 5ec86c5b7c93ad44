-- `worked_in` meets its contract. Assumes nothing.
use Rattle.std.proofs.Common.{ℕ, ◌≡◌, ◌≤◌, refl, ap, ◌∙◌, length, rules, arith}
use Rattle.std.proofs.iter.Serving.{serving}
use Rattle.std.proofs.lemmas.List.Sums.{length-filter}
use Rattle.workdays.specs.declared.Month.{Month}
use Rattle.workdays.specs.Date.{day_in}
use Rattle.workdays.specs.Rule.{working}
use Rattle.workdays.specs.Count.{one, worked}
use Rattle.workdays.proofs.Lengths.{month-length}
use Rattle.workdays.proofs.Counts.{one-more, worked-most}
use Rattle.workdays.proofs.Ranges.{added}
use Rattle.workdays.proofs.count.worked_in.Goals as goal

pub count-requires-clause-can : goal.count-requires-clause-can
count-requires-clause-can c = let short : c.args.days ≤ 31 = omega (arith, month-length c.args.m.year c.args.m.month) in grind serving

pub returns : goal.returns
unfolding worked
returns c =
    let m = c.of-judged.result.month in
    let counted = c.count.ensures.runs in
    let picked = c.filter.ensures.runs counted.0 counted.0.seen counted.1 in
    let days = added (worked m) (λ (d : ℕ). one (working (day_in m d))) refl (one-more m) picked.0 c.args.days c.new.result c.new.ensures.start c.new.ensures.end c.new.ensures.exhausted picked.1 in
    let e : c.count.result ≡ worked c.args.m c.args.days =
    counted.3 ∙ counted.0.long ∙ ap length (picked.2.4 _ (λ x b g k. search rules)) ∙ length-filter (λ (d : ℕ). working (day_in m d)) picked.0.items
    ∙ days.0 ∙ ap (worked m) (days.2 (picked.2.0 ∙ counted.2))
    ∙ ap (λ (m : Month). worked m c.args.days) c.of-judged.ensures in
    (e, omega (arith, worked-most c.args.m c.args.days, month-length c.args.m.year c.args.m.month))

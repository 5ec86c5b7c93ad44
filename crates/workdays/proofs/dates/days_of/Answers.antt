-- `days_of` meets its contract. Assumes nothing.
use Rattle.std.proofs.Common.{◌≡◌, ◌+◌, refl, ap, ◌∙◌, arith, rules}
use Rattle.workdays.specs.Date.{days_in, days_of}
use Rattle.workdays.proofs.Lengths.{days-more, days-most}
use Rattle.workdays.proofs.Ranges.{added}
use Rattle.workdays.proofs.dates.days_of.Goals as goal

pub sum-requires-clause-fits : goal.sum-requires-clause-fits
unfolding days_of
sum-requires-clause-fits c p seen from =
    let mapped = c.map.ensures.runs p seen from in
    let days = added (days_of c.args.year) (days_in c.args.year) refl (days-more c.args.year) mapped.0 c.args.months c.new.result c.new.ensures.start c.new.ensures.end c.new.ensures.exhausted mapped.1 in
    let e = mapped.2.4 (λ a x. a + x) (λ a x. a + days_in c.args.year x) 0 (λ x y g a k. search rules) in
    omega (arith, days-most c.args.year mapped.0.len)

pub returns : goal.returns
unfolding days_of
returns c =
    let total = c.sum.ensures.runs tt in
    let mapped = c.map.ensures.runs total.0 total.0.seen total.1 in
    let days = added (days_of c.args.year) (days_in c.args.year) refl (days-more c.args.year) mapped.0 c.args.months c.new.result c.new.ensures.start c.new.ensures.end c.new.ensures.exhausted mapped.1 in
    let e = mapped.2.4 (λ a x. a + x) (λ a x. a + days_in c.args.year x) 0 (λ x y g a k. search rules) in
    let all : c.sum.result ≡ days_of c.args.year c.args.months = total.3 ∙ e ∙ days.0 ∙ ap (days_of c.args.year) (days.2 (mapped.2.0 ∙ total.2)) in
    (all, omega (arith, days-most c.args.year c.args.months))

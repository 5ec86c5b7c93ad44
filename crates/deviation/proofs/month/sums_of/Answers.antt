-- `sums_of` meets its contract. Assumes nothing.
use Rattle.deviation.proofs.Months.{over-sum-none, over-sum-more}
use Rattle.deviation.proofs.month.sums_of.Goals as goal

pub loop-k-init : goal.loop-k-init
loop-k-init g c = λ s f p t. (over-sum-none s f, over-sum-none f s)

pub loop-k-preserved : goal.loop-k-preserved
loop-k-preserved g c =
    λ s f p t.
    let l = c.loop-k in
    let i = l.invariant s f p t in
    let h = c.loop-k-test.true in
    let x = p l.k h _ c.planned.ensures in
    let y = t l.k h _ c.taken.ensures in
    let w = c.with_quarter-sums.ensures in
    (over-sum-more s f l.k i.0 x y w.0, over-sum-more f s l.k i.1 y x w.1)

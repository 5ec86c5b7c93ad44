-- `records_of` meets its contract. The loop's invariant: each record before i is that of its four numbers. Assumes nothing.
use Rattle.std.proofs.Common.{◌≡◌, ◌∙◌, ℕ, ◌*◌, ◌<◌, set, length-set, get_or-set_same, get_or-set_other, below_more, arith, rules}
use Rattle.state.specs.Version.{record_at}
use Rattle.walks.specs.Walk.{record_from}
use Rattle.walks.proofs.records_of.Goals as goal

pub loop-i-init : goal.loop-i-init
loop-i-init c = record { size = search rules; each = λ k h. absurd (omega arith) }

pub loop-i-preserved : goal.loop-i-preserved
loop-i-preserved c =
    let l = c.loop-i in
    let a = c.args in
    let v = c.record_at.result in
    let before : (k : ℕ) → k < l.i → record_at (set l.versions l.i v) k ≡ record_from a.table.now (4 * k) = λ k h. get_or-set_other l.versions l.i k _ _ (λ e. omega arith) ∙ l.invariant.each k h in
    let here : record_at (set l.versions l.i v) l.i ≡ record_from a.table.now (4 * l.i) = get_or-set_same l.versions l.i _ _ (omega (arith, l.invariant.size)) ∙ c.record_at.ensures in
    record { size = simp length-set l.invariant.size; each = below_more _ l.i before here }

pub returns : goal.returns
returns c = record { size = c.loop-i.invariant.size; each = λ k h. c.loop-i.invariant.each k (omega arith) }

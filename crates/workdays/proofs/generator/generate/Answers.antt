-- `generate` meets its contract. The loop: the entries put are those of the rule. Assumes nothing.
use Rattle.std.proofs.Common.{refl, ◌∙◌, length-set, arith, rules}
use Rattle.workdays.specs.Count.{before}
use Rattle.workdays.proofs.Entries.{entry-put, month-added}
use Rattle.workdays.proofs.generator.generate.Goals as goal

pub loop-i-init : goal.loop-i-init
unfolding before
loop-i-init c = (λ k h. absurd (omega arith), (refl, (omega arith, search rules)))

pub loop-i-preserved : goal.loop-i-preserved
loop-i-preserved c = (
  entry-put c.loop-i.entry-items c.loop-i.i c.loop-i.working (omega arith) c.loop-i.invariant.1.0 c.loop-i.invariant.0,
  (
    month-added _ _ _ _ _ c.loop-i.invariant.1.0 c.at-month.ensures.0 c.days.ensures.0 c.worked_in-working.ensures.0,
    (omega arith, length-set _ _ _ ∙ c.loop-i.invariant.1.1.1),
  ),
)

-- `lend_call` meets its contract. Assumes nothing.
use mathlib.Core.Path.{sym, ap, ◌∙◌}
use mathlib.Core.List.{map}
use native.Mathlib.Omega.{arith}
use Rattle.quantity.specs.Word.{signed}
use Rattle.model.specs.Causes.{terms}
use Rattle.model.specs.declared.Asks.{Asks}
use Rattle.checks.specs.Look.{Looked}
use Rattle.checks.specs.Survey.{record_at}
use Rattle.dispatch.specs.Asked.{asked}
use Rattle.replay.proofs.Parts.{lent-inside, handed-by}
use Rattle.replay.proofs.lending.lend_call.Goals.{After-glance-l}
use Rattle.replay.proofs.lending.lend_call.Goals as goal

pub glance-l-requires : goal.glance-l-requires
glance-l-requires c =
    let s = c in
    let a = s.args in
    record { d_value = s.requires.d_value; p_value = s.requires.p_value ∙ ap (λ (x : Asks). record_at a.d.points x.point.0) (sym (c.asks_of.ensures a.groups (map signed a.series.now))) }

pub lent_of-n-requires : goal.lent_of-n-requires
lent_of-n-requires c = omega arith

pub lent_of-m-requires : goal.lent_of-m-requires
lent_of-m-requires c = omega arith

pub slice_bounds-decide-end : goal.slice_bounds-decide-end
slice_bounds-decide-end c = rw c.lent_of-n.ensures (lent-inside _ _ _)

pub slice_bounds-decide-end-2 : goal.slice_bounds-decide-end-2
slice_bounds-decide-end-2 c = rw c.lent_of-m.ensures (lent-inside _ _ _)

-- the look is one at the desk
seen : (c : After-glance-l) → Looked c.args.d (terms (asked c.args.call c.args.groups (map signed c.args.series.now))).asks c.glance-l.result
seen c = let a = c.args in rw (c.asks_of.ensures a.groups (map signed a.series.now)) at c.glance-l.ensures

pub decide-requires : goal.decide-requires
decide-requires c = record { desk = c.args.d; looked = seen (goal.at.decide-requires c).After-glance-l }

pub returns : goal.returns
returns c =
    let h = c.decide.ensures c.args.d (seen (goal.at.returns c).After-glance-l) in
    (h.0, handed-by _ _ c.lent_of-n.ensures c.lent_of-m.ensures (c.quarters_of-q.ensures _ _) h.1)

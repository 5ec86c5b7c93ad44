-- `refusals_of` meets its contract. Assumes nothing.
use Rattle.std.proofs.Common.{◌<◌, ◌≤◌, rules, arith}
use Rattle.summary.proofs.Tables.{none-refused, none-first, refused-here, accepted-here}
use Rattle.summary.proofs.table.refusals_of.Goals as goal

pub loop-i-init : goal.loop-i-init
loop-i-init c =
    let a = c.args in
    record { few = omega arith; count = none-refused a.answers.now a.n c.requires; first = none-first a.answers.now a.n c.requires }

pub loop-i-preserved-then-answers-i-ne0 : goal.loop-i-preserved-then-answers-i-ne0
loop-i-preserved-then-answers-i-ne0 c =
    let l = c.loop-i in
    let a = c.args in
    let some : 0 < l.i = search rules in
    let inside : l.i ≤ a.n = omega (arith, l.invariant.few) in
    let w = refused-here a.answers.now a.n l.i l.count l.first c.requires some inside l.invariant.count l.invariant.first c.if-answers-i-ne0.true in
    record { few = omega (arith, l.invariant.few); count = w.0; first = w.1 }

pub loop-i-preserved : goal.loop-i-preserved
loop-i-preserved c =
    let l = c.loop-i in
    let a = c.args in
    let some : 0 < l.i = search rules in
    let inside : l.i ≤ a.n = omega (arith, l.invariant.few) in
    let w = accepted-here a.answers.now a.n l.i l.count l.first c.requires some inside l.invariant.count l.invariant.first c.if-answers-i-ne0.false in
    record { few = omega (arith, l.invariant.few); count = w.0; first = w.1 }

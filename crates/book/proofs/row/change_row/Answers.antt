-- `change_row` meets its contract. Assumes nothing.
use mathlib.Core.Path.{◌∙◌}
use Prim.Native.Nat.{◌<◌}
use lib.ListN.{length}
use Rattle.book.specs.Row.{changed}
use Rattle.book.proofs.Rows.{up_to-none, up_to-more, up_to-all}
use borrow.Author.Rules.{rules}
use Rattle.book.proofs.row.change_row.Goals as goal

pub loop-i-init : goal.loop-i-init
loop-i-init c = up_to-none (changed _) _ _

pub loop-i-preserved : goal.loop-i-preserved
loop-i-preserved c =
    let l = c.loop-i in
    let a = c.args in
    let h : l.i < length a.row.now = search rules in
    let k : l.i < length a.series.now = search rules in
    up_to-more (changed a.way) l.i a.row.now a.series.now 0 h k l.invariant c.change.ensures

pub returns : goal.returns
returns c = c.loop-i.invariant ∙ up_to-all (changed _) _ _ _ (search rules)

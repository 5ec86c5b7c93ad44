-- `copy_over` meets its contract. Assumes nothing.
use mathlib.Core.Path.{refl, ◌∙◌}
use Prim.Native.Nat.{◌<◌}
use lib.ListN.{length}
use Rattle.book.proofs.Rows.{up_to-none, up_to-more, up_to-all}
use Rattle.amend.proofs.Copied.{second, all-second}
use borrow.Author.Rules.{rules}
use Rattle.amend.proofs.copies.copy_over.Goals as goal

pub loop-i-init : goal.loop-i-init
loop-i-init c = up_to-none second _ _

pub loop-i-preserved : goal.loop-i-preserved
loop-i-preserved c =
    let l = c.loop-i in
    let a = c.args in
    let h : l.i < length a.places.now = search rules in
    let k : l.i < length a.row.now = search rules in
    up_to-more second l.i a.places.now a.row.now 0 h k l.invariant refl

pub returns : goal.returns
returns c = c.loop-i.invariant ∙ up_to-all second _ _ _ (search rules) ∙ all-second _ _ c.requires

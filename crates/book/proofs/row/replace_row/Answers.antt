-- `replace_row` meets its contract. Assumes nothing.
use mathlib.Core.Path.{ap, ◌∙◌}
use mathlib.Core.List.{List}
use Prim.Native.Nat.{ℕ, ◌≤◌, ◌<◌}
use native.Mathlib.Omega.{arith}
use lib.ListN.{length}
use Rattle.book.specs.Row.{changed, back, zip}
use Rattle.book.proofs.Rows.{up_to, up_to-none, length-up_to, up_to-all, twice-more}
use borrow.Author.Rules.{rules}
use Rattle.book.proofs.row.replace_row.Goals as goal

pub loop-i-init : goal.loop-i-init
loop-i-init c =
    let a = c.args in
    let undone = up_to (changed (back a.way)) 0 a.row.now a.old.now in
    (c.opposite-undo.ensures, up_to-none (changed (back a.way)) a.row.now a.old.now ∙ up_to-none (changed a.way) undone a.new.now)

pub loop-i-preserved : goal.loop-i-preserved
loop-i-preserved c =
    let l = c.loop-i in
    let a = c.args in
    let h : l.i < length a.row.now = search rules in
    let k : l.i < length a.old.now = search rules in
    let m : l.i < length a.new.now = search rules in
    let undone = rw l.invariant.0 at c.change-without.ensures in (
      l.invariant.0,
      twice-more (changed (back a.way)) (changed a.way) l.i a.row.now a.old.now a.new.now 0 h k m l.invariant.1 undone c.change.ensures,
    )

pub returns : goal.returns
returns c =
    let l = c.loop-i in
    let a = c.args in
    let undone = up_to (changed (back a.way)) l.i a.row.now a.old.now in
    let all : length a.row.now ≤ l.i = search rules in
    let all' : length undone ≤ l.i = omega (arith, length-up_to (changed (back a.way)) l.i a.row.now a.old.now) in
    l.invariant.1 ∙ up_to-all (changed a.way) l.i undone a.new.now all'
    ∙ ap (λ (r : List ℕ). zip (changed a.way) r a.new.now) (up_to-all (changed (back a.way)) l.i a.row.now a.old.now all)

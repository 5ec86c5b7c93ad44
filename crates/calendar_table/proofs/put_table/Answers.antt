-- `put_table` meets its contract. The loop: the lines of the entries passed. Assumes nothing.
use mathlib.Core.Path.{◌≡◌, ap, ◌∙◌}
use native.Mathlib.Omega.{arith}
use borrow.Author.Rules.{rules}
use Rattle.text.proofs.Texts.{puts-as, puts-each, puts-first, puts-out}
use Rattle.workdays.specs.Count.{before}
use Rattle.workdays.specs.Date.{months}
use Rattle.calendar_table.specs.Table.{line_of}
use Rattle.calendar_table.proofs.put_table.Goals as goal

pub loop-entry-init : goal.loop-entry-init
loop-entry-init c = puts-first _ _

pub loop-entry-preserved : goal.loop-entry-preserved
loop-entry-preserved c = puts-each 21 _ _ c.loop-entry.invariant (puts-as c.put_line.ensures (search rules) (ap line_of (c.generate-entries.ensures c.loop-entry.entry-index (omega arith) ∙ ap before (omega arith))))

pub returns : goal.returns
returns c =
    let e : c.loop-entry.entry-index ≡ months = omega arith in
    puts-out (rw e at c.loop-entry.invariant) (search rules)

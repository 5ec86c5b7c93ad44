-- `put_run` meets its contract. Assumes nothing.
use Prim.Native.Nat.{◌+◌, ◌-◌}
use mathlib.Core.Path.{◌≡◌}
use native.Mathlib.Omega.{arith}
use Rattle.text.proofs.Texts.{puts-next, puts-first}
use Rattle.output.specs.Fill.{quarter_room}
use borrow.Author.Rules.{rules}
use Rattle.output.proofs.print.put_run.Goals as goal

pub loop-quarter-init : goal.loop-quarter-init
loop-quarter-init c = (puts-first _ _, search rules)

pub loop-quarter-preserved : goal.loop-quarter-preserved
loop-quarter-preserved c = (puts-next quarter_room _ _ (search rules) c.loop-quarter.invariant.0 c.put_quarter.ensures, search rules)

pub returns : goal.returns
returns c = let e : c.loop-quarter.quarter - 1 ≡ c.args.month.now.month.quarters = omega arith in rw e at c.loop-quarter.invariant.0

pub returns-2 : goal.returns-2
returns-2 c =
    let e : c.loop-quarter.quarter + 1 - 1 ≡ c.args.month.now.month.quarters = omega arith in
    rw e at (puts-next quarter_room _ _ (search rules) c.loop-quarter.invariant.0 c.put_quarter.ensures)

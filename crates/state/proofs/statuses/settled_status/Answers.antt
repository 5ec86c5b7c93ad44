-- `settled_status` meets its contract, by the branch taken. Assumes nothing.
use borrow.Author.Tests.{ne_eqb}
use Rattle.state.proofs.statuses.settled_status.Goals as goal

pub returns-then-run-eq1 : goal.returns-then-run-eq1
returns-then-run-eq1 c = rw c.if-run-eq1.true

pub returns : goal.returns
returns c = rw (ne_eqb _ _ c.if-run-eq1.false)

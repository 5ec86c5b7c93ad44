-- `raised_if` meets its contract, by the branch taken. Assumes nothing.
use Rattle.state.proofs.selections.raised_if.Goals as goal

pub returns-then-test : goal.returns-then-test
returns-then-test c = rw c.if-test.true c.raised.ensures

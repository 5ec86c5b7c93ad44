-- `opened` meets its contract. Assumes nothing.
use Rattle.state.proofs.fresh.opened.Goals as goal

pub returns : goal.returns
returns c = cc

-- `is_counted` meets its contract. Assumes nothing.
use Rattle.state.proofs.selections.is_counted.Goals as goal

pub returns : goal.returns
returns c = cc

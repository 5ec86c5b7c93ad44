-- `replay` meets its contract. Assumes nothing.
use Rattle.replay.proofs.Whole.{ran-replays}
use Rattle.replay.proofs.replay.Goals as goal

pub returns : goal.returns
returns c = ran-replays _ _ _ _ _ _ _ _ _ _ c.run_file.ensures

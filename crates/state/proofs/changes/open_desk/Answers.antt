-- `open_desk` meets its contract. Assumes nothing.
use mathlib.Core.Path.{refl}
use Rattle.state.proofs.changes.open_desk.Goals as goal

pub returns : goal.returns
returns c d e = rw c.open_frame.ensures (e, refl)

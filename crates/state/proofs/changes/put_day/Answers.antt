-- `put_day` meets its contract. Assumes nothing.
use mathlib.Core.Path.{refl}
use Rattle.state.proofs.changes.put_day.Goals as goal

pub returns : goal.returns
returns c d e = rw (c.unchanged.ensures, e) (tt, refl)

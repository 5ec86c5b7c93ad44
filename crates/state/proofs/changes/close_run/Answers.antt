-- `close_run` meets its contract. Assumes nothing.
use mathlib.Core.Path.{refl}
use Rattle.state.proofs.changes.close_run.Goals as goal

pub returns : goal.returns
returns c d e = rw (c.unchanged.ensures, c.with_flag-closed.ensures, e) (tt, refl)

-- `put_version` meets its contract. Assumes nothing.
use mathlib.Core.Path.{refl}
use Rattle.state.proofs.changes.put_version.Goals as goal

pub returns : goal.returns
returns c d e = rw e (c.requires, refl)

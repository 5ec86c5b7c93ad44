-- `put_group` meets its contract. Assumes nothing.
use mathlib.Core.Path.{refl}
use Rattle.state.proofs.changes.put_group.Goals as goal

pub returns : goal.returns
returns c d e = rw (c.unchanged.ensures, c.with_group-groups.ensures, c.sets_both.ensures, e) (tt, refl)

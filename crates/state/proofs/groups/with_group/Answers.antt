-- `with_group` meets its contract. Assumes nothing.
use mathlib.Core.Path.{refl}
use Rattle.state.proofs.groups.with_group.Goals as goal

pub returns-then-not-both : goal.returns-then-not-both
returns-then-not-both c = rw c.if-not-both.true refl

pub returns : goal.returns
returns c = rw c.if-not-both.false refl

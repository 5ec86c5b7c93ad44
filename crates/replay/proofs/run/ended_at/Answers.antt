-- `ended_at` meets its contract. Assumes nothing.
use borrow.Author.Tests.{eq-eqb, ne_eqb}
use Rattle.replay.proofs.run.ended_at.Goals as goal

pub returns-then-at-length : goal.returns-then-at-length
returns-then-at-length c = rw (eq-eqb _ _ c.if-at-length.true)

pub returns-else-at-length : goal.returns-else-at-length
returns-else-at-length c = rw (ne_eqb _ _ c.if-at-length.false)

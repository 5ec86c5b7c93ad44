-- `issue_run` meets its contract. Assumes nothing.
use mathlib.Core.Path.{refl}
use Rattle.state.proofs.changes.issue_run.Goals as goal

pub returns : goal.returns
returns c d e v = (v, rw (c.with_flag-issued.ensures, e) refl)

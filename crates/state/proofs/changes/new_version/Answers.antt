-- `new_version` meets its contract: its numbers are in range. Assumes nothing.
use Rattle.quantity.proofs.Tests.{within-high}
use native.Mathlib.Omega.{arith}
use Rattle.state.proofs.changes.new_version.Goals as goal

pub overflow_cast-result : goal.overflow_cast-result
overflow_cast-result c = let s = c in omega (arith, within-high 1 256 s.args.point.0 s.requires.point_value)

pub returns : goal.returns
returns c = rw c.submitted_status.ensures

-- `not_check` meets its contract. Assumes nothing.
use Rattle.std.proofs.Common.{rules}
use Rattle.model.specs.Causes.{not_check}
use Rattle.checks.proofs.looks.not_check.Goals as goal

pub returns : goal.returns
unfolding not_check
returns c = search rules

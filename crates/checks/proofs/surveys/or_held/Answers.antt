-- `or_held` meets its contract, case by case. Assumes nothing.
use mathlib.Core.Path.{sym, ◌∙◌}
use Rattle.checks.proofs.surveys.or_held.Goals as goal

pub returns-then-is_version : goal.returns-then-is_version
returns-then-is_version c = rw (c.in-None.is, sym c.is_version.ensures ∙ c.if-is_version.true)

pub returns-else-is_version : goal.returns-else-is_version
returns-else-is_version c = rw (c.in-None.is, sym c.is_version.ensures ∙ c.if-is_version.false)

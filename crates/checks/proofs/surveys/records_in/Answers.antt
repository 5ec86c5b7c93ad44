-- `records_in` meets its contract, by the branch taken. Assumes nothing.
use borrow.Author.Tests.{lt-ltb, le-ltb}
use Rattle.checks.proofs.surveys.records_in.Goals as goal

pub returns-then-count-lt-VERSIONS : goal.returns-then-count-lt-VERSIONS
returns-then-count-lt-VERSIONS c = rw (lt-ltb _ 512 c.if-count-lt-VERSIONS.true)

pub returns-else-count-lt-VERSIONS : goal.returns-else-count-lt-VERSIONS
returns-else-count-lt-VERSIONS c = rw (le-ltb _ 512 c.if-count-lt-VERSIONS.false)

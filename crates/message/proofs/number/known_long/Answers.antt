-- `known_long` meets its contract: what is known to stand there is not refused. Assumes nothing.
use mathlib.Core.Path.{sym, ◌∙◌}
use lib.ListN.{length, drop}
use Rattle.message.specs.Number.{decode}
use Rattle.message.proofs.NumberSteps.{is-there}
use Rattle.message.proofs.number.known_long.Goals as goal

pub unwrap-requires : goal.unwrap-requires
unwrap-requires c = rw c.read_number.ensures (is-there (length c.args.file.now) (decode (drop c.args.at c.args.file.now)) c.requires)

pub returns : goal.returns
returns c = sym c.unwrap.ensures ∙ c.read_number.ensures

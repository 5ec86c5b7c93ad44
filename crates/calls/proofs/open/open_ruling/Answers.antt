-- `open_ruling` meets its contract. Assumes nothing.
use mathlib.Core.Path.{◌≡◌}
use lib.ListN.{length}
use borrow.Author.Rules.{rules}
use Rattle.quantity.specs.Lists.{fold}
use Rattle.quantity.proofs.Lists.{length-of}
use Rattle.model.specs.Causes.{or_if, first_of, opens_ok}
use Rattle.model.specs.Step.{refusal_by}
use Rattle.calls.proofs.open.open_ruling.Goals as goal

-- 17 groups, as the type has it
pub returns : goal.returns
unfolding refusal_by first_of fold or_if opens_ok
returns c d = let n : length c.args.groups ≡ 17 = search (rules, length-of) in search rules

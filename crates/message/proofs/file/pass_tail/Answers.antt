-- `pass_tail` meets its contract: only a submission has energies. Assumes nothing.
use mathlib.Core.Path.{sym}
use Rattle.message.proofs.CountSteps.{counted}
use Rattle.message.proofs.FileSteps.{tail-not, tail-numbers}
use Rattle.message.proofs.file.pass_tail.Goals as goal

pub returns-then-kind-ne-SUBMISSION : goal.returns-then-kind-ne-SUBMISSION
returns-then-kind-ne-SUBMISSION c = tail-not c.args.room c.args.file.now c.args.at c.args.kind c.requires c.if-kind-ne-SUBMISSION.true

pub returns : goal.returns
returns c = tail-numbers c.args.room c.args.file.now c.args.at c.args.kind c.if-kind-ne-SUBMISSION.false (counted c.args.file.now c.args.at c.args.room (sym c.in_ok-count.ensures)) c.pass_numbers.ensures

-- `read_tail` meets its contract: only a submission has energies. Assumes nothing.
use lib.ListN.{length}
use Rattle.reader.proofs.ReaderSteps.{tail-series, tail-none}
use Rattle.reader.proofs.read_tail.Goals as goal

pub returns-then-kind-ne-SUBMISSION : goal.returns-then-kind-ne-SUBMISSION
returns-then-kind-ne-SUBMISSION c = tail-none c.args.file.now c.args.at (length c.args.series.now) c.args.kind c.args.series.now c.requires c.if-kind-ne-SUBMISSION.true

pub returns : goal.returns
returns c = tail-series c.args.file.now c.args.at (length c.args.series.now) c.args.kind c.args.series.now c.if-kind-ne-SUBMISSION.false c.read_series.ensures

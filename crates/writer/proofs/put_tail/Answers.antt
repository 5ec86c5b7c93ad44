-- `put_tail` meets its contract: only a submission has energies. Assumes nothing.
use Rattle.std.proofs.Common.{arith}
use Rattle.writer.proofs.WriterSteps.{put-nothing, few-words, words-fit, count-room, series-room, put-series, words-sent}
use Rattle.writer.proofs.put_tail.Goals as goal

pub returns-then-kind-ne-SUBMISSION : goal.returns-then-kind-ne-SUBMISSION
returns-then-kind-ne-SUBMISSION c = put-nothing c.args.kind c.args.series.now c.args.output.now c.args.at c.if-kind-ne-SUBMISSION.true

pub put_number-from-requires : goal.put_number-from-requires
put_number-from-requires c = (
  omega (arith, few-words c.args.kind c.args.series.now c.args.output.now c.args.at c.if-kind-ne-SUBMISSION.false c.requires.0 c.requires.1),
  count-room c.args.kind c.args.series.now c.args.output.now c.args.at c.if-kind-ne-SUBMISSION.false c.requires.0 c.requires.1,
)

pub put_words-requires : goal.put_words-requires
put_words-requires c = (
  rw (words-sent c.args.series.now) (words-fit c.args.kind c.args.series.now c.args.output.now c.args.at c.if-kind-ne-SUBMISSION.false c.requires.0 c.requires.1),
  rw (words-sent c.args.series.now) (series-room c.args.kind c.args.series.now c.args.output.now c.args.at c.if-kind-ne-SUBMISSION.false c.requires.0 c.requires.1 c.put_number-from.ensures),
)

pub returns : goal.returns
returns c =
    put-series c.args.kind c.args.series.now c.args.output.now c.args.at c.if-kind-ne-SUBMISSION.false c.requires.0 c.requires.1 c.put_number-from.ensures
    (rw (words-sent c.args.series.now) at c.put_words.ensures)

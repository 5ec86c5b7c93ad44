-- `size_tail` meets its contract: only a submission has energies. Assumes nothing.
use Rattle.std.proofs.Common.{◌≡◌, Err, ◌∙◌, length, arith, rules}
use Rattle.writer.proofs.Writing.{nine}
use Rattle.writer.proofs.WriterSteps.{size-none, size-goes, size-not, series-few, words-sized}
use Rattle.writer.proofs.size_tail.Goals as goal

pub returns-then-kind-ne-SUBMISSION : goal.returns-then-kind-ne-SUBMISSION
returns-then-kind-ne-SUBMISSION c = size-none c.args.kind c.args.series.now c.if-kind-ne-SUBMISSION.true

pub returns-in_err-size : goal.returns-in_err-size
returns-in_err-size c =
    let e : c.from_residual.result ≡ Err c.in_err-size.field-0.0 = search rules in
    e ∙ size-not c.args.kind c.args.series.now c.if-kind-ne-SUBMISSION.false c.if-n-gt-QUARTERS.false (words-sized c.args.series.now c.in_err-size.ensures)

pub overflow_add-result : goal.overflow_add-result
overflow_add-result c =
    omega (arith, series-few c.args.kind c.args.series.now c.if-kind-ne-SUBMISSION.false c.if-n-gt-QUARTERS.false (words-sized c.args.series.now c.in_ok-size.ensures), c.number_size.ensures, nine (length c.args.series.now))

pub returns : goal.returns
returns c =
    size-goes c.args.kind c.args.series.now c.if-kind-ne-SUBMISSION.false c.if-n-gt-QUARTERS.false c.number_size.ensures (words-sized c.args.series.now c.in_ok-size.ensures)

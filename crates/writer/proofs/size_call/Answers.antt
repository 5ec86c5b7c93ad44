-- `size_call` meets its contract: the kind, the fields, what follows them. Assumes nothing.
use Rattle.std.proofs.Common.{sym, take, arith}
use Rattle.writer.proofs.Writing.{nine}
use Rattle.writer.proofs.WriterSteps.{call-size, head-few, tail-small, fields-sized}
use Rattle.writer.proofs.size_call.Goals as goal

pub overflow_add-result : goal.overflow_add-result
overflow_add-result c =
    omega (arith, c.number_size.ensures, nine c.args.kind, head-few c.args.kind c.args.fields.now c.args.series.now c.fields_of.ensures (fields-sized (take c.fields_of.result c.args.fields.now) c.in_ok-head.ensures))

pub overflow_add-result-2 : goal.overflow_add-result-2
overflow_add-result-2 c =
    omega (arith, c.number_size.ensures, nine c.args.kind, head-few c.args.kind c.args.fields.now c.args.series.now c.fields_of.ensures (fields-sized (take c.fields_of.result c.args.fields.now) c.in_ok-head.ensures), tail-small c.args.kind c.args.fields.now c.args.series.now c.fields_of.ensures (sym c.in_ok-tail.ensures))

pub returns : goal.returns
returns c =
    call-size c.args.kind c.args.fields.now c.args.series.now c.fields_of.ensures c.number_size.ensures (fields-sized (take c.fields_of.result c.args.fields.now) c.in_ok-head.ensures) (sym c.in_ok-tail.ensures)

-- `emorizugu_write` meets its contract: the call that was written, and its length. Assumes nothing.
use mathlib.Core.Path.{refl}
use Rattle.host.specs.Call.{sent_as}
use Rattle.host.proofs.Places.{write-short, first_place, write-step, write-padded}
use Rattle.host.proofs.call.emorizugu_write.Goals as goal

pub returns-then-out-eq0 : goal.returns-then-out-eq0
returns-then-out-eq0 c = write-short (sent_as c.args.kind c.args.fields.now c.args.series.now) c.args.output.now c.args.out.now c.if-out-eq0.true

pub returns-in-Ok : goal.returns-in-Ok
returns-in-Ok c =
    write-step (sent_as c.args.kind c.args.fields.now c.args.series.now) c.args.output.now c.args.out.now c.if-out-eq0.false
    (write-padded c.args.kind c.args.fields.now c.args.series.now c.args.output.now c.pad_fields.ensures c.write_call.ensures) c.in-Ok.is refl (first_place c.args.out.now _ c.if-out-eq0.false)

pub returns-in-Err : goal.returns-in-Err
returns-in-Err c =
    write-step (sent_as c.args.kind c.args.fields.now c.args.series.now) c.args.output.now c.args.out.now c.if-out-eq0.false
    (write-padded c.args.kind c.args.fields.now c.args.series.now c.args.output.now c.pad_fields.ensures c.write_call.ensures) c.in-Err.is c.from.ensures refl

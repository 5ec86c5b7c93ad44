-- `emorizugu_read` meets its contract: what was read, and its places. Assumes nothing.
use mathlib.Core.Path.{refl, sym, ap, ◌∙◌}
use Rattle.std.specs.Prelude.{Ok}
use Rattle.host.proofs.Places.{read-short, read-step}
use Rattle.host.proofs.call.emorizugu_read.Goals as goal

pub returns-then-out-lt-PLACES : goal.returns-then-out-lt-PLACES
returns-then-out-lt-PLACES c = read-short c.args.file.now c.args.start c.args.series.now c.args.out.now c.if-out-lt-PLACES.true

pub returns-in-Ok-Some : goal.returns-in-Ok-Some
returns-in-Ok-Some c =
    read-step c.args.file.now c.args.start c.args.series.now c.args.out.now c.if-out-lt-PLACES.false (sym (c.in-Ok-Some.is ∙ ap Ok c.in-Ok-Some.field-0-is) ∙ c.read_call.ensures.0, c.read_call.ensures.1)
    refl (c.fill_out.ensures ∙ rw (c.kind_of-kind.ensures, c.numbers_of-fields.ensures))

pub returns-in-Ok-None : goal.returns-in-Ok-None
returns-in-Ok-None c =
    read-step c.args.file.now c.args.start c.args.series.now c.args.out.now c.if-out-lt-PLACES.false (sym (c.in-Ok-None.is ∙ ap Ok c.in-Ok-None.field-0-is) ∙ c.read_call.ensures.0, c.read_call.ensures.1) refl refl

pub returns-in-Err : goal.returns-in-Err
returns-in-Err c =
    read-step c.args.file.now c.args.start c.args.series.now c.args.out.now c.if-out-lt-PLACES.false (sym c.in-Err.is ∙ c.read_call.ensures.0, c.read_call.ensures.1) c.from.ensures refl

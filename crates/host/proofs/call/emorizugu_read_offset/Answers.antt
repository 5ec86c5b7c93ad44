-- `emorizugu_read_offset` meets its contract: the call that is passed over is the one that is read. Assumes nothing.
use mathlib.Core.Path.{sym, ◌∙◌}
use Rattle.host.proofs.Offsets.{offset-end, offset-passed, offset-refused}
use Rattle.host.proofs.call.emorizugu_read_offset.Goals as goal

pub returns-then-at-file : goal.returns-then-at-file
returns-then-at-file c = offset-end c.args.file.now c.args.start c.args.room c.if-at-file.true

pub returns-in-Ok : goal.returns-in-Ok
returns-in-Ok c = offset-passed c.args.file.now c.args.start c.args.room c.if-at-file.false (sym c.pass_any.ensures ∙ c.in-Ok.is)

pub returns-in-Err : goal.returns-in-Err
returns-in-Err c = offset-refused c.args.file.now c.args.start c.args.room c.if-at-file.false (sym c.pass_any.ensures ∙ c.in-Err.is)

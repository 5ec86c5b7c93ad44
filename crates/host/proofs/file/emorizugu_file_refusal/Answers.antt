-- `emorizugu_file_refusal` meets its contract: the verdict's number. Assumes nothing.
use mathlib.Core.Path.{sym, ap, ◌∙◌}
use Rattle.message.specs.File.{refusal_of}
use Rattle.host.proofs.file.emorizugu_file_refusal.Goals as goal

pub returns-in-Ok : goal.returns-in-Ok
returns-in-Ok c = ap refusal_of (sym c.in-Ok.is ∙ c.check_file.ensures)

pub returns-in-Err : goal.returns-in-Err
returns-in-Err c = c.from.ensures ∙ ap refusal_of (sym c.in-Err.is ∙ c.check_file.ensures)

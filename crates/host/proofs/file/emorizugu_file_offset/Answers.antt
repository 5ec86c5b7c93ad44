-- `emorizugu_file_offset` meets its contract: the verdict's offset. Assumes nothing.
use mathlib.Core.Path.{sym, ap, ◌∙◌}
use Rattle.message.specs.File.{offset_of}
use Rattle.host.proofs.file.emorizugu_file_offset.Goals as goal

pub returns-in-Ok : goal.returns-in-Ok
returns-in-Ok c = ap offset_of (sym c.in-Ok.is ∙ c.check_file.ensures)

pub returns-in-Err : goal.returns-in-Err
returns-in-Err c = ap offset_of (sym c.in-Err.is ∙ c.check_file.ensures)

-- `point_row` meets its contract. Assumes nothing.
use mathlib.Core.Path.{◌∙◌}
use Rattle.summary.proofs.table.point_row.Goals as goal

pub returns : goal.returns
returns c = c.point_places.ensures ∙ rw (c.selected_in-2.ensures, c.selected_in.ensures)

-- `try_figure` meets its contract. Assumes nothing.
use Rattle.std.proofs.Common.{refl, sym, ◌∙◌}
use Rattle.book.specs.Bytes.{figure_in}
use Rattle.book.proofs.Figures.{refused, no-figure}
use Rattle.book.proofs.figure.try_figure.Goals as goal

pub returns-in_err-check-clause-figure : goal.returns-in_err-check-clause-figure
unfolding figure_in
returns-in_err-check-clause-figure c = no-figure _ c.from_residual.ensures.0 ∙ rw (refused _ c.in_err-check.ensures) refl

pub returns-clause-figure : goal.returns-clause-figure
unfolding figure_in
returns-clause-figure c = rw (sym c.in_ok-check.ensures, sym c.row_start-start.ensures) c.word_at.ensures

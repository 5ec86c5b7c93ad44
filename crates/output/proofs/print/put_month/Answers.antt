-- `put_month` meets its contract. Assumes nothing.
use mathlib.Core.Path.{refl}
use Rattle.text.specs.Text.{each_to}
use Rattle.text.proofs.Texts.{puts-then, puts-as}
use Rattle.output.specs.Output.{month_text}
use borrow.Author.Rules.{rules}
use Rattle.output.proofs.print.put_month.Goals as goal

pub returns : goal.returns
unfolding month_text each_to
returns c = puts-as (puts-then c.put_run.ensures c.put_run-2.ensures) (search rules) refl

-- `put_ending` meets its contract. Assumes nothing.
use Rattle.text.proofs.Texts.{puts-none, puts-then, puts-as}
use borrow.Author.Rules.{rules}
use Rattle.output.proofs.print.put_ending.Goals as goal

pub returns-in-End : goal.returns-in-End
returns-in-End c = puts-as (puts-then c.put_month.ensures c.put_selections.ensures) (search rules) (rw c.in-End.is)

pub returns-in-Refused : goal.returns-in-Refused
returns-in-Refused c = puts-as c.refusal_line.ensures (search rules) (rw (c.in-Refused.is, c.from.ensures))

pub returns-in-Full : goal.returns-in-Full
returns-in-Full c = puts-as (puts-none _) (search rules) (rw c.in-Full.is)

-- `number_of` meets its contract. Assumes nothing.
use Rattle.std.proofs.Common.{ap, sym, ◌∙◌, arith}
use Rattle.workdays.specs.declared.Month.{Month}
use Rattle.workdays.specs.Date.{index_of}
use Rattle.workdays.specs.Count.{worked}
use Rattle.calendar.proofs.Days.{month-before, in-same, least, in-later}
use Rattle.calendar.proofs.answers.number_of.Goals as goal

pub returns-then-to-from : goal.returns-then-to-from
returns-then-to-from c = sym (month-before _ _ c.requires.0 c.requires.1 _ _ c.place-from.ensures.0 (c.place-to.ensures.0 ∙ ap index_of c.from-month.ensures) c.if-to-from.true)

pub returns-then-to-from-2 : goal.returns-then-to-from-2
returns-then-to-from-2 c = c.then_some.ensures ∙ in-same _ _ c.requires.0 c.requires.1 _ _ c.place-from.ensures.0 (c.place-to.ensures.0 ∙ ap index_of c.from-month.ensures) c.if-to-from-2.true _ c.days.ensures.0

pub overflow_sub-n : goal.overflow_sub-n
overflow_sub-n c = least _ _ c.requires.0 c.requires.1 _ _ c.place-from.ensures.0 (c.place-to.ensures.0 ∙ ap index_of c.from-month.ensures) (omega (arith, c.if-to-from.false, c.if-to-from-2.false)) _ _ _ c.entry.ensures.0 (c.worked_in.ensures.0 ∙ ap (λ (k : Month). worked k c.args.date.day) c.from-month.ensures) c.entry-2.ensures.0

pub returns : goal.returns
returns c = c.then_some-2.ensures ∙ in-later _ _ c.requires.0 c.requires.1 _ _ c.place-from.ensures.0 (c.place-to.ensures.0 ∙ ap index_of c.from-month.ensures) (omega (arith, c.if-to-from.false, c.if-to-from-2.false)) _ _ _ c.entry.ensures.0 (c.worked_in.ensures.0 ∙ ap (λ (k : Month). worked k c.args.date.day) c.from-month.ensures) c.entry-2.ensures.0

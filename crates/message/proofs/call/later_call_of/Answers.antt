-- `later_call_of` meets its contract, by the kind. Assumes nothing.
use borrow.Author.Tests.{eq-eqb, ne_eqb}
use Rattle.message.specs.Named.{later_call_of}
use Rattle.message.proofs.call.later_call_of.Goals as goal

pub returns-then-kind-eq-SUBMISSION : goal.returns-then-kind-eq-SUBMISSION
unfolding later_call_of
returns-then-kind-eq-SUBMISSION c = rw (eq-eqb _ 4 c.if-kind-eq-SUBMISSION.true)

pub returns-then-kind-eq-NOTICE : goal.returns-then-kind-eq-NOTICE
unfolding later_call_of
returns-then-kind-eq-NOTICE c = rw (ne_eqb _ 4 c.if-kind-eq-SUBMISSION.false, eq-eqb _ 5 c.if-kind-eq-NOTICE.true)

pub returns-then-kind-eq-ASSIGNMENT : goal.returns-then-kind-eq-ASSIGNMENT
unfolding later_call_of
returns-then-kind-eq-ASSIGNMENT c = rw (ne_eqb _ 4 c.if-kind-eq-SUBMISSION.false, ne_eqb _ 5 c.if-kind-eq-NOTICE.false, eq-eqb _ 6 c.if-kind-eq-ASSIGNMENT.true)

pub returns-then-kind-eq-CLOSING : goal.returns-then-kind-eq-CLOSING
unfolding later_call_of
returns-then-kind-eq-CLOSING c = rw (ne_eqb _ 4 c.if-kind-eq-SUBMISSION.false, ne_eqb _ 5 c.if-kind-eq-NOTICE.false, ne_eqb _ 6 c.if-kind-eq-ASSIGNMENT.false, eq-eqb _ 7 c.if-kind-eq-CLOSING.true)

pub returns-then-kind-eq-ISSUING : goal.returns-then-kind-eq-ISSUING
unfolding later_call_of
returns-then-kind-eq-ISSUING c = rw (ne_eqb _ 4 c.if-kind-eq-SUBMISSION.false, ne_eqb _ 5 c.if-kind-eq-NOTICE.false, ne_eqb _ 6 c.if-kind-eq-ASSIGNMENT.false, ne_eqb _ 7 c.if-kind-eq-CLOSING.false, eq-eqb _ 8 c.if-kind-eq-ISSUING.true)

pub returns : goal.returns
unfolding later_call_of
returns c = rw (ne_eqb _ 4 c.if-kind-eq-SUBMISSION.false, ne_eqb _ 5 c.if-kind-eq-NOTICE.false, ne_eqb _ 6 c.if-kind-eq-ASSIGNMENT.false, ne_eqb _ 7 c.if-kind-eq-CLOSING.false, ne_eqb _ 8 c.if-kind-eq-ISSUING.false)

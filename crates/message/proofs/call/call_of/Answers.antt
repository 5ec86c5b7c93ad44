-- `call_of` meets its contract, by the kind. Assumes nothing.
use borrow.Author.Tests.{eq-eqb, ne_eqb}
use Rattle.message.specs.Named.{call_of}
use Rattle.message.proofs.call.call_of.Goals as goal

pub returns-then-kind-eq-OPENING : goal.returns-then-kind-eq-OPENING
unfolding call_of
returns-then-kind-eq-OPENING c = rw (eq-eqb _ 1 c.if-kind-eq-OPENING.true)

pub returns-then-kind-eq-ACTIVATION : goal.returns-then-kind-eq-ACTIVATION
unfolding call_of
returns-then-kind-eq-ACTIVATION c = rw (ne_eqb _ 1 c.if-kind-eq-OPENING.false, eq-eqb _ 2 c.if-kind-eq-ACTIVATION.true)

pub returns-then-kind-eq-DEACTIVATION : goal.returns-then-kind-eq-DEACTIVATION
unfolding call_of
returns-then-kind-eq-DEACTIVATION c = rw (ne_eqb _ 1 c.if-kind-eq-OPENING.false, ne_eqb _ 2 c.if-kind-eq-ACTIVATION.false, eq-eqb _ 3 c.if-kind-eq-DEACTIVATION.true)

pub returns : goal.returns
unfolding call_of
returns c = rw (ne_eqb _ 1 c.if-kind-eq-OPENING.false, ne_eqb _ 2 c.if-kind-eq-ACTIVATION.false, ne_eqb _ 3 c.if-kind-eq-DEACTIVATION.false) c.later_call_of.ensures

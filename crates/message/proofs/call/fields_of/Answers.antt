-- `fields_of` meets its contract, kind after kind. Assumes nothing.
use Rattle.message.proofs.Calls.{fields-other}
use Rattle.message.proofs.call.fields_of.Goals as goal

pub returns : goal.returns
returns c = fields-other _ c.if-kind-eq-OPENING.false c.if-kind-eq-ACTIVATION.false c.if-kind-eq-DEACTIVATION.false c.if-kind-eq-SUBMISSION.false c.if-kind-eq-NOTICE.false c.if-kind-eq-ASSIGNMENT.false c.if-kind-eq-CLOSING.false c.if-kind-eq-ISSUING.false

-- `status_answer` meets its contract. Assumes nothing.
use Rattle.model.specs.Step.{status_answer}
use Rattle.calls.proofs.status.status_answer.Goals as goal

pub returns-in-None : goal.returns-in-None
unfolding status_answer
returns-in-None c = rw c.in-None.is

pub returns-in-Some : goal.returns-in-Some
unfolding status_answer
returns-in-Some c = rw c.in-Some.is

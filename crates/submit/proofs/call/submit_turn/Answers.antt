-- `submit_turn` meets its contract. Assumes nothing.
use Rattle.submit.proofs.call.submit_turn.Goals as goal

pub returns : goal.returns
returns c =
    rw (c.raised_if-new2.ensures, c.raised_if-new1.ensures, c.counts_in.ensures, c.counts_in-2.ensures, c.submitted_status-status.ensures)

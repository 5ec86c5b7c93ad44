-- `amend` meets its contract: each run's delta groups are within the limits. Assumes nothing.
use Rattle.state.proofs.Bounds.{deltas-in}
use Rattle.amend.proofs.runs.amend.Goals as goal

pub amend_run-requires-clause-groups_value : goal.amend_run-requires-clause-groups_value
amend_run-requires-clause-groups_value c =
    let r = c.requires.groups_value in
    (deltas-in c.args.groups r.0 1, r.1)

pub amend_run-requires-2-clause-groups_value : goal.amend_run-requires-2-clause-groups_value
amend_run-requires-2-clause-groups_value c =
    let r = c.requires.groups_value in
    (deltas-in c.args.groups r.0 2, r.1)

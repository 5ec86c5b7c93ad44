-- `move_delta` meets its contract: the area's old delta group in each run is a group. Assumes nothing.
use Rattle.state.proofs.Bounds.{deltas-in}
use Rattle.model.proofs.SeriesTable.{group-small}
use Rattle.amend.proofs.delta.move_delta.Goals as goal

pub move_run-requires-clause-area_le_areas : goal.move_run-requires-clause-area_le_areas
move_run-requires-clause-area_le_areas c =
    let gs = c.args.groups in
    let r = c.requires.area_le_areas in
    (r.0, group-small gs.first (deltas-in gs r.2 1) c.args.area, r.1)

pub move_run-requires-2-clause-area_le_areas : goal.move_run-requires-2-clause-area_le_areas
move_run-requires-2-clause-area_le_areas c =
    let gs = c.args.groups in
    let r = c.requires.area_le_areas in
    (r.0, group-small gs.second (deltas-in gs r.2 2) c.args.area, r.1)

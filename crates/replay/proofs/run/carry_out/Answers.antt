-- `carry_out` meets its contract: what is settled is a desk within its limits. Assumes nothing.
use Rattle.state.proofs.Bounds.{sound}
use Rattle.state.proofs.TopVersions.{points-in}
use Rattle.replay.proofs.run.carry_out.Goals as goal

pub settle_held-requires : goal.settle_held-requires
settle_held-requires c =
    let d = c.args.desk.now in
    let v = sound d (rw c.in-Settled.is at c.requires.fits) in
    record { count_le_most_versions = v.count; points_in = points-in d v }

-- `point_places` meets its contract. Assumes nothing.
use Rattle.summary.proofs.table.point_places.Goals as goal

pub returns-in-Free : goal.returns-in-Free
returns-in-Free c =
    let b = c in
    rw (c.in-Free.is, b.status_of-t.ensures, b.status_of-s.ensures, b.version_of-y.ensures, b.version_of-x.ensures)

pub returns-in-Active : goal.returns-in-Active
returns-in-Active c =
    let b = c in
    rw (c.in-Active.is, b.status_of-t.ensures, b.status_of-s.ensures, b.version_of-y.ensures, b.version_of-x.ensures)

-- `surveyed` meets its contract, part by part. Assumes nothing.
use Rattle.checks.proofs.surveys.surveyed.Goals as goal

pub returns : goal.returns
returns c = let c2 = c in
    let c1 = c2 in
    let c0 = c1 in
    rw (
      c.raised_if-2.ensures,
      c.is_counted-2.ensures,
      c2.raised_if.ensures,
      c2.is_counted.ensures,
      c1.higher.ensures,
      c1.is_at.ensures,
      c0.or_held.ensures,
      c0.row_at-row.ensures,
    )

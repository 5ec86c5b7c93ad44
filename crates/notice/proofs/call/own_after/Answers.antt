-- `own_after` meets its contract. Assumes nothing.
use Rattle.notice.proofs.call.own_after.Goals as goal

pub returns-then-verdict-is_check : goal.returns-then-verdict-is_check
returns-then-verdict-is_check c =
    let s = c in
    rw (c.in-Some.is, ← s.is_check.ensures, ← s.counts_in.ensures, c.if-verdict-is_check.true, c.raised_earlier.ensures, c.row_at.ensures, c.restated.ensures)

pub returns-else-verdict-is_check : goal.returns-else-verdict-is_check
returns-else-verdict-is_check c =
    let s = c in
    rw (c.in-Some.is, ← s.is_check.ensures, ← s.counts_in.ensures, c.if-verdict-is_check.false)

-- `put_row` meets its contract. Assumes nothing.
use Rattle.book.proofs.Rows.{back}
use Rattle.amend.proofs.copies.put_row.Goals as goal

pub returns : goal.returns
returns c = back c.args.store.now c.args.start _ c.copy_over.ensures

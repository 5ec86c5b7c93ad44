-- `repost` meets its contract. Assumes nothing.
use mathlib.Core.Path.{◌∙◌}
use Rattle.book.proofs.Rows.{lent, back}
use Rattle.book.proofs.Postings.{reposted}
use borrow.Author.Rules.{rules}
use Rattle.book.proofs.posting.repost.Goals as goal

pub returns : goal.returns
returns c =
    let a = c.args in
    back a.book.now a.start a.q (simp lent at c.replace_row.ensures)
    ∙ reposted a.way a.book.now a.start a.q a.values.now a.old a.new (search rules)

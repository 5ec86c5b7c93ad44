-- `word_at` meets its contract. Assumes nothing.
use Rattle.std.proofs.Common.{ap, ◌∙◌}
use Rattle.std.specs.Int.{w64, from_le_bytes}
use Rattle.book.proofs.Numbers.{le-bytes}
use Rattle.book.proofs.figure.word_at.Goals as goal

pub returns : goal.returns
returns c =
    let whole = rw c.unwrap-bytes.ensures at c.try_into.ensures.1 in
    c.from_le_bytes.ensures ∙ ap (from_le_bytes w64) whole.same ∙ le-bytes _ _ c.requires

-- `words_size` meets its contract: the numbers that were counted. Assumes nothing.
use mathlib.Core.List.{map}
use Rattle.writer.proofs.Writing.{Sizing}
use Rattle.writer.proofs.words_size.Given as goal

abbrev pub invariant-loop-word : goal.invariant-loop-word
invariant-loop-word g l = Sizing (map g.W.Word.sent_for l.words) l.size l.word-index

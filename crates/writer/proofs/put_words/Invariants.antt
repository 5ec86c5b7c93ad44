-- `put_words` meets its contract: the numbers that were written. Assumes nothing.
use mathlib.Core.List.{map}
use Rattle.writer.proofs.Writing.{Placing}
use Rattle.writer.proofs.put_words.Given as goal

abbrev pub invariant-loop-word : goal.invariant-loop-word
invariant-loop-word g l = Placing (map g.W.Word.sent_for l.words) l.initial.output l.at l.output l.next l.word-index

-- `words_size` meets its contract: the numbers that were counted. Assumes nothing.
use Rattle.std.proofs.Common.{sym, ◌∙◌, arith}
use Rattle.std.proofs.lemmas.List.{get_or-map, length-map}
use Rattle.writer.proofs.Writing.{sizing, sized-more, sized-not, nine}
use Rattle.writer.proofs.words_size.Goals as goal

pub loop-word-init : goal.loop-word-init
loop-word-init g c = sizing _

pub returns-then-number-ge-LIMIT : goal.returns-then-number-ge-LIMIT
returns-then-number-ge-LIMIT g c =
    sized-not c.loop-word.invariant (omega (arith, length-map c.args.words.now g.W.Word.sent_for))
    (c.number_of-number.ensures ∙ sym (get_or-map g.W.Word.sent_for c.args.words.now _ 0 0 c.loop-word-test.true)) c.if-number-ge-LIMIT.true

pub overflow_add-size : goal.overflow_add-size
overflow_add-size g c = omega (arith, c.loop-word.invariant.few, c.number_size-size.ensures, nine c.number_of-number.result, c.requires)

pub loop-word-preserved : goal.loop-word-preserved
loop-word-preserved g c =
    sized-more c.loop-word.invariant (omega (arith, length-map c.args.words.now g.W.Word.sent_for))
    (c.number_of-number.ensures ∙ sym (get_or-map g.W.Word.sent_for c.args.words.now _ 0 0 c.loop-word-test.true)) c.if-number-ge-LIMIT.false c.number_size-size.ensures

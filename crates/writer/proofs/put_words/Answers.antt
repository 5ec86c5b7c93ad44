-- `put_words` meets its contract: the numbers that were written. Assumes nothing.
use Rattle.std.proofs.Common.{map, sym, ◌∙◌, arith}
use Rattle.std.proofs.lemmas.List.{get_or-map, length-map}
use Rattle.writer.proofs.Writing.{placing, placed-more, row-room, row-fits}
use Rattle.writer.proofs.put_words.Goals as goal

pub loop-word-init : goal.loop-word-init
loop-word-init g c = placing _ _ _

pub put_number-next-requires : goal.put_number-next-requires
put_number-next-requires g c =
    let h = length-map c.args.words.now g.W.Word.sent_for in
    let e = c.number_of.ensures ∙ sym (get_or-map g.W.Word.sent_for c.args.words.now _ 0 0 c.loop-word-test.true) in (
      row-fits (map g.W.Word.sent_for c.args.words.now) _ _ c.requires.0 (omega arith) e,
      row-room c.loop-word.invariant c.requires.1 (omega arith) e,
    )

pub loop-word-preserved : goal.loop-word-preserved
loop-word-preserved g c =
    placed-more c.loop-word.invariant c.requires.1 (omega (arith, length-map c.args.words.now g.W.Word.sent_for))
    (c.number_of.ensures ∙ sym (get_or-map g.W.Word.sent_for c.args.words.now _ 0 0 c.loop-word-test.true))
    c.put_number-next.ensures.0 c.put_number-next.ensures.1

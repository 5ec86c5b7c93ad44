-- `put_call` meets its contract: the kind, the fields, what follows them. Assumes nothing.
use Rattle.std.proofs.Common.{refl, take}
use Rattle.std.proofs.lemmas.List.{map-id}
use Rattle.writer.proofs.WriterSteps.{kind-fits, kind-room, fields-fit, tail-fits, fields-room, tail-room, put-whole}
use Rattle.writer.proofs.put_call.Goals as goal

pub put_number-head-requires : goal.put_number-head-requires
put_number-head-requires c = (kind-fits c.args.kind c.requires.0, kind-room c.args.kind c.args.fields.now c.args.series.now c.args.output.now refl c.requires.2 c.requires.3)

pub put_words-tail-requires : goal.put_words-tail-requires
put_words-tail-requires c = (
  rw (map-id (take c.fields_of.result c.args.fields.now)) (fields-fit c.args.kind c.args.fields.now c.args.series.now c.args.output.now c.fields_of.ensures c.requires.2 c.requires.3),
  rw (map-id (take c.fields_of.result c.args.fields.now)) (fields-room c.args.kind c.args.fields.now c.args.series.now c.args.output.now c.fields_of.ensures c.requires.2 c.requires.3 c.put_number-head.ensures),
)

pub put_tail-requires : goal.put_tail-requires
put_tail-requires c = (
  tail-fits c.args.kind c.args.fields.now c.args.series.now c.args.output.now c.fields_of.ensures c.requires.2 c.requires.3,
  tail-room c.args.kind c.args.fields.now c.args.series.now c.args.output.now c.fields_of.ensures c.requires.2 c.requires.3 c.put_number-head.ensures
      (rw (map-id (take c.fields_of.result c.args.fields.now)) at c.put_words-tail.ensures),
)

pub returns : goal.returns
returns c =
    put-whole c.args.kind c.args.fields.now c.args.series.now c.args.output.now c.fields_of.ensures c.requires.2 c.requires.3 c.put_number-head.ensures
    (rw (map-id (take c.fields_of.result c.args.fields.now)) at c.put_words-tail.ensures) c.put_tail.ensures

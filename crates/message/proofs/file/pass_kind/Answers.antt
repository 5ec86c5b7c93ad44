-- `pass_kind` meets its contract: the kind, its fields, what follows them. Assumes nothing.
use mathlib.Core.Path.{sym, ◌∙◌}
use Rattle.message.proofs.FileSteps.{kind-bad, fields-placed, kind-goes}
use Rattle.message.proofs.file.pass_kind.Goals as goal

pub returns-then-not-kind_ok : goal.returns-then-not-kind_ok
returns-then-not-kind_ok c = kind-bad c.args.room c.args.file.now c.args.from c.args.kind (sym c.kind_ok.ensures ∙ c.if-not-kind_ok.true)

pub pass_tail-requires : goal.pass_tail-requires
pass_tail-requires c = (fields-placed c.args.file.now c.args.from _ c.requires (sym c.in_ok-after.ensures)).within

pub returns : goal.returns
returns c =
    let known = sym c.kind_ok.ensures ∙ c.if-not-kind_ok.false in
    kind-goes c.args.room c.args.file.now c.args.from c.args.kind known c.fields_of.ensures (fields-placed c.args.file.now c.args.from _ c.requires (sym c.in_ok-after.ensures)) c.pass_tail.ensures

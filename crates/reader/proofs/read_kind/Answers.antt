-- `read_kind` meets its contract: the kind, its fields, what follows them. Assumes nothing.
use mathlib.Core.Path.{sym, ◌∙◌}
use native.Mathlib.Omega.{arith}
use lib.ListN.{length}
use Rattle.std.proofs.lemmas.Result.{err_from_is_err_and}
use Rattle.message.proofs.Calls.{fields-few}
use Rattle.reader.proofs.ReaderSteps.{fields-to, fields-not, call-refused, kind-33, kind-fields, kind-cut, kind-ok}
use Rattle.reader.proofs.read_kind.Goals as goal

pub returns-then-not-kind_ok : goal.returns-then-not-kind_ok
returns-then-not-kind_ok c = call-refused c.args.file.now _ c.args.series.now (kind-33 (length c.args.series.now) c.args.kind _ (sym c.kind_ok.ensures ∙ c.if-not-kind_ok.true))

pub read_fields-requires : goal.read_fields-requires
read_fields-requires c = (c.requires, omega (arith, c.fields_of.ensures, fields-few c.args.kind))

pub returns-in_err-read : goal.returns-in_err-read
returns-in_err-read c =
    let p = err_from_is_err_and c.from_residual.result c.from_residual.ensures.1 in
    rw (p.1, p.2)
    (call-refused c.args.file.now _ c.args.series.now
    (kind-fields c.args.file.now c.args.from (length c.args.series.now) c.args.kind (sym c.kind_ok.ensures ∙ c.if-not-kind_ok.false) c.fields_of.ensures (fields-not c.args.file.now c.args.from _ c.in_err-read.ensures)))

pub read_tail-requires : goal.read_tail-requires
read_tail-requires c = (fields-to c.args.file.now c.args.from _ c.requires c.in_ok-read.ensures).within

pub returns-in_err-tail : goal.returns-in_err-tail
returns-in_err-tail c =
    let p = err_from_is_err_and c.from_residual-in_err-tail.result c.from_residual-in_err-tail.ensures.1 in
    rw (p.1, p.2)
    (kind-cut c.args.file.now c.args.from (length c.args.series.now) c.args.kind (sym c.kind_ok.ensures ∙ c.if-not-kind_ok.false) c.fields_of.ensures
    (fields-to c.args.file.now c.args.from _ c.requires c.in_ok-read.ensures) c.args.series.now c.in_err-tail.ensures.1 c.in_err-tail.ensures.0)

pub returns : goal.returns
returns c =
    kind-ok c.args.file.now c.args.from (length c.args.series.now) c.args.kind (sym c.kind_ok.ensures ∙ c.if-not-kind_ok.false) c.fields_of.ensures
    (fields-to c.args.file.now c.args.from _ c.requires c.in_ok-read.ensures) c.args.series.now c.in_ok-tail.ensures.1 c.in_ok-tail.ensures.0 c.read_as.ensures

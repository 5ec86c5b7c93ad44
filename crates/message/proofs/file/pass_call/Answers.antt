-- `pass_call` meets its contract: a kind of one byte, its fields, what follows them. Assumes nothing.
use Rattle.std.proofs.lemmas.Result.{err_from_is_err_and}
use Prim.Native.Nat.{◌+◌}
use mathlib.Core.Path.{sym, ◌∙◌}
use native.Mathlib.Omega.{arith}
use Rattle.quantity.specs.Limits.{most_quarters}
use Rattle.message.proofs.Calls.{fields-few}
use Rattle.message.proofs.FileSteps.{kind-not, fields-placed, kind-goes, kind-at, call-goes}
use Rattle.message.proofs.file.pass_call.Goals as goal

pub pass_inside-requires : goal.pass_inside-requires
pass_inside-requires c = omega (arith, c.fields_of.ensures, fields-few c.from-kind.result)

pub pass_tail-requires : goal.pass_tail-requires
pass_tail-requires c = (fields-placed c.args.file.now (c.args.at + 1) _ (omega arith) (sym c.in_ok-after.ensures)).within

pub returns : goal.returns
returns c = call-goes most_quarters c.args.file.now c.args.at (kind-at c.args.file.now c.args.at (omega arith) c.from-kind.ensures (sym c.kind_ok.ensures ∙ c.if-not-kind_ok.false)) (kind-goes most_quarters c.args.file.now (c.args.at + 1) c.from-kind.result (sym c.kind_ok.ensures ∙ c.if-not-kind_ok.false) c.fields_of.ensures (fields-placed c.args.file.now (c.args.at + 1) _ (omega arith) (sym c.in_ok-after.ensures)) c.pass_tail.ensures)

pub returns-in_err-after : goal.returns-in_err-after
returns-in_err-after c =
    let p = err_from_is_err_and c.from_residual.result c.from_residual.ensures.1 in
    rw (p.1, p.2) (call-goes most_quarters c.args.file.now c.args.at (kind-at c.args.file.now c.args.at (omega arith) c.from-kind.ensures (sym c.kind_ok.ensures ∙ c.if-not-kind_ok.false)) (kind-not most_quarters c.args.file.now (c.args.at + 1) c.from-kind.result (sym c.kind_ok.ensures ∙ c.if-not-kind_ok.false) c.fields_of.ensures (sym c.in_err-after.ensures)))

-- `read_call` meets its contract: the end, the kind, the call. Assumes nothing.
use borrow.Author.Rules.{rules}
use mathlib.Core.Path.{sym, ◌∙◌}
use Rattle.std.proofs.lemmas.Result.{err_from_is_err_and}
use Rattle.message.proofs.Placed.{found}
use Rattle.message.proofs.Refusing.{goes-on, stands-at}
use Rattle.reader.proofs.ReaderSteps.{at-end, at-refused, at-kind}
use Rattle.reader.proofs.read_call.Goals as goal

pub returns-then-at-file : goal.returns-then-at-file
returns-then-at-file c = at-end c.args.file.now c.args.at c.args.series.now c.if-at-file.true

pub read_kind-requires : goal.read_kind-requires
read_kind-requires c = (found c.args.file.now c.args.at (sym c.read_number.ensures ∙ goes-on c.read_number.result c.map_err.result _ c.map_err.ensures.cases c.in_ok-kind.was)).within

pub returns-in_err-kind : goal.returns-in_err-kind
returns-in_err-kind c =
    let p = err_from_is_err_and c.from_residual.result c.from_residual.ensures.1 in
    let w = stands-at c.read_number.result c.map_err.result _ c.map_err.ensures.cases {at = c.args.at} (λ x y w. search rules) c.in_err-kind.was in
    rw (p.1, p.2, w.2) (at-refused c.args.file.now c.args.at c.args.series.now c.if-at-file.false (sym c.read_number.ensures ∙ w.1))

pub returns-in_err-read : goal.returns-in_err-read
returns-in_err-read c =
    let p = err_from_is_err_and c.from_residual-in_err-read.result c.from_residual-in_err-read.ensures.1 in
    let k = goes-on c.read_number.result c.map_err.result _ c.map_err.ensures.cases c.in_ok-kind.was in
    let w = stands-at c.read_kind.result c.map_err-2.result _ c.map_err-2.ensures.cases {at = c.args.at} (λ x y w. search rules) c.in_err-read.was in
    rw (p.1, p.2, w.2) (at-kind c.args.file.now c.args.at c.args.series.now c.if-at-file.false (sym c.read_number.ensures ∙ k) c.read_kind.ensures w.1)

pub returns : goal.returns
returns c =
    at-kind c.args.file.now c.args.at c.args.series.now c.if-at-file.false
    (sym c.read_number.ensures ∙ goes-on c.read_number.result c.map_err.result _ c.map_err.ensures.cases c.in_ok-kind.was) c.read_kind.ensures
    (goes-on c.read_kind.result c.map_err-2.result _ c.map_err-2.ensures.cases c.in_ok-read.was)

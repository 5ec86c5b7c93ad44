-- `due_by` meets its contract. Assumes nothing.
use mathlib.Core.Path.{◌≡◌, sym, ◌∙◌}
use mathlib.Core.Bool.{true, false}
use Rattle.model.specs.Log.{differ}
use Rattle.amend.proofs.log.due_by.Goals as goal

pub returns-then-differs : goal.returns-then-differs
returns-then-differs c =
    let t = c.args.t in
    let e : differ t.old1 t.new1 ≡ true = sym c.differs.ensures ∙ c.if-differs.true in
    rw (e, c.log_row.ensures)

pub returns-then-differs-2 : goal.returns-then-differs-2
returns-then-differs-2 c =
    let t = c.args.t in
    let e : differ t.old1 t.new1 ≡ false = sym c.differs.ensures ∙ c.if-differs.false in
    let f : differ t.old2 t.new2 ≡ true = sym c.differs-2.ensures ∙ c.if-differs-2.true in
    rw (e, f, c.log_row-then-differs-2.ensures)

pub returns : goal.returns
returns c =
    let t = c.args.t in
    let e : differ t.old1 t.new1 ≡ false = sym c.differs.ensures ∙ c.if-differs.false in
    let f : differ t.old2 t.new2 ≡ false = sym c.differs-2.ensures ∙ c.if-differs-2.false in
    rw (e, f)

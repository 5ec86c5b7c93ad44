-- `pass_numbers` meets its contract: beyond the end there is nothing, as at the end; else by blocks, and what they leave. Assumes nothing.
use mathlib.Core.Path.{sym, ap, ◌∙◌}
use mathlib.Core.List.{List}
use Prim.Native.Nat.{ℕ}
use native.Mathlib.Omega.{arith}
use lib.ListN.{length, drop_of_length-le}
use Rattle.message.specs.Number.{numbers_in}
use Rattle.message.specs.Offset.{passed_of}
use Rattle.message.proofs.pass.pass_numbers.Goals as goal

pub returns-then-file-at : goal.returns-then-file-at
returns-then-file-at c =
    let a = c.args in
    let s = a.file.now in
    c.pass_near.ensures
    ∙ ap (λ (l : List ℕ). passed_of (length s) (numbers_in a.n l)) (drop_of_length-le s {i = length s} (omega arith) ∙ sym (drop_of_length-le s {i = a.at} (omega (arith, c.if-file-at.true))))

pub returns : goal.returns
returns c = c.pass_from.ensures ∙ sym c.pass_blocks-reached.ensures.same

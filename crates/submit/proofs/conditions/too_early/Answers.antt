-- `too_early` meets its contract. Assumes nothing.
use Rattle.state.specs.Point.{since_of}
use mathlib.Core.Path.{sym}
use Prim.Native.Nat.{◌+◌, ◌-◌, ◌≤◌}
use native.Mathlib.Omega.{arith}
use borrow.Author.Tests.{lt-ltb, ltb-true}
use lib.Dec.{ltb}
use Rattle.quantity.proofs.Tests.{same-test}
use borrow.Author.Rules.{rules}
use Rattle.submit.proofs.conditions.too_early.Goals as goal

pub returns-then-day-lt2 : goal.returns-then-day-lt2
returns-then-day-lt2 c = sym (lt-ltb c.args.day.0 (since_of c.args.s + 2) (omega arith))

pub returns : goal.returns
returns c =
    let a = c.args in
    let low : 2 ≤ a.day.0 = search rules in
    let e = c.since_of-since.ensures in
    same-test (ltb (a.day.0 - 2) c.since_of-since.result.0) (ltb a.day.0 (since_of a.s + 2))
    (λ t. lt-ltb a.day.0 (since_of a.s + 2) (omega (arith, ltb-true (a.day.0 - 2) c.since_of-since.result.0 t)))
    (λ t. lt-ltb (a.day.0 - 2) c.since_of-since.result.0 (omega (arith, ltb-true a.day.0 (since_of a.s + 2) t)))

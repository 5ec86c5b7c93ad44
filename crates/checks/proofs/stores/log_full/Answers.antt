-- `log_full` meets its contract. Assumes nothing.
use Prim.Native.Nat.{◌+◌, ◌-◌, ◌*◌}
use native.Mathlib.Omega.{arith}
use borrow.Author.Tests.{lt-ltb, ltb-true}
use lib.Dec.{ltb}
use Rattle.quantity.proofs.Tests.{same-test}
use Rattle.checks.proofs.stores.log_full.Goals as goal

pub returns : goal.returns
returns c =
    let a = c.args in
    rw c.in-Some.is
    (same-test (ltb (a.log - 4 * a.used) 4) (ltb a.log (4 * (a.used + 1)))
    (λ t. lt-ltb a.log (4 * (a.used + 1)) (omega (arith, ltb-true (a.log - 4 * a.used) 4 t)))
    (λ t. lt-ltb (a.log - 4 * a.used) 4 (omega (arith, ltb-true a.log (4 * (a.used + 1)) t))))

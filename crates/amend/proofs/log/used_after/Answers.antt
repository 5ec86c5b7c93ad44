-- `used_after` meets its contract. Assumes nothing.
use Prim.Native.Nat.{◌+◌, ◌^◌, ◌<◌}
use native.Mathlib.Omega.{arith}
use Rattle.amend.proofs.log.used_after.Goals as goal

pub returns-in_default : goal.returns-in_default
returns-in_default c = rw c.in_default.is

pub overflow_add-result : goal.overflow_add-result
overflow_add-result c =
    let h : c.args.used + 1 < 2 ^ 64 = rw c.in-Some.is at c.requires in
    omega arith

pub returns : goal.returns
returns c = rw c.in-Some.is

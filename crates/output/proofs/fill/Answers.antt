-- `fill` meets its contract. Assumes nothing.
use Prim.Native.Nat.{ℕ}
use native.Mathlib.Omega.{arith}
use lib.ListN.{length-take, length-replicate}
use Rattle.output.proofs.Fills.{too-small, filled}
use Rattle.output.proofs.fill.Goals as goal

pub returns-then-out-lt-MOST : goal.returns-then-out-lt-MOST
returns-then-out-lt-MOST c = too-small _ _ c.if-out-lt-MOST.true

pub slice_bounds-put_output-end : goal.slice_bounds-put_output-end
slice_bounds-put_output-end c = simp length-take (omega (arith, c.min-n.ensures))

pub put_output-requires : goal.put_output-requires
put_output-requires c = (simp length-take (omega (arith, c.min-n.ensures)), omega arith, record { values = length-replicate {A = ℕ} 4096 0; book = length-replicate {A = ℕ} 1296 0; log = length-replicate {A = ℕ} 2048 0; schedules = length-replicate {A = ℕ} 512 0; series = length-replicate {A = ℕ} 2980 0; answers = length-replicate {A = ℕ} 21846 0 })

pub returns : goal.returns
returns c = filled _ _ _ _ _ c.if-out-lt-MOST.false c.put_output.auto.out c.min-n.ensures c.put_output.ensures

-- `fill_series` meets its contract: the energies that were stored, and the buffer as it was behind them. Assumes nothing.
use Prim.Native.Nat.{◌-◌}
use Rattle.message.proofs.Pouring.{Pouring}
use Rattle.message.proofs.series.fill_series.Given as goal

abbrev pub invariant-loop-i : goal.invariant-loop-i
invariant-loop-i l = Pouring l.file l.at l.n l.initial.series l.series l.j l.i

abbrev pub decreases-loop-i : goal.decreases-loop-i
decreases-loop-i l = l.n - l.i

-- `fill_series` meets its contract: the energies that were stored, and the buffer as it was behind them. Assumes nothing.
use mathlib.Core.Path.{sym}
use Rattle.message.proofs.Pouring.{pouring, poured-more, poured, known-next}
use Rattle.message.proofs.series.fill_series.Goals as goal

pub loop-i-init : goal.loop-i-init
loop-i-init c = pouring _ _ _ _ c.requires.0

pub known_number-known-requires : goal.known_number-known-requires
known_number-known-requires c = known-next c.loop-i.invariant c.loop-i-test.true c.requires.2

pub loop-i-preserved : goal.loop-i-preserved
loop-i-preserved c = poured-more c.loop-i.invariant c.loop-i-test.true c.requires.1 (sym c.known_number-known.ensures) c.received_of-energy.ensures

pub returns : goal.returns
returns c = poured c.loop-i.invariant c.loop-i-test.false

-- `read_fields` meets its contract: the fields that were read, and 0 behind them. Assumes nothing.
use mathlib.Core.Path.{sym}
use Rattle.std.proofs.lemmas.Result.{err_from_is_err_and}
use Rattle.reader.proofs.Filling.{filling, filled-more, all-filled, not-filled}
use Rattle.reader.proofs.read_fields.Goals as goal

pub loop-i-init : goal.loop-i-init
loop-i-init c = filling _ _ _ c.requires.0

pub returns-in_err-read : goal.returns-in_err-read
returns-in_err-read c = let p = err_from_is_err_and c.from_residual.result c.from_residual.ensures.1 in rw (p.1, p.2) (not-filled c.loop-i.invariant c.loop-i-test.true (sym c.in_err-read.ensures))

pub loop-i-preserved : goal.loop-i-preserved
loop-i-preserved c = filled-more c.loop-i.invariant c.loop-i-test.true c.requires.1 (sym c.in_ok-read.ensures)

pub returns : goal.returns
returns c = all-filled c.loop-i.invariant c.loop-i-test.false

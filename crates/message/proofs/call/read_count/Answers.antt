-- `read_count` meets its contract, by its number. Assumes nothing.
use mathlib.Core.Path.{sym}
use Rattle.message.proofs.CountSteps.{count-34, count-35, count-ok}
use Rattle.message.proofs.call.read_count.Goals as goal

pub returns-then-count-gt-QUARTERS : goal.returns-then-count-gt-QUARTERS
returns-then-count-gt-QUARTERS c = count-34 c.args.file.now c.args.at c.args.room (sym c.in_ok-count.ensures) c.if-count-gt-QUARTERS.true

pub returns-then-room-count : goal.returns-then-room-count
returns-then-room-count c = count-35 c.args.file.now c.args.at c.args.room (sym c.in_ok-count.ensures) c.if-count-gt-QUARTERS.false c.if-room-count.true

pub returns : goal.returns
returns c = count-ok c.args.file.now c.args.at c.args.room (sym c.in_ok-count.ensures) c.if-count-gt-QUARTERS.false c.if-room-count.false

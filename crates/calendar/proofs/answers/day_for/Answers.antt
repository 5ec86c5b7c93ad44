-- `day_for` meets its contract. Assumes nothing.
use Rattle.std.proofs.Common.{refl, sym}
use Rattle.calendar.proofs.Days.{no-such}
use Rattle.calendar.proofs.answers.day_for.Goals.{else-exists-via-then-exists+else-exists-2, else-exists-via-else-exists}
use Rattle.calendar.proofs.answers.day_for.Goals as goal

pub returns-else-exists : goal.returns-else-exists
returns-else-exists c =
    elim c.else-exists.branch [
      | else-exists-via-then-exists+else-exists-2 w ↦ sym (no-such c.args.settled c.args.date _ _ c.exists.ensures w.exists-then-exists.ensures (rw (w.if-exists.true, w.if-exists-2.false)))
      | else-exists-via-else-exists w ↦ sym (no-such c.args.settled c.args.date _ _ c.exists.ensures refl (rw w.if-exists.false))
    ]

-- `day_with` meets its contract. The loop: the working days among those passed, fewer than are looked for. Assumes nothing.
use Rattle.std.proofs.Common.{◌≡◌, ◌+◌, ◌-◌, ◌≤◌, ◌<◌}
use Rattle.workdays.specs.Count.{worked}
use Rattle.calendar.proofs.answers.day_with.Given as goal

abbrev pub invariant-loop-day : goal.invariant-loop-day
invariant-loop-day l = (l.count ≡ worked l.month (l.day - 1)) × ((l.count < l.working) × (l.day ≤ l.day-end + 1))

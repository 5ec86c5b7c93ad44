-- `entry` meets its contract: the table passes the running count. Assumes nothing.
use mathlib.Core.Path.{◌∙◌, subst⁻¹, ◌≡◌}
use Prim.Native.Nat.{ℕ, ◌*◌, ◌≤◌}
use Rattle.workdays.proofs.Counts.{before-most}
use Rattle.workdays.specs.Date.{leap, days_in, days_of, weekday}
use Rattle.workdays.specs.Rule.{full_moon, easter_day, off}
use Rattle.workdays.specs.Count.{worked, before}
use Rattle.calendar.proofs.Entries.{entries_from, every-entry}
use Rattle.calendar.proofs.table.entry.Goals as goal

bounded : {r : ℕ} (i : ℕ) → r ≡ before i → (r ≡ before i) × (r ≤ 31 * i)
bounded i e = (e, subst⁻¹ (λ (n : ℕ). n ≤ 31 * i) e (before-most i))

pub returns : goal.returns
unfolding entries_from worked off easter_day full_moon weekday days_of days_in leap
returns c = bounded c.args.i (c.from.ensures ∙ every-entry c.args.i c.requires)

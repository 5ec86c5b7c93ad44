-- `lodged` meets its contract. Assumes nothing.
use mathlib.Core.Path.{◌≡◌, refl}
use mathlib.Core.List.{map}
use Prim.Native.Nat.{◌+◌, ◌*◌, ◌≤◌}
use native.Mathlib.Omega.{arith}
use Rattle.quantity.specs.Limits.{groups, schedule_rows}
use Rattle.quantity.specs.Word.{word, signed}
use Rattle.quantity.proofs.Tests.{within-low, within-high}
use Rattle.deviation.specs.Place.{schedule_start}
use Rattle.deviation.proofs.Reports.{planned-within}
use Rattle.amend.proofs.Stored.{words-signed}
use Rattle.schedules.proofs.lodge.lodged.Goals.{Start}
use Rattle.schedules.proofs.lodge.lodged.Goals as goal

some : (c : Start) → 1 ≤ c.args.group
some c = within-low 1 groups c.args.group c.requires.sound.1

-- the group's row ends within the schedules
within : (c : Start) → let q = c.args.d.frame.opening.quarters in schedule_start q c.args.group + q ≤ schedule_rows * q
within c = planned-within c.args.d.frame.opening.quarters c.args.group (some c) (within-high 1 groups c.args.group c.requires.sound.1)

pub overflow_mul-start : goal.overflow_mul-start
overflow_mul-start c = let s = c in omega (arith, within (goal.at.overflow_mul-start c).Start, s.requires.sound.0.most)

pub put_row-requires : goal.put_row-requires
put_row-requires c =
    let s = c in
    omega (arith, within (goal.at.put_row-requires c).Start, s.requires.sound.0.schedules, s.requires.schedules_len, s.requires.series_len)

pub returns : goal.returns
returns c =
    let known = c in
    let a = known.args in
    let x = a.series.now in
    let words : map word (map signed x) ≡ x = words-signed x (λ i. omega (arith, known.shared_slice_known-1.given i)) in
    let e = c.put_day.ensures a.d refl in
    (e.0, λ s. record { answered = refl; held = e.1; planned = rw words (rw c.requires.series_len at c.put_row.ensures) })

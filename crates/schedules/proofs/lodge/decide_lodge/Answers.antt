-- `decide_lodge` meets its contract. Assumes nothing.
use mathlib.Core.Path.{sym, ◌∙◌}
use lib.ListN.{length}
use Rattle.model.specs.Call.{lengths_of}
use Rattle.checks.specs.Lent.{with_schedules_length}
use Rattle.checks.proofs.Deciding.{no_lengths, unmoved, schedule-refused, schedule-granted}
use Rattle.schedules.proofs.Allowed.{lodgeable}
use Rattle.schedules.proofs.lodge.decide_lodge.Goals as goal

pub lodged-requires : goal.lodged-requires
lodged-requires c =
    let a = c.args in
    let k =
    lodgeable _ _ _ a.series.now (with_schedules_length no_lengths (length a.schedules.now))
    (sym (c.lodge_ruling.ensures no_lengths) ∙ c.in-Ok.is) in
    record { sound = k.0; series_len = k.1.0; schedules_len = k.1.1 }

pub returns-in-Err : goal.returns-in-Err
returns-in-Err c =
    let u = unmoved _ c.refuse.ensures in
    (u.0, λ s. schedule-refused _ _ _ (c.lodge_ruling.ensures (lengths_of s)) c.in-Err.is u.1)

pub returns-in-Ok : goal.returns-in-Ok
returns-in-Ok c =
    let k = c.accept.ensures in
    let e = c.lodged.ensures in (
      rw k.1 e.0,
      λ s. schedule-granted _ _ _ (c.lodge_ruling.ensures (lengths_of s)) c.in-Ok.is
          (rw (k.0, k.1) (e.1 s)),
    )

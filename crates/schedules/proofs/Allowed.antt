-- What a lodging or a report that is not refused has passed. Assumes nothing.
use Prim.Native.Nat.{ℕ}
use mathlib.Core.Path.{◌≡◌, sym, ◌∙◌}
use mathlib.Core.Bool.{true}
use mathlib.Core.List.{List, map}
use borrow.Author.Tests.{eqb-true, not-false}
use lib.Dec.{eqb}
use lib.ListN.{length, length-map}
use Rattle.std.specs.Prelude.{Ok}
use Rattle.quantity.specs.Limits.{groups, runs, day_ok, group_ok, run_ok}
use Rattle.quantity.specs.Word.{signed}
use Rattle.quantity.proofs.Tests.{and-left, and-right, within-low, within-high}
use Rattle.deviation.specs.Month.{Reported}
use Rattle.state.specs.Valid.{Sound}
use Rattle.state.specs.declared.Desk.{Desk}
use Rattle.state.proofs.Bounds.{sound}
use Rattle.model.specs.Call.{lodges, reports, Lengths, telling}
use Rattle.model.specs.Step.{refusal_by}
use Rattle.checks.proofs.Deciding.{allowed, schedules-same, both-same}

-- a lodging: the desk is within its limits, the group is one, the series has Q energies and the schedules their length
pub lodgeable : (d : Desk) (group day : ℕ) (series : List ℕ) (n : Lengths) → refusal_by d (telling n (lodges group day (map signed series))) ≡ Ok tt
    → (Sound d × (group_ok group ≡ true)) × ((length series ≡ d.frame.opening.quarters) × (n.schedules ≡ d.frame.opening.schedules))
lodgeable d group day series n e =
    let h = allowed d (telling n (lodges group day (map signed series))) e in
    let fields = not-false _ h.1.1.1.0 in
    let f1 = and-right (group_ok group) _ fields in
    let f2 = and-right (day_ok day) _ f1 in
    let count = eqb-true (length (map signed series)) d.frame.opening.quarters (and-left (eqb (length (map signed series)) d.frame.opening.quarters) _ f2) in
    ((sound d (not-false _ h.0), and-left (group_ok group) _ fields), (sym (length-map series signed) ∙ count, schedules-same n d.frame.opening h.1.1.0))

-- a report: a run and a group, with a book and schedules of the month
pub reportable : (d : Desk) (run group : ℕ) (n : Lengths) → refusal_by d (telling n (reports run group)) ≡ Ok tt
    → Reported n.schedules n.book d.frame.opening.quarters run group
reportable d run group n e =
    let h = allowed d (telling n (reports run group)) e in
    let s = sound d (not-false _ h.0) in
    let f = not-false _ h.1.1.1.0 in
    let r = and-left (run_ok run) (group_ok group) f in
    let g = and-right (run_ok run) (group_ok group) f in
    let l = both-same n d.frame.opening h.1.1.0 in
    record {
      few = s.most;
      run_low = within-low 1 runs run r;
      run_high = within-high 1 runs run r;
      group_low = within-low 1 groups group g;
      group_high = within-high 1 groups group g;
      planned = l.0 ∙ s.schedules;
      booked = l.1 ∙ s.book;
    }

-- `notice_granted` meets its contract. Assumes nothing.
use Prim.Native.Nat.{◌<◌}
use mathlib.Core.Path.{◌≡◌, refl, ◌∙◌}
use lib.ListN.{set}
use Rattle.quantity.specs.Limits.{versions}
use Rattle.state.specs.Change.{confirm}
use Rattle.state.specs.Desk.{with_frame}
use Rattle.state.specs.Version.{record_at}
use Rattle.state.specs.declared.Desk.{Desk}
use Rattle.state.specs.declared.Status.TheVariants.{Check}
use Rattle.notice.specs.Notice.{StandsIn}
use Rattle.notice.proofs.Noticing.{noticed-table}
use Rattle.notice.proofs.call.notice_granted.Goals.{In-Some}
use Rattle.notice.proofs.call.notice_granted.Goals as goal

-- the version found is check data, at a place of the table
check : (c : In-Some) → (c.in-Some.found.at < versions) × (c.in-Some.found.record.status ≡ Check)
check c = rw c.in-Some.is at c.requires.check

-- and stands in a desk's versions
stands : (c : In-Some) (d : Desk) → StandsIn d.versions c.args.held → record_at d.versions c.in-Some.found.at ≡ c.in-Some.found.record
stands c d k = rw c.in-Some.is at k

pub returns-in_default : goal.returns-in_default
returns-in_default c = absurd (rw c.in_default.is at c.requires.check)

pub put_version-requires : goal.put_version-requires
put_version-requires c = (check (goal.at.put_version-requires c).In-Some).0

pub returns : goal.returns
returns c =
    let h = c in
    let a = c.args in
    let i = h.in-Some.found.at in
    let v = h.in-Some.found.record in
    let clearing = a.f.opening.clearing.0 in
    let g = c.follow-used.ensures in
    record {
      desk = λ d k.
          let table : set d.versions i c.noticed_record-after.result ≡ confirm clearing a.verdict a.day.0 a.held d.versions =
          rw (c.noticed_record-after.ensures, h.in-Some.is) (noticed-table clearing a.verdict a.day.0 i v d.versions (stands (goal.at.returns c).In-Some d k) (check (goal.at.returns c).In-Some).1) in
          let p = c.put_version.ensures (with_frame d a.f) refl in
          (p.0, p.1 ∙ rw (table, g.counted));
      booked = g.booked;
      noted = g.noted;
    }

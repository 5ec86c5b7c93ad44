-- `picks_of` meets its contract. The loop's invariant: the table has the picks of the records passed. Assumes nothing.
use native.Mathlib.Omega.{arith}
use Prim.Native.Nat.{◌<◌}
use mathlib.Core.Path.{◌≡◌, sym, ◌∙◌}
use lib.ListN.{length, get_or}
use borrow.Author.Rules.{rules}
use Rattle.quantity.proofs.Lists.{length-of}
use Rattle.quantity.specs.Limits.{point_ok}
use Rattle.state.specs.Version.{empty_version}
use Rattle.checks.proofs.Found.{place-in, records-taken}
use Rattle.checks.proofs.PickSteps.{picks-none, picks-more, picks-beside}
use Rattle.checks.proofs.picks.picks_of.Goals.{After-place_of-k, then-point_ok, else-point_ok}
use Rattle.checks.proofs.picks.picks_of.Goals as goal

pub loop-i-init : goal.loop-i-init
loop-i-init c =
    let a = c.args in
    let l : length a.versions ≡ 512 = search (rules, length-of) in
    let k = records-taken a.versions c.records_in-n.result a.count l c.records_in-n.ensures in
    (omega arith, k.0, l, k.1, rw c.no_picks-picks.ensures (picks-none a.versions))

-- the place of a point is within the table
place : (c : After-place_of-k) → c.place_of-k.result < 256
place c = rw c.place_of-k.ensures (place-in c.point_of-point.result.0)

pub offset_bounds-picks-k : goal.offset_bounds-picks-k
offset_bounds-picks-k c = omega (arith, place (goal.at.offset_bounds-picks-k c).After-place_of-k)

pub bounds-picks-k : goal.bounds-picks-k
bounds-picks-k c = place (goal.at.bounds-picks-k c).After-place_of-k

pub offset_bounds-picks-k-then-point_ok : goal.offset_bounds-picks-k-then-point_ok
offset_bounds-picks-k-then-point_ok c = omega (arith, place (goal.at.offset_bounds-picks-k-then-point_ok c).After-place_of-k)

pub bounds-picks-k-then-point_ok : goal.bounds-picks-k-then-point_ok
bounds-picks-k-then-point_ok c = place (goal.at.bounds-picks-k-then-point_ok c).After-place_of-k

pub loop-i-preserved : goal.loop-i-preserved
loop-i-preserved c =
    let s = c in
    let l = s.loop-i in
    let a = s.args in
    let v = get_or a.versions l.i empty_version in
    let e : c.point_of-point.result.0 ≡ v.point.0 = c.point_of-point.ensures in
    let t : c.point_ok.result ≡ point_ok v.point.0 = rw (← e) c.point_ok.ensures in (
      omega arith,
      l.invariant.1,
      l.invariant.2,
      l.invariant.3,
      elim c.if-point_ok.branch [
        | then-point_ok w ↦
            let ok = sym t ∙ w.if-point_ok.true in
            rw (w.picks-is, w.picked.ensures, w.place_of-k.ensures, e, ok) (picks-more a.versions l.picks l.i (omega arith) ok l.invariant.4)
        | else-point_ok w ↦
            rw w.picks-is (picks-beside a.versions l.picks l.i (omega arith) (sym t ∙ w.if-point_ok.false) l.invariant.4)
      ],
    )

pub returns : goal.returns
returns c =
    let l = c.loop-i in
    let e : l.i ≡ c.records_in-n.result = omega arith in
    rw (← l.invariant.3, ← e) l.invariant.4

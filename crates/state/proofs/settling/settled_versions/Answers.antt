-- `settled_versions` meets its contract, in two passes: the table has the highest versions of the records passed, then the records passed are
-- settled, the others as they were. Assumes nothing.
use Prim.Native.Nat.{◌≤◌}
use mathlib.Core.Path.{◌≡◌, refl, ◌∙◌}
use native.Mathlib.Omega.{arith}
use lib.ListN.{take, get_or}
use borrow.Author.Rules.{rules}
use Rattle.quantity.proofs.Lists.{length-of}
use Rattle.state.proofs.Lists.{map_first-none, map_first-next, map_first-more}
use Rattle.state.proofs.TopVersions.{point-in, point-range, tops-none, tops-more, settle-by}
use Rattle.state.specs.Change.{settle}
use Rattle.state.specs.Version.{empty_version}
use Rattle.state.proofs.settling.settled_versions.Goals.{In-loop-i, In-loop-i-2}
use Rattle.state.proofs.settling.settled_versions.Goals as goal

-- the point of the record that comes next is one that there is
range : (c : In-loop-i) → (1 ≤ (get_or c.args.versions c.loop-i.i empty_version).point.0) × ((get_or c.args.versions c.loop-i.i empty_version).point.0 ≤ 256)
range c =
    let s = c in
    point-range s.args.versions s.args.count c.loop-i.i s.requires.points_in (omega arith) (omega arith)

pub loop-i-init : goal.loop-i-init
loop-i-init c = let a = c.args in
    (omega arith, refl, c.requires.count_le_most_versions, search (rules, length-of), rw c.no_tops-tops.ensures (tops-none a.run a.versions))

pub offset_bounds-vs-i : goal.offset_bounds-vs-i
offset_bounds-vs-i c = omega arith

pub bounds-vs-i : goal.bounds-vs-i
bounds-vs-i c = omega arith

pub overflow_sub-k : goal.overflow_sub-k
overflow_sub-k c = let r = range (goal.at.overflow_sub-k c).In-loop-i in omega (arith, r.0, r.1)

pub overflow_cast-k : goal.overflow_cast-k
overflow_cast-k c = let r = range (goal.at.overflow_cast-k c).In-loop-i in omega (arith, r.0, r.1)

pub offset_bounds-tops-k : goal.offset_bounds-tops-k
offset_bounds-tops-k c = let r = range (goal.at.offset_bounds-tops-k c).In-loop-i in omega (arith, r.0, r.1)

pub bounds-tops-k : goal.bounds-tops-k
bounds-tops-k c = let r = range (goal.at.bounds-tops-k c).In-loop-i in omega (arith, r.0, r.1)

pub offset_bounds-tops-k-in-loop-i : goal.offset_bounds-tops-k-in-loop-i
offset_bounds-tops-k-in-loop-i c = let r = range (goal.at.offset_bounds-tops-k-in-loop-i c).In-loop-i in omega (arith, r.0, r.1)

pub bounds-tops-k-in-loop-i : goal.bounds-tops-k-in-loop-i
bounds-tops-k-in-loop-i c = let r = range (goal.at.bounds-tops-k-in-loop-i c).In-loop-i in omega (arith, r.0, r.1)

pub loop-i-smaller : goal.loop-i-smaller
loop-i-smaller c = omega arith

pub loop-i-preserved : goal.loop-i-preserved
loop-i-preserved c =
    let s = c in
    let a = s.args in
    let l = s.loop-i in
    let ok = point-in a.versions a.count l.i s.requires.points_in (omega arith) (omega arith) in (
      omega arith,
      refl,
      l.invariant.2,
      l.invariant.3,
      rw (c.higher.ensures, c.counts_in.ensures) (tops-more a.run a.versions l.tops l.i (omega arith) ok l.invariant.4),
    )

-- the record that comes next, as it was
next : (c : In-loop-i-2) → get_or c.loop-i-2.vs c.loop-i-2.i empty_version ≡ get_or c.args.versions c.loop-i-2.i empty_version
next c =
    let a = c.args in
    let l = c.loop-i-2 in
    rw l.invariant.5 (map_first-next (settle a.run (take a.count a.versions)) a.versions l.i empty_version)

range-2 : (c : In-loop-i-2) → (1 ≤ (get_or c.loop-i-2.vs c.loop-i-2.i empty_version).point.0) × ((get_or c.loop-i-2.vs c.loop-i-2.i empty_version).point.0 ≤ 256)
range-2 c =
    let s = c in
    rw (next c) (point-range s.args.versions s.args.count c.loop-i-2.i s.requires.points_in (omega arith) (omega arith))

pub loop-i-2-init : goal.loop-i-2-init
loop-i-2-init c =
    let a = c.args in
    let l = c.loop-i in
    let e : l.i ≡ a.count = omega arith in
    (omega arith, refl, l.invariant.2, l.invariant.3, rw e at l.invariant.4, map_first-none (settle a.run (take a.count a.versions)) a.versions)

pub offset_bounds-vs-i-in-loop-i-2 : goal.offset_bounds-vs-i-in-loop-i-2
offset_bounds-vs-i-in-loop-i-2 c = omega arith

pub bounds-vs-i-in-loop-i-2 : goal.bounds-vs-i-in-loop-i-2
bounds-vs-i-in-loop-i-2 c = omega arith

pub overflow_sub-k-in-loop-i-2 : goal.overflow_sub-k-in-loop-i-2
overflow_sub-k-in-loop-i-2 c = let r = range-2 (goal.at.overflow_sub-k-in-loop-i-2 c).In-loop-i-2 in omega (arith, r.0, r.1)

pub overflow_cast-k-in-loop-i-2 : goal.overflow_cast-k-in-loop-i-2
overflow_cast-k-in-loop-i-2 c = let r = range-2 (goal.at.overflow_cast-k-in-loop-i-2 c).In-loop-i-2 in omega (arith, r.0, r.1)

pub offset_bounds-tops-k-in-loop-i-2 : goal.offset_bounds-tops-k-in-loop-i-2
offset_bounds-tops-k-in-loop-i-2 c = let r = range-2 (goal.at.offset_bounds-tops-k-in-loop-i-2 c).In-loop-i-2 in omega (arith, r.0, r.1)

pub bounds-tops-k-in-loop-i-2 : goal.bounds-tops-k-in-loop-i-2
bounds-tops-k-in-loop-i-2 c = let r = range-2 (goal.at.bounds-tops-k-in-loop-i-2 c).In-loop-i-2 in omega (arith, r.0, r.1)

pub offset_bounds-vs-i-in-loop-i-2-2 : goal.offset_bounds-vs-i-in-loop-i-2-2
offset_bounds-vs-i-in-loop-i-2-2 c = omega arith

pub bounds-vs-i-in-loop-i-2-2 : goal.bounds-vs-i-in-loop-i-2-2
bounds-vs-i-in-loop-i-2-2 c = omega arith

pub loop-i-2-smaller : goal.loop-i-2-smaller
loop-i-2-smaller c = omega arith

pub loop-i-2-preserved : goal.loop-i-2-preserved
loop-i-2-preserved c =
    let s = c in
    let a = s.args in
    let l = s.loop-i-2 in
    let vs = take a.count a.versions in
    let ok = point-in a.versions a.count l.i s.requires.points_in (omega arith) (omega arith) in (
      omega arith,
      refl,
      l.invariant.2,
      l.invariant.3,
      l.invariant.4,
      rw (l.invariant.5, (rw (next (goal.at.loop-i-2-preserved c).In-loop-i-2) at c.settled_record.ensures) ∙ settle-by a.run vs s.loop-i.tops (get_or a.versions l.i empty_version) l.invariant.4 ok)
          (map_first-more (settle a.run vs) a.versions l.i empty_version (omega arith)),
    )

pub returns : goal.returns
returns c =
    let s = c in
    let e : s.loop-i-2.i ≡ s.args.count = omega arith in
    rw e at s.loop-i-2.invariant.5

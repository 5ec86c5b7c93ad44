-- `changed` meets its contract, by what becomes of the tables. Assumes nothing.
use Prim.Native.Nat.{◌<◌}
use native.Mathlib.Omega.{arith}
use Rattle.state.proofs.Bounds.{sound}
use Rattle.state.proofs.TopVersions.{points-in}
use mathlib.Core.Path.{refl}
use Rattle.state.proofs.effects.changed.Goals.{in-Same, in-Fresh, in-Point, in-Version, in-Settled, In-Point, In-Version}
use Rattle.state.proofs.effects.changed.Goals as goal

-- a record is put at a place of its table
point-place : (c : In-Point) → c.in-Point.at < 256
point-place c = rw c.in-Point.is at c.requires

version-place : (c : In-Version) → c.in-Version.at < 512
version-place c = rw c.in-Version.is at c.requires

pub offset_bounds-n-at : goal.offset_bounds-n-at
offset_bounds-n-at c = let h = point-place (goal.at.offset_bounds-n-at c).In-Point in omega (arith, h)

pub bounds-n-at : goal.bounds-n-at
bounds-n-at c = point-place (goal.at.bounds-n-at c).In-Point

pub offset_bounds-n-at-in-Version : goal.offset_bounds-n-at-in-Version
offset_bounds-n-at-in-Version c = let h = version-place (goal.at.offset_bounds-n-at-in-Version c).In-Version in omega (arith, h)

pub bounds-n-at-in-Version : goal.bounds-n-at-in-Version
bounds-n-at-in-Version c = version-place (goal.at.bounds-n-at-in-Version c).In-Version

pub settled_versions-n-requires : goal.settled_versions-n-requires
settled_versions-n-requires c =
    let s = c in
    let v = sound s.args.d (rw c.in-Settled.is at s.requires) in
    record { count_le_most_versions = v.count; points_in = points-in s.args.d v }

pub returns : goal.returns
returns c = elim c.match-e.branch [
  | in-Same w ↦ rw (w.n-is, w.in-Same.is) refl
  | in-Fresh w ↦ rw (w.n-is, w.in-Fresh.is, w.fresh_desk-n.ensures) refl
  | in-Point w ↦ rw (w.n-is, w.in-Point.is) refl
  | in-Version w ↦ rw (w.n-is, w.in-Version.is) refl
  | in-Settled w ↦ rw (w.n-is, w.in-Settled.is, w.settled_versions-n.ensures) refl
]

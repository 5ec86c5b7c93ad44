-- "Series and figures": every series moves its value from one side to another, and each delta is also added to its delta group.
use Rattle.std.specs.Prelude.{ℕ, Bool, false, cond, ◌&&◌, List, [], ltb, eqb, ℤ, pos, ◌+ℤ◌, ◌-ℤ◌, get_or}
use Rattle.quantity.specs.Limits.{points}
use Rattle.quantity.specs.Sum.{sum_to}
use Rattle.book.specs.Place.{group_row, delta_row}
use Rattle.state.specs.Groups.{groups_in}
use Rattle.state.specs.Point.{point_at}
use Rattle.state.specs.Selection.{selected}
use Rattle.state.specs.declared.PerRun.{PerRun}
use Rattle.state.specs.declared.PointState.{PointState}
use Rattle.state.specs.declared.PointState.TheVariants.{Free, Active}
use Rattle.state.specs.declared.PointRecord.{PointRecord}
use Rattle.state.specs.declared.Selection.{Selection}
use Rattle.state.specs.declared.Selection.TheVariants.{None, Selected}
use Rattle.state.specs.declared.VersionRecord.{VersionRecord}
use Rattle.model.specs.declared.Side.{Side}
use Rattle.model.specs.declared.Side.TheVariants.{Outside, Group, Delta}
use Rattle.model.specs.declared.Sides.{Sides}

-- "group g"
abbrev pub group_side : (group : ℕ) → Side
group_side g = Group (group_row g)

-- "Each delta is also added to its delta group." T is area 0 here
abbrev pub delta_side : (groups : List ℕ) (area : ℕ) → Side
delta_side gs a = Delta (delta_row a) (group_row (get_or gs a 0))

-- the table of series: what +v goes to
unfoldable pub to_side : (groups : List ℕ) (kind area partner : ℕ) → Side
to_side gs k a b =
    cond (eqb k 1) (delta_side gs a)
    (cond (eqb k 2) (group_side b)
    (cond (eqb k 3) (delta_side gs 0)
    (cond (eqb k 4) (group_side b)
    (cond (eqb k 5) (delta_side gs a)
    Outside))))

-- and what -v goes to; "-v delta of b if b ≥ 1": as a partner 0 is the outside, and not T
unfoldable pub from_side : (groups : List ℕ) (kind area partner : ℕ) → Side
from_side gs k a b =
    cond (eqb k 1) (cond (ltb 0 b) (delta_side gs b) Outside)
    (cond (eqb k 2) (delta_side gs a)
    (cond (eqb k 3) (delta_side gs a)
    (cond (eqb k 4) (delta_side gs 0)
    (cond (eqb k 5) (delta_side gs 0)
    Outside))))

-- the sides of a point's series
unfoldable pub sides_of : (groups : List ℕ) → PointState → Sides
sides_of gs Free = record { to = Outside; from = Outside }
sides_of gs (Active since kind area partner) =
    record { to = to_side gs kind.0 area.0 partner.0; from = from_side gs kind.0 area.0 partner.0 }

-- a value where the row is the one asked for
abbrev pub at_row : (row k : ℕ) → ℤ → ℤ
at_row r k v = cond (eqb r k) v (pos 0)

-- what a value on a side comes to in row k
unfoldable pub on_side : Side → (k : ℕ) → ℤ → ℤ
on_side Outside k v = pos 0
on_side (Group g) k v = at_row g k v
on_side (Delta x g) k v = at_row x k v +ℤ at_row g k v

-- "adds its value v to": what a series with these sides adds to row k
unfoldable pub adds : Sides → (k : ℕ) → ℤ → ℤ
adds s k v = on_side s.to k v -ℤ on_side s.from k v

-- "where a point has no selected version it adds nothing": the energy of the selected submission; quarter hours are counted from 0 here
unfoldable pub energy : List (List ℤ) → Selection → (quarter : ℕ) → ℤ
energy es None q = pos 0
energy es (Selected r) q = get_or (get_or es r.at []) q (pos 0)

-- "A figure is 0 plus what the selected versions' energies add by the table of series, each delta also added to its delta group."; document 02: "each
-- run under its own delta groups"
unfoldable pub figure_of : List PointRecord → PerRun (List ℕ) → List VersionRecord → List (List ℤ) → (run k quarter : ℕ) → ℤ
figure_of ps gs vs es run k q = sum_to points (λ (p : ℕ). adds (sides_of (groups_in run gs) (point_at ps p)) k (energy es (selected run p vs) q))

-- "points of kind 1 with partner 0"
unfoldable pub is_outside : PointState → Bool
is_outside Free = false
is_outside (Active since kind area partner) = eqb kind.0 1 && eqb partner.0 0

-- "The outside exchange of a run and quarter hour is the sum of the energies there of the versions that the list selects for the run
-- at points of kind 1 with partner 0."
unfoldable pub outside_of : List PointRecord → List VersionRecord → List (List ℤ) → (run quarter : ℕ) → ℤ
outside_of ps vs es run q = sum_to points (λ (p : ℕ). cond (is_outside (point_at ps p)) (energy es (selected run p vs) q) (pos 0))

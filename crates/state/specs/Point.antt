-- Points: free or active, numbered from 1.
use Rattle.std.specs.Prelude.{ℕ, zero, suc, Bool, true, false, cond, ◌&&◌, List, ltb, eqb, get_or, set}
use Rattle.quantity.specs.Limits.{area_ok, group_ok}
use Rattle.state.specs.declared.PointState.{PointState}
use Rattle.state.specs.declared.PointState.TheVariants.{Free, Active}
use Rattle.state.specs.declared.PointRecord.{PointRecord}

-- a free point's record
abbrev pub free_point : PointRecord
free_point = record { state = Free }

-- the record of a point activated on a day, with its kind, area and partner
abbrev pub active_point : (kind area partner day : ℕ) → PointRecord
active_point k a b d = record { state = Active (record { 0 = d }) (record { 0 = k }) (record { 0 = a }) (record { 0 = b }) }

-- the state of point p: "Points are 1 to 256"; there is no point 0
abbrev pub point_at : List PointRecord → (point : ℕ) → PointState
point_at ps zero = Free
point_at ps (suc i) = (get_or ps i free_point).state

-- the points with another record for point p
abbrev pub with_point : List PointRecord → (point : ℕ) → PointRecord → List PointRecord
with_point ps zero r = ps
with_point ps (suc i) r = set ps i r

-- "point active", "point not active (A02)"
abbrev pub is_active : PointState → Bool
is_active Free = false
is_active (Active since kind area partner) = true

-- the activation day; 0 of a free point
abbrev pub since_of : PointState → ℕ
since_of Free = 0
since_of (Active since kind area partner) = since.0

-- "an active point has the same kind, area and partner"
abbrev pub is_series : (kind area partner : ℕ) → PointState → Bool
is_series k a b Free = false
is_series k a b (Active since kind area partner) = eqb kind.0 k && (eqb area.0 a && eqb partner.0 b)

-- the same of a record
abbrev pub has_series : (kind area partner : ℕ) → PointRecord → Bool
has_series k a b r = is_series k a b r.state

-- "kind, area and partner not together in the table above": the table, a line for each kind
unfoldable pub series_ok : (kind area partner : ℕ) → Bool
series_ok k a b =
    cond (eqb k 1) (area_ok a && ltb b a)
    (cond (eqb k 2) (area_ok a && group_ok b)
    (cond (eqb k 3) (area_ok a && eqb b 0)
    (cond (eqb k 4) (eqb a 0 && group_ok b)
    (cond (eqb k 5) (area_ok a && eqb b 0)
    false))))

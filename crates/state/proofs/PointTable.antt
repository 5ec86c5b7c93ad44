-- Laws of the point table: a point's state, read and set. Assumes nothing.
use Prim.Native.Nat.{ℕ, zero, suc, ◌-◌, ◌≤◌, ◌<◌}
use mathlib.Core.Path.{◌≡◌, refl, ap}
use mathlib.Core.List.{List}
use native.Mathlib.Omega.{arith}
use lib.ListN.{length, get_or, set, get_or-eq_default}
use lib.Seq.{get_or-set_same, get_or-set_other}
use Rattle.state.specs.Point.{free_point, point_at, with_point}
use Rattle.state.specs.declared.PointRecord.{PointRecord}
use Rattle.state.specs.declared.PointState.TheVariants.{Free}

module _ (ps : List PointRecord) where
  -- point p stands at index p - 1
  pub point-at : (p : ℕ) → 0 < p → point_at ps p ≡ (get_or ps (p - 1) free_point).state
  point-at zero h = absurd (omega arith)
  point-at (suc i) h = ap (λ (k : ℕ). (get_or ps k free_point).state) (omega arith)

  -- past the table no point is active
  pub point-past : (p : ℕ) → length ps < p → point_at ps p ≡ Free
  point-past zero h = refl
  point-past (suc i) h = ap (λ (r : PointRecord). r.state) (get_or-eq_default ps free_point (omega arith))

  pub put-at : (p : ℕ) (r : PointRecord) → 0 < p → with_point ps p r ≡ set ps (p - 1) r
  put-at zero r h = absurd (omega arith)
  put-at (suc i) r h = ap (λ (k : ℕ). set ps k r) (omega arith)

  -- a point set has its new state
  pub put-same : (p : ℕ) (r : PointRecord) → 0 < p → p ≤ length ps → point_at (with_point ps p r) p ≡ r.state
  put-same zero r h k = absurd (omega arith)
  put-same (suc i) r h k = ap (λ (x : PointRecord). x.state) (get_or-set_same ps i r free_point (omega arith))

  -- and every other point keeps its own
  pub put-other : (p q : ℕ) (r : PointRecord) → (q ≡ p → ⊥) → point_at (with_point ps p r) q ≡ point_at ps q
  put-other zero q r ne = refl
  put-other (suc i) zero r ne = refl
  put-other (suc i) (suc j) r ne = ap (λ (x : PointRecord). x.state) (get_or-set_other ps i j r free_point (λ e. ne (ap suc e)))

-- The sides of a point within the limits are rows of a run. Assumes nothing.
use mathlib.Core.Path.{◌≡◌, refl}
use mathlib.Core.Bool.{Bool, true, false, cond, ◌&&◌}
use mathlib.Core.List.{List}
use Prim.Native.Nat.{ℕ, ◌≤◌, ◌<◌}
use native.Mathlib.Omega.{arith}
use borrow.Author.Tests.{ltb-true}
use lib.Dec.{ltb, eqb}
use lib.ListN.{length, get_or}
use Rattle.quantity.specs.Limits.{areas, groups, deltas, day_ok, area_ok, group_ok}
use Rattle.quantity.specs.Lists.{all}
use Rattle.quantity.proofs.Lists.{all-in}
use Rattle.quantity.proofs.Tests.{and-left, and-right, within-high}
use Rattle.state.specs.Point.{series_ok}
use Rattle.state.specs.Valid.{state_ok}
use Rattle.state.specs.declared.PointState.{PointState}
use Rattle.state.specs.declared.PointState.TheVariants.{Free, Active}
use Rattle.model.specs.Series.{group_side, delta_side, to_side, from_side, sides_of}
use Rattle.model.specs.declared.Side.TheVariants.{Outside}
use Rattle.amend.specs.Lent.{SideIn, SidesIn}

module _ (gs : List ℕ) (long : length gs ≡ deltas) (ok : all group_ok gs ≡ true) where
  delta-in : (a : ℕ) → a ≤ areas → SideIn (delta_side gs a)
  delta-in a h =
      let g : get_or gs a 0 ≤ groups = within-high 1 groups (get_or gs a 0) (all-in group_ok gs a 0 ok (omega arith)) in
      (omega arith, omega arith)

  group-in : (b : ℕ) → group_ok b ≡ true → SideIn (group_side b)
  group-in b p = let g : b ≤ groups = within-high 1 groups b p in omega arith

  area-in : (a : ℕ) → area_ok a ≡ true → SideIn (delta_side gs a)
  area-in a p = delta-in a (within-high 1 areas a p)

  both : (k a b : ℕ) → series_ok k a b ≡ true → SideIn (to_side gs k a b) × SideIn (from_side gs k a b)
  unfolding series_ok to_side from_side
  both k a b = by (eqb k 1) (eqb k 2) (eqb k 3) (eqb k 4) (eqb k 5)
    where
      partner : (t : Bool) → ltb 0 b ≡ t → ltb b a ≡ true → area_ok a ≡ true → SideIn (cond t (delta_side gs b) Outside)
      partner true e l p = let h : b < a = ltb-true b a l in delta-in b (omega (arith, within-high 1 areas a p))
      partner false e l p = tt

      by : (k1 k2 k3 k4 k5 : Bool)
          → cond k1 (area_ok a && ltb b a) (cond k2 (area_ok a && group_ok b) (cond k3 (area_ok a && eqb b 0) (cond k4 (eqb a 0 && group_ok b) (cond k5 (area_ok a && eqb b 0) false)))) ≡ true
          → SideIn (cond k1 (delta_side gs a) (cond k2 (group_side b) (cond k3 (delta_side gs 0) (cond k4 (group_side b) (cond k5 (delta_side gs a) Outside)))))
          × SideIn (cond k1 (cond (ltb 0 b) (delta_side gs b) Outside) (cond k2 (delta_side gs a) (cond k3 (delta_side gs a) (cond k4 (delta_side gs 0) (cond k5 (delta_side gs 0) Outside)))))
      by true k2 k3 k4 k5 p =
          let pa = and-left (area_ok a) (ltb b a) p in
          (area-in a pa, partner (ltb 0 b) refl (and-right (area_ok a) (ltb b a) p) pa)
      by false true k3 k4 k5 p = (group-in b (and-right (area_ok a) (group_ok b) p), area-in a (and-left (area_ok a) (group_ok b) p))
      by false false true k4 k5 p = (delta-in 0 (omega arith), area-in a (and-left (area_ok a) (eqb b 0) p))
      by false false false true k5 p = (group-in b (and-right (eqb a 0) (group_ok b) p), delta-in 0 (omega arith))
      by false false false false true p = (area-in a (and-left (area_ok a) (eqb b 0) p), delta-in 0 (omega arith))
      by false false false false false p = (tt, tt)

  -- the sides of a point record within its limits
  pub sides-in : (s : PointState) → state_ok s ≡ true → SidesIn (sides_of gs s)
  unfolding sides_of
  sides-in Free p = record { to = tt; from = tt }
  sides-in (Active since kind area partner) p =
      let h = both kind.0 area.0 partner.0 (and-right (day_ok since.0) (series_ok kind.0 area.0 partner.0) p) in
      record { to = h.0; from = h.1 }

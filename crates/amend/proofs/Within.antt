-- The series of the selections of a point before and after a change of its versions are within the values. Assumes nothing.
use mathlib.Core.Path.{◌≡◌, ap}
use mathlib.Core.Bool.{true}
use mathlib.Core.List.{List}
use Prim.Native.Nat.{ℕ, ◌*◌, ◌≤◌, ◌<◌}
use native.Mathlib.Nat.{mul-le-mul_right, suc-mul}
use native.Mathlib.Omega.{arith}
use borrow.Author.Tests.{ltb-true}
use lib.ListN.{length}
use Rattle.quantity.specs.Limits.{version_ok, point_ok}
use Rattle.quantity.specs.Lists.{all}
use Rattle.quantity.proofs.Lists.{all-in}
use Rattle.quantity.proofs.Tests.{and-right}
use Rattle.state.specs.Selection.{is_counted, own, Highest}
use Rattle.state.specs.Valid.{version_record_ok}
use Rattle.state.specs.Version.{record_at, empty_version}
use Rattle.state.specs.declared.Selection.{Selection}
use Rattle.state.specs.declared.Selection.TheVariants.{None, Selected}
use Rattle.state.specs.declared.VersionRecord.{VersionRecord}
use Rattle.state.specs.declared.VersionRow.{VersionRow}
use Rattle.state.proofs.Picks.{own-highest}
use Rattle.model.specs.Log.{turn_of}
use Rattle.amend.specs.Lent.{SeriesIn, TurnIn}

module _ (q n : ℕ) (values : List ℕ) (fits : n * q ≤ length values) where
  -- a version within the limits has its series within the values
  own-in : (vs : List VersionRecord) → all (version_record_ok n) vs ≡ true → (run p : ℕ) → SeriesIn q values (own run p vs)
  own-in vs ok run p = go (own run p vs) (own-highest run p vs)
    where
      go : (s : Selection) → Highest (is_counted run p) vs (length vs) s → SeriesIn q values s
      go None h = tt
      go (Selected r) h =
          let v = record_at vs r.at in
          let in-limits = all-in (version_record_ok n) vs r.at empty_version ok h.within in
          let below : v.row.0 < n = ltb-true v.row.0 n (and-right (version_ok v.version.0) _ (and-right (point_ok v.point.0) _ in-limits)) in
          let same : v.row.0 ≡ r.row.0 = ap (λ (x : VersionRow). x.row.0) h.here in
          let under : r.row.0 < n = omega arith in
          omega (arith, mul-le-mul_right q under, suc-mul r.row.0 q)

  pub turn-in : (vs ws : List VersionRecord) (p : ℕ) → all (version_record_ok n) vs ≡ true → all (version_record_ok n) ws ≡ true → TurnIn q values (turn_of vs ws p)
  turn-in vs ws p old new = record { old1 = own-in vs old 1 p; new1 = own-in ws new 1 p; old2 = own-in vs old 2 p; new2 = own-in ws new 2 p }

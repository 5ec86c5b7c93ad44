-- Laws of the table of highest versions that settling gathers: nothing yet, one record more. Assumes nothing.
use Prim.Native.Nat.{ℕ, ◌+◌, ◌-◌, ◌≤◌, ◌<◌}
use mathlib.Core.Path.{◌≡◌, refl, sym, ap, ◌∙◌}
use mathlib.Core.Bool.{true}
use mathlib.Core.List.{List}
use native.Mathlib.Decide.{ℕ_discrete}
use native.Mathlib.Omega.{arith}
use borrow.Author.Tests.{eq-eqb, ne_eqb}
use lib.ListN.{length, take, get_or, set, replicate, length-set, get_or-replicate, length-replicate}
use lib.Seq.{get_or-take, get_or-set_same, get_or-set_other, length-take-le}
use Rattle.quantity.proofs.Lists.{all-in, all-mono}
use Rattle.quantity.proofs.Tests.{and-left, within-low, within-high}
use Rattle.quantity.specs.Limits.{points, point_ok}
use Rattle.quantity.specs.declared.Version.{Version}
use Rattle.state.proofs.Lists.{walk-more}
use Rattle.state.proofs.Picks.{number-raised}
use Rattle.state.specs.Change.{settle_by, settle}
use Rattle.state.specs.Desk.{rows_in, versions_in}
use Rattle.state.specs.Valid.{version_record_ok, Sound}
use Rattle.state.specs.declared.Desk.{Desk}
use Rattle.state.specs.Selection.{raise_if, best, no_version, higher_of, is_counted, own, version_of}
use Rattle.state.specs.Settling.{PointsIn, Tops}
use Rattle.state.specs.Status.{counts}
use Rattle.state.specs.Version.{empty_version}
use Rattle.state.specs.Walk.{walk}
use Rattle.state.specs.declared.Selection.TheVariants.{None}
use Rattle.state.specs.declared.VersionRecord.{VersionRecord}

-- every version held by a valid desk is of a point that there is
pub points-in : (d : Desk) → Sound d → PointsIn (versions_in d)
points-in d s =
    let f = version_record_ok (rows_in d.frame.opening) in
    record {
      each = all-mono f f (λ (v : VersionRecord). point_ok v.point.0) (λ v p _. and-left (point_ok v.point.0) _ p) (versions_in d) s.versions s.versions;
    }

-- the point of a record held is one that there is
pub point-in : (vs : List VersionRecord) (n i : ℕ) → PointsIn (take n vs) → n ≤ length vs → i < n → point_ok (get_or vs i empty_version).point.0 ≡ true
point-in vs n i h k l =
    rw (get_or-take n vs i empty_version l) at
    (all-in (λ (v : VersionRecord). point_ok v.point.0) (take n vs) i empty_version h.each (rw (length-take-le n vs k) l))

pub point-range : (vs : List VersionRecord) (n i : ℕ) → PointsIn (take n vs) → n ≤ length vs → i < n → (1 ≤ (get_or vs i empty_version).point.0) × ((get_or vs i empty_version).point.0 ≤ 256)
point-range vs n i h k l = let e = point-in vs n i h k l in (within-low 1 256 _ e, within-high 1 256 _ e)

module _ (run : ℕ) (vs : List VersionRecord) where
  pub tops-none : Tops run (take 0 vs) (replicate points no_version)
  unfolding best walk
  tops-none = record { size = length-replicate {A = Version} points no_version; each = λ p h. ap (λ (v : Version). v.0) (get_or-replicate {A = Version} points (p - 1) no_version no_version (omega (arith, within-low 1 256 p h, within-high 1 256 p h))) }

  pub tops-more : (t : List Version) (i : ℕ) → i < length vs → point_ok (get_or vs i empty_version).point.0 ≡ true → Tops run (take i vs) t
      → Tops run (take (i + 1) vs) (set t ((get_or vs i empty_version).point.0 - 1) (higher_of (get_or t ((get_or vs i empty_version).point.0 - 1) no_version) (counts run (get_or vs i empty_version).status) (get_or vs i empty_version).version))
  unfolding best
  tops-more t i h k f = record { size = simp length-set f.size; each = λ p ok. go p ok (ℕ_discrete q p) }
    where
      v : VersionRecord
      v = get_or vs i empty_version

      q : ℕ
      q = v.point.0

      more : (p : ℕ) → version_of (own run p (take (i + 1) vs)) ≡ version_of (raise_if (is_counted run p) (own run p (take i vs)) i v)
      more p = ap version_of (sym (walk-more (raise_if (is_counted run p)) None vs i empty_version h))

      top : Version
      top = get_or t (q - 1) no_version

      new : Version
      new = higher_of top (counts run v.status) v.version

      mine : new.0 ≡ version_of (own run q (take (i + 1) vs))
      mine = sym (more q ∙ number-raised (own run q (take i vs)) top (is_counted run q v) i v (f.each q k) ∙ rw (eq-eqb q q refl))

      go : (p : ℕ) → point_ok p ≡ true → Dec (q ≡ p) → (get_or (set t (q - 1) new) (p - 1) no_version).0 ≡ version_of (own run p (take (i + 1) vs))
      go p ok (yes e) = rw (← e, get_or-set_same t (q - 1) new no_version (omega (arith, f.size, within-low 1 256 q k, within-high 1 256 q k))) mine
      go p ok (no ne) =
          rw (get_or-set_other t (q - 1) (p - 1) new no_version (λ e. ne (omega (arith, within-low 1 256 q k, within-low 1 256 p ok)))) (f.each p ok ∙ sym (more p ∙ rw (ne_eqb q p ne)))

-- by the table a record is settled as by its point's highest version
pub settle-by : (run : ℕ) (vs : List VersionRecord) (tops : List Version) (v : VersionRecord) → Tops run vs tops → point_ok v.point.0 ≡ true
    → settle_by run (get_or tops (v.point.0 - 1) no_version).0 v ≡ settle run vs v
unfolding settle
settle-by run vs tops v t ok = rw (t.each v.point.0 ok)

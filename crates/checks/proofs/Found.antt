-- Laws of the walk over the versions: what it finds in no record, with one record more, and in another point's; and of a point's place. Assumes
-- nothing.
use Prim.Native.Nat.{ℕ, zero, suc, ◌+◌, ◌-◌, ◌≤◌, ◌<◌}
use mathlib.Core.Path.{◌≡◌, refl, sym, ap, ◌∙◌}
use mathlib.Core.Bool.{Bool, true, false, cond}
use mathlib.Core.List.{List}
use native.Mathlib.Omega.{arith}
use borrow.Author.Tests.{ltb-true, ltb-false, le-leb, leb-false}
use lib.Dec.{ltb}
use lib.ListN.{length, take, get_or}
use lib.Seq.{length-take-le}
use Rattle.std.specs.Prelude.{Option, Some, None}
use Rattle.quantity.specs.Limits.{point_ok}
use Rattle.quantity.proofs.Tests.{by-test, within-low, within-high}
use Rattle.state.proofs.Lists.{walk-none, walk-more, take-past}
use Rattle.state.proofs.Picks.{number-raised}
use Rattle.state.proofs.PointTable.{point-at, point-past}
use Rattle.state.specs.Point.{free_point, point_at}
use Rattle.state.specs.Selection.{raise_if, best, version_of, is_counted}
use Rattle.checks.specs.Survey.{place_of, record_at, state_in, nothing_found, survey_step, reading, Surveyed}
use Rattle.state.specs.Version.{empty_version, is_at, or_held, held}
use Rattle.state.specs.declared.HeldVersion.{HeldVersion}
use Rattle.state.specs.declared.PointRecord.{PointRecord}
use Rattle.state.specs.declared.PointState.TheVariants.{Free}
use Rattle.state.specs.declared.Selection.TheVariants.{None}
use Rattle.checks.specs.declared.Survey.{Survey}
use Rattle.state.specs.declared.VersionRecord.{VersionRecord}

module _ (p x : ℕ) (vs : List VersionRecord) where
  pub found-none : Surveyed p x (take 0 vs) nothing_found
  unfolding best held
  found-none =
      record {
        held = walk-none (or_held p x) None vs;
        highest = ap version_of (walk-none (raise_if (is_at p)) None vs);
        first = walk-none (raise_if (is_counted 1 p)) None vs;
        second = walk-none (raise_if (is_counted 2 p)) None vs;
        read = refl;
      }

  pub found-more : (s : Survey) (i : ℕ) → i < length vs → Surveyed p x (take i vs) s
      → Surveyed p x (take (i + 1) vs) (reading (i + 1) (survey_step p x s i (get_or vs i empty_version)))
  unfolding best held
  found-more s i h f =
      let v = get_or vs i empty_version in
      record {
        held = rw f.held (walk-more (or_held p x) None vs i empty_version h);
        highest = sym (number-raised (best (is_at p) (take i vs)) s.highest (is_at p v) i v f.highest) ∙ ap version_of (walk-more (raise_if (is_at p)) None vs i empty_version h);
        first = rw f.first (walk-more (raise_if (is_counted 1 p)) None vs i empty_version h);
        second = rw f.second (walk-more (raise_if (is_counted 2 p)) None vs i empty_version h);
        read = sym (length-take-le (i + 1) vs (omega arith));
      }

-- a record of another point: nothing is found in it
other-held : (p x i : ℕ) (v : VersionRecord) (h : Option HeldVersion) → is_at p v ≡ false → h ≡ or_held p x h i v
other-held p x i v None e = rw e
other-held p x i v (Some h) e = refl

other-point : (p x : ℕ) (s : Survey) (i : ℕ) (v : VersionRecord) → is_at p v ≡ false → s ≡ survey_step p x s i v
other-point p x s i v e = let h = other-held p x i v s.held e in rw (← h, e)

pub found-other : (p x : ℕ) (vs : List VersionRecord) (s : Survey) (i : ℕ) → i < length vs → is_at p (get_or vs i empty_version) ≡ false
    → Surveyed p x (take i vs) s → Surveyed p x (take (i + 1) vs) (reading (i + 1) s)
found-other p x vs s i h e f = rw (other-point p x s i (get_or vs i empty_version) e) (found-more p x vs s i h f)

-- of a table, as many records as it has or as many as are counted are the same records
pub records-taken : (vs : List VersionRecord) (n count : ℕ) → length vs ≡ 512 → n ≡ cond (ltb count 512) count 512 → (n ≤ 512) × (take n vs ≡ take count vs)
records-taken vs n count l e = go (ltb count 512) refl e
  where
    go : (b : Bool) → ltb count 512 ≡ b → n ≡ cond b count 512 → (n ≤ 512) × (take n vs ≡ take count vs)
    go true t e = let h = ltb-true count 512 t in (omega arith, rw e)
    go false t e = let h = ltb-false count 512 t in (omega arith, take-past vs n count (omega arith) (omega arith))

-- a point's state by the record that stands at its place
pub place-in : (p : ℕ) → place_of p < 256
place-in p = by-test (λ (n : ℕ). n < 256) (point_ok p) (p - 1) 0 (λ e. omega (arith, within-low 1 256 p e, within-high 1 256 p e)) (λ _. omega arith)

pub state-is : (ps : List PointRecord) (p : ℕ) → length ps ≡ 256 → state_in (record_at ps p) p ≡ point_at ps p
state-is ps p l = go (point_ok p) refl
  where
    outside : (n : ℕ) → point_ok n ≡ false → Free ≡ point_at ps n
    outside zero e = refl
    outside (suc i) e =
        let far = leb-false (suc i) 256 (rw (le-leb 1 (suc i) (omega arith)) at e) in
        sym (point-past ps (suc i) (omega arith))

    go : (b : Bool) → point_ok p ≡ b → cond b (get_or ps (cond b (p - 1) 0) free_point).state Free ≡ point_at ps p
    go true e = sym (point-at ps p (omega (arith, within-low 1 256 p e)))
    go false e = outside p e

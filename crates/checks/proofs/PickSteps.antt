-- Laws of the walk that gathers what both runs have of every point: of no record, with one record more. Assumes nothing.
use Prim.Native.Nat.{ℕ, suc, ◌+◌, ◌-◌, ◌<◌}
use mathlib.Core.Path.{◌≡◌, sym, subst, ◌∙◌}
use mathlib.Core.Bool.{true, false, false≢true}
use mathlib.Core.List.{List}
use native.Mathlib.Decide.{ℕ_discrete}
use native.Mathlib.Omega.{arith}
use borrow.Author.Tests.{ne_eqb, le-leb}
use lib.Dec.{leb}
use lib.ListN.{length, take, get_or, set, replicate, length-set, get_or-replicate, length-replicate}
use lib.Seq.{get_or-set_same, get_or-set_other}
use Rattle.state.specs.declared.Selection.{Selection}
use Rattle.quantity.proofs.Tests.{and-both, within-low, within-high}
use Rattle.quantity.specs.Limits.{points, point_ok}
use Rattle.state.proofs.Lists.{walk-none, walk-more}
use Rattle.state.specs.Selection.{raise_if, best, is_counted}
use Rattle.state.specs.Version.{empty_version}
use Rattle.state.specs.declared.Selection.TheVariants.{None}
use Rattle.state.specs.declared.VersionRecord.{VersionRecord}
use Rattle.checks.specs.Picks.{picks_at, no_picks, picks_step, PicksIn}
use Rattle.state.specs.declared.PerRun.{PerRun}

module _ (vs : List VersionRecord) where
  at-none : (p : ℕ) → no_picks ≡ picks_at p (take 0 vs)
  unfolding best
  at-none p = rw (← walk-none (raise_if (is_counted 1 p)) None vs, ← walk-none (raise_if (is_counted 2 p)) None vs)

  pub picks-none : PicksIn (take 0 vs) (replicate points no_picks)
  picks-none =
      record {
        size = length-replicate {A = PerRun Selection} points no_picks;
        each = λ j h. get_or-replicate {A = PerRun Selection} points j no_picks no_picks h ∙ at-none (suc j);
      }

  at-more : (p i : ℕ) → i < length vs → picks_step p (picks_at p (take i vs)) i (get_or vs i empty_version) ≡ picks_at p (take (i + 1) vs)
  unfolding best
  at-more p i h = rw (walk-more (raise_if (is_counted 1 p)) None vs i empty_version h, walk-more (raise_if (is_counted 2 p)) None vs i empty_version h)

  -- another point's record
  at-other : (p i : ℕ) → i < length vs → (((get_or vs i empty_version).point.0 ≡ p) → ⊥) → picks_at p (take i vs) ≡ picks_at p (take (i + 1) vs)
  at-other p i h ne = rw (ne_eqb _ p ne) at (at-more p i h)

  pub picks-more : (t : List (PerRun Selection)) (i : ℕ) → i < length vs → point_ok (get_or vs i empty_version).point.0 ≡ true → PicksIn (take i vs) t
      → PicksIn (take (i + 1) vs) (set t ((get_or vs i empty_version).point.0 - 1) (picks_step (get_or vs i empty_version).point.0 (get_or t ((get_or vs i empty_version).point.0 - 1) no_picks) i (get_or vs i empty_version)))
  picks-more t i h k f = record { size = simp length-set f.size; each = λ j b. go j b (ℕ_discrete q (suc j)) }
    where
      v : VersionRecord
      v = get_or vs i empty_version

      q : ℕ
      q = v.point.0

      new : PerRun Selection
      new = picks_step q (get_or t (q - 1) no_picks) i v

      after : List VersionRecord
      after = take (i + 1) vs

      number : suc (q - 1) ≡ q
      number = omega (arith, within-low 1 256 q k)

      mine : new ≡ picks_at (suc (q - 1)) after
      mine = rw (f.each (q - 1) (omega (arith, within-low 1 256 q k, within-high 1 256 q k)), number) (at-more q i h)

      go : (j : ℕ) → j < points → Dec (q ≡ suc j) → get_or (set t (q - 1) new) j no_picks ≡ picks_at (suc j) after
      go j b (yes e) =
          subst (λ (n : ℕ). get_or (set t (q - 1) new) n no_picks ≡ picks_at (suc n) after) (omega (arith, e))
          (get_or-set_same t (q - 1) new no_picks (omega (arith, f.size, within-low 1 256 q k, within-high 1 256 q k)) ∙ mine)
      go j b (no ne) =
          rw (get_or-set_other t (q - 1) j new no_picks (λ e. ne (omega (arith, within-low 1 256 q k)))) (f.each j b ∙ at-other (suc j) i h ne)

  -- a record of a number that is no point's
  pub picks-beside : (t : List (PerRun Selection)) (i : ℕ) → i < length vs → point_ok (get_or vs i empty_version).point.0 ≡ false → PicksIn (take i vs) t → PicksIn (take (i + 1) vs) t
  picks-beside t i h k f =
      record {
        size = f.size;
        each = λ j b. f.each j b ∙ at-other (suc j) i h (λ e. false≢true (sym (subst (λ (n : ℕ). point_ok n ≡ false) e k) ∙ and-both (leb 1 (suc j)) (leb (suc j) 256) (le-leb 1 (suc j) (omega arith)) (le-leb (suc j) 256 (omega arith))));
      }

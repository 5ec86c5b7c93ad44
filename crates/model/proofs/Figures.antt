-- Laws of the exact figures: what leaves them as they were, how they follow a change at one point, that none wraps, and that those of the
-- 64 groups add up to the outside exchange. Assumes nothing.
use Prim.Native.Nat.{ℕ, zero, suc, ◌*◌, ◌≤◌}
use mathlib.Core.Path.{◌≡◌, refl, sym, ap, ◌∙◌}
use mathlib.Core.Bool.{true, cond}
use mathlib.Core.List.{List, [], ◌∷◌, ◌++◌}
use native.Mathlib.Omega.{arith}
use native.Mathlib.Decide.{ℕ_discrete}
use borrow.Author.Tests.{leb-true, le-leb}
use lib.IntN.{ℤ, pos, nat_abs, ◌-ℤ◌, ◌+ℤ◌}
use lib.ListN.{length, get_or, get_or-append}
use Rattle.quantity.specs.Limits.{points, groups, most_energy, energy_ok}
use Rattle.quantity.specs.Lists.{all}
use Rattle.quantity.specs.Sum.{sum_to}
use Rattle.quantity.specs.Word.{word, signed}
use Rattle.quantity.proofs.Lists.{all-at}
use Rattle.quantity.proofs.Sums.{sum-same, sum-zero, sum-change, sum-swap, sum-small, sum-reads}
use Rattle.book.specs.Place.{group_row}
use Rattle.state.specs.Groups.{groups_in}
use Rattle.state.specs.Point.{free_point, point_at, with_point}
use Rattle.state.specs.Selection.{own, with_status, SameVersion, selected}
use Rattle.state.specs.Valid.{state_ok, point_record_ok, deltas_ok}
use Rattle.state.specs.declared.PerRun.{PerRun}
use Rattle.state.specs.declared.PointRecord.{PointRecord}
use Rattle.state.specs.declared.PointState.{PointState}
use Rattle.state.specs.declared.Selection.{Selection}
use Rattle.state.specs.declared.Selection.TheVariants.{None, Selected}
use Rattle.state.specs.declared.Status.TheVariants.{Check}
use Rattle.state.specs.declared.VersionRecord.{VersionRecord}
use Rattle.state.proofs.Bounds.{deltas-in}
use Rattle.state.proofs.Picks.{selected-kept}
use Rattle.model.specs.Series.{sides_of, adds, energy, figure_of, is_outside, outside_of}
use Rattle.model.proofs.Selections.{Within, selected-within}
use Rattle.model.proofs.SeriesTable.{adds-zero, adds-small, adds-net}
use Rattle.state.proofs.PointTable.{put-other}

-- what one point adds
abbrev pub part : List PointRecord → PerRun (List ℕ) → List VersionRecord → List (List ℤ) → (run k quarter point : ℕ) → ℤ
part ps gs vs es run k q p = adds (sides_of (groups_in run gs) (point_at ps p)) k (energy es (selected run p vs) q)

-- delta groups that a run has too
pub figure-groups : (ps : List PointRecord) (gs hs : PerRun (List ℕ)) (vs : List VersionRecord) (es : List (List ℤ)) (run : ℕ) → groups_in run hs ≡ groups_in run gs
    → (k q : ℕ) → figure_of ps gs vs es run k q ≡ figure_of ps hs vs es run k q
unfolding figure_of
figure-groups ps gs hs vs es run e k q =
    ap (λ (l : List ℕ). sum_to points (λ (p : ℕ). adds (sides_of l (point_at ps p)) k (energy es (selected run p vs) q))) (sym e)

-- a change of the versions that leaves every selection of the run, but for its status
pub figure-versions : (ps : List PointRecord) (gs : PerRun (List ℕ)) (vs ws : List VersionRecord) (es : List (List ℤ)) (run : ℕ) → ((i : ℕ) → SameVersion (selected run i ws) (selected run i vs))
    → (k q : ℕ) → figure_of ps gs vs es run k q ≡ figure_of ps gs ws es run k q
unfolding figure_of energy
figure-versions ps gs vs ws es run e k q =
    sum-same points (part ps gs vs es run k q) (part ps gs ws es run k q)
    (λ i lo hi. ap (adds (sides_of (groups_in run gs) (point_at ps i)) k) (same (selected run i vs) (selected run i ws) (e i)))
  where
    bare : (s : Selection) → energy es s q ≡ energy es (with_status Check s) q
    bare None = refl
    bare (Selected r) = refl

    same : (s t : Selection) → SameVersion t s → energy es s q ≡ energy es t q
    same s t z = bare s ∙ ap (λ (x : Selection). energy es x q) (sym z) ∙ sym (bare t)

-- a point that has no selection may be any
pub figure-point : (ps : List PointRecord) (gs : PerRun (List ℕ)) (vs : List VersionRecord) (es : List (List ℤ)) (p : ℕ) (t : PointRecord) → ((run : ℕ) → selected run p vs ≡ None)
    → (run k q : ℕ) → figure_of ps gs vs es run k q ≡ figure_of (with_point ps p t) gs vs es run k q
unfolding figure_of energy
figure-point ps gs vs es p t n run k q =
    sum-same points (part ps gs vs es run k q) (part (with_point ps p t) gs vs es run k q) (λ i lo hi. go i (ℕ_discrete i p))
  where
    nothing : (i : ℕ) → i ≡ p → (us : List PointRecord) → part us gs vs es run k q i ≡ pos 0
    nothing i e us = ap (λ (s : Selection). adds (sides_of (groups_in run gs) (point_at us i)) k (energy es s q)) (ap (λ (m : ℕ). selected run m vs) e ∙ n run) ∙ adds-zero (sides_of (groups_in run gs) (point_at us i)) k

    go : (i : ℕ) → Dec (i ≡ p) → part ps gs vs es run k q i ≡ part (with_point ps p t) gs vs es run k q i
    go i (yes e) = nothing i e ps ∙ sym (nothing i e (with_point ps p t))
    go i (no ne) = ap (λ (s : PointState). adds (sides_of (groups_in run gs) s) k (energy es (selected run i vs) q)) (sym (put-other ps p i t ne))

-- a submission more leaves the energies of those before
pub figure-energies : (ps : List PointRecord) (gs : PerRun (List ℕ)) (vs : List VersionRecord) (es : List (List ℤ)) (x : List ℤ) → length es ≡ length vs
    → (run k q : ℕ) → figure_of ps gs vs es run k q ≡ figure_of ps gs vs (es ++ (x ∷ [])) run k q
unfolding figure_of energy
figure-energies ps gs vs es x l run k q =
    sum-same points (part ps gs vs es run k q) (part ps gs vs (es ++ (x ∷ [])) run k q)
    (λ i lo hi. ap (adds (sides_of (groups_in run gs) (point_at ps i)) k) (go (selected run i vs) (selected-within run i vs)))
  where
    go : (s : Selection) → Within (length vs) s → energy es s q ≡ energy (es ++ (x ∷ [])) s q
    go None w = refl
    go (Selected r) w = ap (λ (y : List ℤ). get_or y q (pos 0)) (sym (get_or-append es (x ∷ []) [] r.at (omega arith)))

-- without selections each figure is 0
pub figure-none : (ps : List PointRecord) (gs : PerRun (List ℕ)) (vs : List VersionRecord) (es : List (List ℤ)) → ((run p : ℕ) → selected run p vs ≡ None) → (run k q : ℕ) → figure_of ps gs vs es run k q ≡ pos 0
unfolding figure_of energy
figure-none ps gs vs es n run k q =
    sum-zero points (part ps gs vs es run k q)
    (λ i lo hi. ap (λ (s : Selection). adds (sides_of (groups_in run gs) (point_at ps i)) k (energy es s q)) (n run i) ∙ adds-zero (sides_of (groups_in run gs) (point_at ps i)) k)

-- a change of the versions of one point
pub figure-follows : (ps : List PointRecord) (gs : PerRun (List ℕ)) (vs ws : List VersionRecord) (es : List (List ℤ)) (p : ℕ) → 1 ≤ p → p ≤ points → ((r i : ℕ) → (i ≡ p → ⊥) → own r i ws ≡ own r i vs)
    → (run k q : ℕ) → figure_of ps gs ws es run k q ≡ figure_of ps gs vs es run k q -ℤ part ps gs vs es run k q p +ℤ part ps gs ws es run k q p
unfolding figure_of
figure-follows ps gs vs ws es p lo hi e run k q =
    sum-change points (part ps gs vs es run k q) (part ps gs ws es run k q) p lo hi
    (λ i l h ne. ap (λ (s : Selection). adds (sides_of (groups_in run gs) (point_at ps i)) k (energy es s q)) (sym (selected-kept run i vs ws (λ r. e r i ne))))

-- a valid table's points
pub state-in : (ps : List PointRecord) → all point_record_ok ps ≡ true → (p : ℕ) → state_ok (point_at ps p) ≡ true
state-in ps ok zero = refl
state-in ps ok (suc i) = all-at point_record_ok ps i free_point refl ok

module _ (ps : List PointRecord) (gs : PerRun (List ℕ)) (vs : List VersionRecord) (es : List (List ℤ)) (in_p : all point_record_ok ps ≡ true) (in_g : deltas_ok gs ≡ true) where
  -- "In both, for each run and quarter hour, the 64 group figures add up to the outside exchange"
  pub groups-sum : (run q : ℕ) → sum_to groups (λ (g : ℕ). figure_of ps gs vs es run (group_row g) q) ≡ outside_of ps vs es run q
  unfolding figure_of outside_of
  groups-sum run q =
      sum-swap groups points (λ (g p : ℕ). part ps gs vs es run (group_row g) q p)
      ∙ sum-same points (λ (p : ℕ). sum_to groups (λ (g : ℕ). part ps gs vs es run (group_row g) q p)) (λ (p : ℕ). cond (is_outside (point_at ps p)) (energy es (selected run p vs) q) (pos 0))
      (λ p lo hi. adds-net (groups_in run gs) (deltas-in gs in_g run) (point_at ps p) (state-in ps in_p p) (energy es (selected run p vs) q))

  module _ (small : (r j : ℕ) → energy_ok (get_or (get_or es r []) j (pos 0)) ≡ true) where
    energy-small : (s : Selection) (q : ℕ) → nat_abs (energy es s q) ≤ most_energy
    unfolding energy
    energy-small None q = omega arith
    energy-small (Selected r) q = leb-true (nat_abs (get_or (get_or es r.at []) q (pos 0))) most_energy (small r.at q)

    part-small : (run k q p : ℕ) → nat_abs (part ps gs vs es run k q p) ≤ most_energy
    part-small run k q p =
        omega (arith, adds-small (groups_in run gs) (deltas-in gs in_g run) (point_at ps p) (state-in ps in_p p) k (energy es (selected run p vs) q), energy-small (selected run p vs) q)

    -- "No figure exceeds 256 × 10^12 in size."
    pub figure-small : (run k q : ℕ) → nat_abs (figure_of ps gs vs es run k q) ≤ points * most_energy
    unfolding figure_of
    figure-small run k q = sum-small most_energy points (part ps gs vs es run k q) (λ p lo hi. part-small run k q p)

    -- so its word is read as it
    pub figure-reads : (run k q : ℕ) → signed (word (figure_of ps gs vs es run k q)) ≡ figure_of ps gs vs es run k q
    unfolding figure_of
    figure-reads run k q =
        sum-reads points (part ps gs vs es run k q) (omega arith) (λ p lo hi. le-leb (nat_abs (part ps gs vs es run k q p)) most_energy (part-small run k q p))

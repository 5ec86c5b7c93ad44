-- The book follows the exact figures: after a change of the versions of a point. Assumes nothing.
use Prim.Native.Nat.{ℕ, ◌*◌, ◌≤◌, ◌<◌}
use mathlib.Core.Path.{◌≡◌, refl, sym, ap, ◌∙◌, subst}
use mathlib.Core.Bool.{Bool, true, false, cond}
use mathlib.Core.List.{List, []}
use native.Mathlib.Omega.{arith}
use native.Mathlib.Decide.{ℕ_discrete}
use lib.Dec.{eqb}
use lib.IntN.{ℤ, pos, neg_ℤ, ◌+ℤ◌, ◌-ℤ◌, +ℤ_assoc, +ℤ_comm, +ℤ_idr, +ℤ_invr}
use lib.ListN.{length, get_or}
use Rattle.quantity.specs.Limits.{points, runs, energy_ok}
use Rattle.quantity.specs.Lists.{all}
use Rattle.quantity.proofs.Tests.{by-test}
use Rattle.state.specs.Groups.{groups_in}
use Rattle.state.specs.Point.{point_at}
use Rattle.state.specs.Selection.{own, selected}
use Rattle.state.specs.Valid.{point_record_ok, deltas_ok}
use Rattle.state.specs.Version.{record_at}
use Rattle.state.specs.declared.PerRun.{PerRun}
use Rattle.state.specs.declared.PointRecord.{PointRecord}
use Rattle.state.specs.declared.Selection.{Selection}
use Rattle.state.specs.declared.Selection.TheVariants.{None, Selected}
use Rattle.state.specs.declared.VersionRecord.{VersionRecord}
use Rattle.state.proofs.Bounds.{deltas-in}
use Rattle.model.specs.Laws.{SameRow}
use Rattle.model.specs.Log.{differ}
use Rattle.model.specs.Series.{sides_of, adds, energy, figure_of}
use Rattle.model.specs.Step.{amend_run, amended}
use Rattle.model.specs.declared.Sides.{Sides}
use Rattle.model.proofs.Books.{Figures, Booked, booked-same, Reads, Holding, amend-sides}
use Rattle.model.proofs.Figures.{part, figure-follows, state-in}
use Rattle.model.proofs.Logs.{differ-not}
use Rattle.model.proofs.Selections.{Sited, selected-sited, sited-on}
use Rattle.model.proofs.SeriesTable.{InBook, in-book, shaped, adds-zero, adds-minus}

-- each version's row of values has the submission's energies as words; in the base, row i is submission i's
pub record Stored (q : ℕ) (values : List ℕ) (vs : List VersionRecord) (es : List (List ℤ)) : Type 0 where
  pub long : length es ≡ length vs
  pub small : (i j : ℕ) → energy_ok (get_or (get_or es i []) j (pos 0)) ≡ true
  pub rows : (i : ℕ) → i < length vs → (record_at vs i).row.0 ≡ i
  pub reads : (i : ℕ) → i < length vs → Reads q values ((record_at vs i).row.0 * q) (λ (j : ℕ). get_or (get_or es i []) j (pos 0))

energy-same : (es : List (List ℤ)) (s t : Selection) → SameRow s t → (j : ℕ) → energy es s j ≡ energy es t j
unfolding energy
energy-same es None None e j = refl
energy-same es None (Selected t) e j = absurd e
energy-same es (Selected s) None e j = absurd e
energy-same es (Selected s) (Selected t) e j = ap (λ (i : ℕ). get_or (get_or es i []) j (pos 0)) e.0

-- one run, whose selections have these series
pub amend-run : (q run : ℕ) → 1 ≤ run → run ≤ runs → (s : Sides) → InBook s.to → InBook s.from → (values : List ℕ) (old new : Selection) (a b : ℕ → ℤ)
    → Holding q values old a → Holding q values new b → (SameRow old new → (j : ℕ) → a j ≡ b j) → (book : List ℕ) (F : Figures) → Booked q book F
    → Booked q (amend_run run q s old new values book) (λ r m j. F r m j +ℤ cond (eqb run r) (adds s m (b j -ℤ a j)) (pos 0))
unfolding amend_run
amend-run q run lo hi s x y values old new a b ha hb same book F B =
    by-test (λ (l : List ℕ). Booked q l after) (differ old new) _ book
    (λ e. amend-sides q run lo hi values old new a b ha hb s x y book F B)
    (λ e. booked-same q book F after (λ r m j _ _ _ _. sym (stays m j (same (differ-not old new e) j) (eqb run r) (F r m j))) B)
  where
    after : Figures
    after = λ r m j. F r m j +ℤ cond (eqb run r) (adds s m (b j -ℤ a j)) (pos 0)

    stays : (m j : ℕ) → a j ≡ b j → (t : Bool) (f : ℤ) → f +ℤ cond t (adds s m (b j -ℤ a j)) (pos 0) ≡ f
    stays m j e true f = ap (λ (z : ℤ). f +ℤ adds s m (b j -ℤ z)) e ∙ rw (+ℤ_invr (b j), adds-zero s m) (+ℤ_idr f)
    stays m j e false f = +ℤ_idr f

module _ (q : ℕ) (values : List ℕ) (ws : List VersionRecord) (es : List (List ℤ)) (S : Stored q values ws es) where
  holding : (s : Selection) → Sited ws s → Holding q values s (energy es s)
  unfolding energy
  holding None w = λ j. refl
  holding (Selected r) w = subst (λ (n : ℕ). Reads q values (n * q) (λ (j : ℕ). get_or (get_or es r.at []) j (pos 0))) w.1 (S.reads r.at w.0)

  energies-run : (run : ℕ) → 1 ≤ run → run ≤ runs → (s : Sides) → InBook s.to → InBook s.from → (old new : Selection) → Sited ws old → Sited ws new
      → (book : List ℕ) (F : Figures) → Booked q book F
      → Booked q (amend_run run q s old new values book) (λ r m j. F r m j +ℤ cond (eqb run r) (adds s m (energy es new j -ℤ energy es old j)) (pos 0))
  energies-run run lo hi s x y old new wo wn = amend-run q run lo hi s x y values old new (energy es old) (energy es new) (holding old wo) (holding new wn) (energy-same es old new)

  -- both runs, at a point whose versions changed
  pub follow : (ps : List PointRecord) (gs : PerRun (List ℕ)) → all point_record_ok ps ≡ true → deltas_ok gs ≡ true → (p : ℕ) → 1 ≤ p → p ≤ points → (vs : List VersionRecord) → length vs ≤ length ws
      → ((i : ℕ) → i < length vs → (record_at ws i).row.0 ≡ (record_at vs i).row.0) → ((r i : ℕ) → (i ≡ p → ⊥) → own r i ws ≡ own r i vs) → (book : List ℕ) → Booked q book (figure_of ps gs vs es)
      → Booked q (amended q gs (point_at ps p) p vs ws values book) (figure_of ps gs ws es)
  unfolding amended
  follow ps gs in_p in_g p lo hi vs few rows e book B =
      booked-same q _ _ (figure_of ps gs ws es) (λ r m j a b _ _. both r m j a b (ℕ_discrete r 1))
      (energies-run 2 (omega arith) (omega arith) (s 2) (x 2) (y 2) (selected 2 p vs) (selected 2 p ws) (before 2) (selected-sited 2 p ws) _ _
      (energies-run 1 (omega arith) (omega arith) (s 1) (x 1) (y 1) (selected 1 p vs) (selected 1 p ws) (before 1) (selected-sited 1 p ws) book (figure_of ps gs vs es) B))
    where
      s : (run : ℕ) → Sides
      s run = sides_of (groups_in run gs) (point_at ps p)

      x : (run : ℕ) → InBook (s run).to
      x run = in-book (groups_in run gs) (deltas-in gs in_g run) (shaped (point_at ps p) (state-in ps in_p p)).to

      y : (run : ℕ) → InBook (s run).from
      y run = in-book (groups_in run gs) (deltas-in gs in_g run) (shaped (point_at ps p) (state-in ps in_p p)).from

      before : (run : ℕ) → Sited ws (selected run p vs)
      before run = sited-on vs ws few rows (selected run p vs) (selected-sited run p vs)

      A : (r m j : ℕ) → ℤ
      A r m j = adds (s r) m (energy es (selected r p ws) j -ℤ energy es (selected r p vs) j)

      swap : (f u v : ℤ) → f +ℤ (u -ℤ v) ≡ f -ℤ v +ℤ u
      swap f u v = cc (+ℤ_comm u (neg_ℤ v), +ℤ_assoc f (neg_ℤ v) u)

      one : (r m j : ℕ) → figure_of ps gs vs es r m j +ℤ A r m j ≡ figure_of ps gs ws es r m j
      one r m j =
          cc (adds-minus (s r) m (energy es (selected r p ws) j) (energy es (selected r p vs) j), swap (figure_of ps gs vs es r m j) (part ps gs ws es r m j p) (part ps gs vs es r m j p), figure-follows ps gs vs ws es p lo hi e r m j)

      both : (r m j : ℕ) → 1 ≤ r → r ≤ runs → Dec (r ≡ 1) → figure_of ps gs vs es r m j +ℤ cond (eqb 1 r) (A 1 m j) (pos 0) +ℤ cond (eqb 2 r) (A 2 m j) (pos 0) ≡ figure_of ps gs ws es r m j
      both r m j a b (yes z) = rw z (+ℤ_idr (figure_of ps gs vs es 1 m j +ℤ A 1 m j) ∙ one 1 m j)
      both r m j a b (no ne) = let z : r ≡ 2 = omega arith in rw z (rw (+ℤ_idr (figure_of ps gs vs es 2 m j)) (one 2 m j))

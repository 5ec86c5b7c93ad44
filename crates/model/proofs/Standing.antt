-- Past its deadline a run stands still: run 1 after day C, run 2 after day K. Assumes nothing.
use Prim.Native.Nat.{ℕ, ◌≤◌, ◌<◌}
use mathlib.Core.Path.{◌≡◌, refl, sym, ◌∙◌, subst}
use mathlib.Core.Bool.{true}
use mathlib.Core.List.{List, [], ◌∷◌, ◌++◌, map, map-append}
use mathlib.Core.Logic.{inl, inr}
use native.Mathlib.Omega.{arith}
use borrow.Author.Tests.{not-false}
use Rattle.std.specs.Prelude.{Ok, Err}
use Rattle.quantity.specs.Limits.{runs}
use Rattle.quantity.specs.Lists.{all, fold}
use Rattle.quantity.proofs.Lists.{any-false}
use Rattle.state.specs.Desk.{is_open, versions_in}
use Rattle.state.specs.Groups.{groups_in}
use Rattle.state.specs.Point.{free_point, active_point, point_at, is_active}
use Rattle.state.specs.Version.{is_at}
use Rattle.model.specs.Agreement.{Running, Chained, replies, end, fresh, book_figure, Agree}
use Rattle.model.specs.Call.{Call, opens, activates, deactivates, submits, notices, assigns, shows, asks, closes, issues, lodges, reports, Stores, Lengths, Lent, Told, told, telling}
use Rattle.model.specs.Causes.{rules, deadline, refusal, Ruling}
use Rattle.model.specs.Laws.{Passed, StandsStill}
use Rattle.model.specs.Plain.{opening_of, day_of, points_of, groups_of, versions_of, energies_of, view_in, figure, joined, plain_next, plain_replies, plain_end, worked_out, after}
use Rattle.model.specs.Series.{figure_of}
use Rattle.model.proofs.Corollaries.{reached}
use Rattle.model.proofs.Deliveries.{all-energised}
use Rattle.model.proofs.Demands.{chained-front}
use Rattle.model.proofs.Figures.{figure-groups, figure-versions, figure-point, figure-energies}
use Rattle.model.proofs.Flags.{Run}
use Rattle.model.proofs.Invariant.{opening-open, tenanted}
use Rattle.model.proofs.Lists.{all-snoc}
use Rattle.model.proofs.Main.{agree}
use Rattle.model.proofs.Onward.{Late, Plain, empty, opened, Onward, onward, always-kept, end-append, early-day, selects-on, start, follows, same-flags}
use Rattle.model.proofs.Points.{selected-none, free-empty, homes-freed}
use Rattle.model.proofs.Rules.{passed}
use Rattle.model.proofs.Selections.{noticed-restated, settled-restated, restated-all}

-- ---- versions are of active points

abbrev Homed : List Told → Type 0
Homed h = all (tenanted (points_of h)) (versions_of h) ≡ true

homed-after : (h : List Told) → Homed h → (n : Lengths) (c : Call) → Passed (rules (view_in h) n c) → Homed (telling n c ∷ h)
unfolding view_in worked_out after fold
homed-after h H n (opens q f c k gs) P = H
homed-after h H n (activates p k a b d) P =
    homes-freed (points_of h) p (active_point k a b d) (versions_of h) (free-empty (points_of h) p (versions_of h) P.1.1.1.1.0 H) H
homed-after h H n (deactivates p d) P = homes-freed (points_of h) p free_point (versions_of h) (any-false (is_at p) (versions_of h) P.1.1.1.1.1.0) H
homed-after h H n (submits p x d es) P =
    all-snoc (tenanted (points_of h)) (versions_of h) _ H (not-false (is_active (point_at (points_of h) p)) P.1.1.1.1.1.0)
homed-after h H n (notices p x y d) P =
    restated-all (versions_of h) _ (noticed-restated (opening_of h).clearing.0 p x y d (versions_of h)) (tenanted (points_of h)) (λ v. refl) H
homed-after h H n (assigns a g d) P = H
homed-after h H n (shows r g) P = H
homed-after h H n (asks p x) P = H
homed-after h H n (closes r d) P = H
homed-after h H n (issues r d) P = restated-all (versions_of h) _ (settled-restated r (versions_of h)) (tenanted (points_of h)) (λ v. refl) H
homed-after h H n (lodges g d es) P = H
homed-after h H n (reports r g) P = H

homed : (l : List Told) → Homed (plain_end [] l)
unfolding worked_out all
homed = always-kept Homed (λ h _ H n c P. homed-after h H n c P) refl

-- ---- the figures

-- an accepted call changes no point that has a version, and no energies that a version has
figure-apart : (h : List Told) → Homed h → (n : Lengths) (run k q : ℕ) (c : Call) → Passed (rules (view_in h) n c)
    → figure_of (points_of h) (groups_of h) (versions_of h) (energies_of h) run k q ≡ figure_of (after (telling n c) (worked_out h)).points (groups_of h) (versions_of h) (after (telling n c) (worked_out h)).energies run k q
unfolding view_in after fold
figure-apart h H n run k q (opens q' f c k' gs) P = refl
figure-apart h H n run k q (activates p k' a b d) P =
    figure-point (points_of h) (groups_of h) (versions_of h) (energies_of h) p (active_point k' a b d) (selected-none p (versions_of h) (free-empty (points_of h) p (versions_of h) P.1.1.1.1.0 H)) run k q
figure-apart h H n run k q (deactivates p d) P =
    figure-point (points_of h) (groups_of h) (versions_of h) (energies_of h) p free_point (selected-none p (versions_of h) (any-false (is_at p) (versions_of h) P.1.1.1.1.1.0)) run k q
figure-apart h H n run k q (submits p x d es) P = figure-energies (points_of h) (groups_of h) (versions_of h) (energies_of h) es (all-energised h) run k q
figure-apart h H n run k q (notices p x y d) P = refl
figure-apart h H n run k q (assigns a g d) P = refl
figure-apart h H n run k q (shows r g) P = refl
figure-apart h H n run k q (asks p x) P = refl
figure-apart h H n run k q (closes r d) P = refl
figure-apart h H n run k q (issues r d) P = refl
figure-apart h H n run k q (lodges g d es) P = refl
figure-apart h H n run k q (reports r g) P = refl

module _ (run : ℕ) (R : Run run) (k q : ℕ) where
  figure-on : (h : List Told) (t : Told) → Plain h → Homed h → Late run h → figure (plain_next h t) run k q ≡ figure h run k q
  unfolding plain_next joined refusal figure worked_out
  figure-on h t P H late = go (refusal (view_in h) t) refl (onward h t P)
    where
      go : (v : Ruling) → refusal (view_in h) t ≡ v → Onward h (joined (refusal (view_in h) t) h t) → figure (joined v h t) run k q ≡ figure h run k q
      go (Err x) e O = refl
      go (Ok tt) e O =
          let A : Onward h (t ∷ h) = rw e at O in
          let w = after t (worked_out h) in
          sym
          (figure-apart h H t.lengths run k q t.call (passed (rules (view_in h) t.lengths t.call) e)
          ∙ figure-groups w.points (groups_of h) w.groups (versions_of h) w.energies run (A.groups run R late) k q
          ∙ figure-versions w.points w.groups (versions_of h) w.versions w.energies run (selects-on h (t ∷ h) P A run R late) k q)

  figure-end : (h m : List Told) → Plain h → ((n : List Told) → Homed (plain_end h n)) → Late run h → figure (plain_end h m) run k q ≡ figure h run k q
  unfolding plain_end
  figure-end h [] P H late = refl
  figure-end h (t ∷ m) P H late =
      let O = onward h t P in
      figure-end (plain_next h t) m O.plain (λ n. H (t ∷ n)) (O.late run R late) ∙ figure-on h t P (H []) late

-- a desk past a deadline is open
late-open : (run : ℕ) (h : List Told) → Plain h → Late run h → is_open (opening_of h) ≡ true
unfolding worked_out
late-open run h (empty z) late = absurd (early-day run (rw z at late))
late-open run h (opened O) late = opening-open (opening_of h) O.opening

-- ---- from a fresh desk on

module _ (l m : List Told) where
  abbrev h : List Told
  h = plain_end [] l

  abbrev g : List Told
  g = plain_end [] (l ++ m)

  -- what a run shows, whichever it is
  still : (run : ℕ) → Run run → Late run h → StandsStill run (opening_of h).quarters (versions_of h) (versions_of g) (groups_in run (groups_of h)) (groups_in run (groups_of g)) (figure h run) (figure g run)
  still run R late =
      record {
        selection = selects-on h g (start l m) (follows l m) run R late;
        groups = (follows l m).groups run R late;
        figures =
            λ k q _ _.
            rw (end-append [] l m)
            (figure-end run R k q h m (start l m) (λ n. rw (← end-append [] l n) (homed (l ++ n))) late);
      }

  -- run 1 after day C
  pub still-first : (opening_of h).clearing.0 < day_of h → StandsStill 1 (opening_of h).quarters (versions_of h) (versions_of g) (groups_of h).first (groups_of g).first (figure h 1) (figure g 1)
  still-first late = still 1 (inl refl) late

  -- run 2 after day K
  pub still-second : (opening_of h).correction.0 < day_of h → StandsStill 2 (opening_of h).quarters (versions_of h) (versions_of g) (groups_of h).second (groups_of g).second (figure h 2) (figure g 2)
  still-second late = still 2 (inr refl) late

-- and on the running desk
module _ (s : Stores) (l m : List Lent) (c : Chained (fresh s) (l ++ m)) where
  abbrev before : Running
  before = end (fresh s) l

  abbrev later : Running
  later = end (fresh s) (l ++ m)

  -- both desks have the same deadlines and the same day
  late-too : (run : ℕ) → deadline before.desk.frame.opening run < before.desk.frame.day.0 → Late run (plain_end [] (map told l))
  late-too run z =
      let front = chained-front (fresh s) l m c in
      rw ((agree s l front).opening, (same-flags before (plain_end [] (map told l)) (reached s l front)).day) at z

  -- what a run shows, by what both desks agree on
  shown : (run : ℕ) → Run run → Late run (plain_end [] (map told l))
      → StandsStill run before.desk.frame.opening.quarters (versions_in before.desk) (versions_in later.desk) (groups_in run before.desk.frame.groups) (groups_in run later.desk.frame.groups) (book_figure before run) (book_figure later run)
  shown run R late =
      let A = agree s l (chained-front (fresh s) l m c) in
      let S = still (map told l) (map told m) run R late in
      record {
        selection = λ p. rw (A.versions, B.versions) (S.selection p);
        groups = rw (A.delta_groups, B.delta_groups) S.groups;
        figures = λ k q lk lq.
            let in_q : q < (opening_of (plain_end [] (map told l))).quarters = rw A.opening at lq in
            let later : q < (end (fresh s) (l ++ m)).desk.frame.opening.quarters = rw (B.opening, (follows (map told l) (map told m)).opening (late-open run (plain_end [] (map told l)) (start (map told l) (map told m)) late)) in_q in
            B.figures run k q (low R) (high R) lk later ∙ S.figures k q lk in_q ∙ sym (A.figures run k q (low R) (high R) lk lq);
      }
    where
      B : Agree (replies (fresh s) (l ++ m)) (end (fresh s) (l ++ m)) (plain_replies [] (map told (l ++ m))) (plain_end [] (map told l ++ map told m))
      B = subst (λ (x : List Told). Agree (replies (fresh s) (l ++ m)) (end (fresh s) (l ++ m)) (plain_replies [] (map told (l ++ m))) (plain_end [] x)) (map-append told l m) (agree s (l ++ m) c)

      low : {r : ℕ} → Run r → 1 ≤ r
      low (inl e) = omega arith
      low (inr e) = omega arith

      high : {r : ℕ} → Run r → r ≤ runs
      high (inl e) = omega arith
      high (inr e) = omega arith

  -- run 1 after day C
  pub first-stands : before.desk.frame.opening.clearing.0 < before.desk.frame.day.0
      → StandsStill 1 before.desk.frame.opening.quarters (versions_in before.desk) (versions_in later.desk) before.desk.frame.groups.first later.desk.frame.groups.first (book_figure before 1) (book_figure later 1)
  first-stands late = shown 1 (inl refl) (late-too 1 late)

  -- run 2 after day K
  pub second-stands : before.desk.frame.opening.correction.0 < before.desk.frame.day.0
      → StandsStill 2 before.desk.frame.opening.quarters (versions_in before.desk) (versions_in later.desk) before.desk.frame.groups.second later.desk.frame.groups.second (book_figure before 2) (book_figure later 2)
  second-stands late = shown 2 (inr refl) (late-too 2 late)

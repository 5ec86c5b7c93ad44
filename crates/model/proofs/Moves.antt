-- "The delta moves to the group", in both runs or in run 2 only: the exact figures with another delta group, and the book that follows them. Assumes nothing.
use Prim.Native.Nat.{ℕ, zero, suc, ◌≤◌, ◌<◌}
use mathlib.Core.Path.{◌≡◌, refl, sym, ap, ◌∙◌}
use mathlib.Core.Bool.{Bool, true, false, cond, ◌&&◌}
use mathlib.Core.List.{List}
use native.Mathlib.Omega.{arith}
use native.Mathlib.Decide.{ℕ_discrete}
use borrow.Author.Tests.{eq-eqb, ne_eqb}
use lib.Dec.{eqb}
use lib.IntN.{ℤ, pos, neg_ℤ, ◌+ℤ◌, ◌-ℤ◌, +ℤ_assoc, +ℤ_comm, +ℤ_idr, +ℤ_invr, neg_ℤ-+ℤ}
use lib.ListN.{length, get_or, set}
use lib.Seq.{get_or-set_same, get_or-set_other}
use Rattle.quantity.specs.Limits.{points, areas, groups, runs, group_ok}
use Rattle.quantity.specs.Lists.{all}
use Rattle.quantity.specs.Sum.{sum_to}
use Rattle.quantity.proofs.Integers.{cross}
use Rattle.quantity.proofs.Sums.{sum-same, sum-plus}
use Rattle.book.specs.Place.{group_row, delta_row, row_start}
use Rattle.book.specs.declared.Way.TheVariants.{In, Out}
use Rattle.book.proofs.Places.{row-within}
use Rattle.state.specs.Groups.{groups_in, with_group}
use Rattle.state.specs.Point.{point_at}
use Rattle.state.specs.Valid.{state_ok, point_record_ok, deltas_ok}
use Rattle.state.specs.declared.PerRun.{PerRun}
use Rattle.state.specs.declared.PointRecord.{PointRecord}
use Rattle.state.specs.declared.PointState.{PointState}
use Rattle.state.specs.declared.VersionRecord.{VersionRecord}
use Rattle.state.proofs.Bounds.{deltas-in}
use Rattle.model.specs.Series.{sides_of, at_row, on_side, adds, energy, figure_of}
use Rattle.model.specs.Step.{move_run, moved}
use Rattle.model.specs.declared.Side.{Side}
use Rattle.model.proofs.Books.{Figures, Booked, booked-same, booked-post, Reads, shift}
use Rattle.model.proofs.Figures.{part, figure-groups, state-in}
use Rattle.model.proofs.SeriesTable.{Shape, nowhere, group, delta, shaped, group-small, cond-zero, cond-neg, cond-plus}
use Rattle.state.specs.Selection.{selected}

-- a value out of one row and into another, at row k
abbrev pub move : (old new k : ℕ) → ℤ → ℤ
move o n k z = at_row n k z -ℤ at_row o k z

-- ---- moves are linear

apart : (a b c d : ℤ) → (a +ℤ b) -ℤ (c +ℤ d) ≡ (a -ℤ c) +ℤ (b -ℤ d)
apart a b c d = cc (neg_ℤ-+ℤ c d, cross a b (neg_ℤ c) (neg_ℤ d))

module _ (o n k : ℕ) where
  move-zero : move o n k (pos 0) ≡ pos 0
  move-zero = cc (cond-zero (eqb n k), cond-zero (eqb o k))

  move-plus : (a b : ℤ) → move o n k (a +ℤ b) ≡ move o n k a +ℤ move o n k b
  move-plus a b = cc (cond-plus (eqb n k) a b, cond-plus (eqb o k) a b, apart (at_row n k a) (at_row n k b) (at_row o k a) (at_row o k b))

  move-minus : (a b : ℤ) → move o n k (a -ℤ b) ≡ move o n k a -ℤ move o n k b
  move-minus a b = cc (move-plus a (neg_ℤ b), cond-neg (eqb n k) b, cond-neg (eqb o k) b, neg_ℤ-+ℤ (at_row n k b) (neg_ℤ (at_row o k b)))

  sum-move : (m : ℕ) (f : ℕ → ℤ) → sum_to m (λ (i : ℕ). move o n k (f i)) ≡ move o n k (sum_to m f)
  unfolding sum_to
  sum-move zero f = sym move-zero
  sum-move (suc m) f = cc (sum-move m f, move-plus (sum_to m f) (f (suc m)))

regain : (a o n : ℤ) → a +ℤ o +ℤ (n -ℤ o) ≡ a +ℤ n
regain a o n = cc (cross a o n (neg_ℤ o), +ℤ_invr o, +ℤ_idr (a +ℤ n))

-- ---- the exact figures

module _ (gs : List ℕ) (ok : all group_ok gs ≡ true) (x g : ℕ) (lt : x < length gs) where
  -- what the change of the delta's group does at row k, with z the delta's own figure
  abbrev to : (k : ℕ) → ℤ → ℤ
  to k z = move (group_row (get_or gs x 0)) (group_row g) k z

  side-moves : {t : Bool} {f : List ℕ → Side} → Shape t f → (k : ℕ) (v : ℤ) → on_side (f (set gs x g)) k v ≡ on_side (f gs) k v +ℤ to k (on_side (f gs) (delta_row x) v)
  unfolding on_side
  side-moves nowhere k v = sym (rw (move-zero (group_row (get_or gs x 0)) (group_row g) k) (+ℤ_idr (pos 0)))
  side-moves (group b h) k v =
      let far : eqb (group_row b) (delta_row x) ≡ false = ne_eqb (group_row b) (delta_row x) (λ z. omega arith) in
      sym (rw (far, move-zero (group_row (get_or gs x 0)) (group_row g) k) (+ℤ_idr (at_row (group_row b) k v)))
  side-moves (delta a h) k v = go (ℕ_discrete a x)
    where
      r : ℕ
      r = group_row (get_or gs a 0)

      low : eqb r (delta_row x) ≡ false
      low = ne_eqb r (delta_row x) (λ z. omega (arith, group-small gs ok a))

      go : Dec (a ≡ x) → at_row (delta_row a) k v +ℤ at_row (group_row (get_or (set gs x g) a 0)) k v ≡ at_row (delta_row a) k v +ℤ at_row r k v +ℤ to k (at_row (delta_row a) (delta_row x) v +ℤ at_row r (delta_row x) v)
      go (no ne) =
          let far : eqb (delta_row a) (delta_row x) ≡ false = ne_eqb (delta_row a) (delta_row x) (λ z. ne (omega arith)) in
          rw (get_or-set_other gs x a g 0 ne, low, far, move-zero (group_row (get_or gs x 0)) (group_row g) k) (sym (+ℤ_idr (at_row (delta_row a) k v +ℤ at_row r k v)))
      go (yes e) =
          let near : eqb (delta_row a) (delta_row x) ≡ true = eq-eqb (delta_row a) (delta_row x) (omega arith) in
          let set : get_or (set gs x g) a 0 ≡ g = ap (λ (n : ℕ). get_or (set gs x g) n 0) e ∙ get_or-set_same gs x g 0 lt in
          rw (near, low, set, +ℤ_idr v)
          (sym (ap (λ (n : ℕ). at_row (delta_row a) k v +ℤ at_row r k v +ℤ (at_row (group_row g) k v -ℤ at_row (group_row (get_or gs n 0)) k v)) (sym e) ∙ regain (at_row (delta_row a) k v) (at_row r k v) (at_row (group_row g) k v)))

  adds-moves : (s : PointState) → state_ok s ≡ true → (k : ℕ) (v : ℤ) → adds (sides_of (set gs x g) s) k v ≡ adds (sides_of gs s) k v +ℤ to k (adds (sides_of gs s) (delta_row x) v)
  unfolding adds
  adds-moves s h k v =
      let S = shaped s h in
      let T : ℕ → ℤ = λ (m : ℕ). on_side (sides_of gs s).to m v in
      let R : ℕ → ℤ = λ (m : ℕ). on_side (sides_of gs s).from m v in
      cc (side-moves S.to k v, side-moves S.from k v, apart (T k) (to k (T (delta_row x))) (R k) (to k (R (delta_row x))), move-minus (group_row (get_or gs x 0)) (group_row g) k (T (delta_row x)) (R (delta_row x)))

-- the figures of a run in which a delta has another group
figure-moves : (gs hs : PerRun (List ℕ)) (run x g : ℕ) → all group_ok (groups_in run gs) ≡ true → x < length (groups_in run gs) → groups_in run hs ≡ set (groups_in run gs) x g
    → (ps : List PointRecord) (vs : List VersionRecord) (es : List (List ℤ)) → all point_record_ok ps ≡ true → (k j : ℕ)
    → figure_of ps gs vs es run k j +ℤ move (group_row (get_or (groups_in run gs) x 0)) (group_row g) k (figure_of ps gs vs es run (delta_row x) j) ≡ figure_of ps hs vs es run k j
unfolding figure_of
figure-moves gs hs run x g ok lt e ps vs es in_p k j =
    let l = groups_in run gs in
    let f : ℕ → ℤ = part ps gs vs es run k j in
    let d : ℕ → ℤ = part ps gs vs es run (delta_row x) j in
    ap (λ (z : ℤ). sum_to points f +ℤ z) (sym (sum-move (group_row (get_or l x 0)) (group_row g) k points d))
    ∙ sym (sum-plus points f (λ (p : ℕ). to l ok x g lt k (d p)))
    ∙ sum-same points (λ (p : ℕ). f p +ℤ to l ok x g lt k (d p)) (λ (p : ℕ). adds (sides_of (set l x g) (point_at ps p)) k (energy es (selected run p vs) j))
    (λ p lo hi. sym (adds-moves l ok x g lt (point_at ps p) (state-in ps in_p p) k (energy es (selected run p vs) j)))
    ∙ ap (λ (m : List ℕ). sum_to points (λ (p : ℕ). adds (sides_of m (point_at ps p)) k (energy es (selected run p vs) j))) (sym e)

-- ---- the book

module _ (run q a old new : ℕ) (lo : 1 ≤ run) (hi : run ≤ runs) (in_a : a ≤ areas) (in_o : old ≤ groups) (in_n : new ≤ groups) (book : List ℕ) (F : Figures) (B : Booked q book F) where
  source : Reads q book (row_start q run (delta_row a)) (F run (delta_row a))
  source = record { fits = omega (arith, row-within q run (delta_row a) lo hi (omega arith), B.size); words = λ j l. B.at run (delta_row a) j lo hi (omega arith) l }

  move-run : Booked q (move_run run q a old new book) (λ r m j. F r m j +ℤ cond (eqb run r) (move (group_row old) (group_row new) m (F run (delta_row a) j)) (pos 0))
  unfolding move_run
  move-run =
      let c : ℕ → ℤ = F run (delta_row a) in
      booked-same q _ (shift In run (group_row new) c (shift Out run (group_row old) c F)) _ (λ r m j _ _ _ _. both (eqb run r) (eqb (group_row old) m) (eqb (group_row new) m) (F r m j) (c j))
      (booked-post In q run (group_row new) lo hi (omega arith) _ book _ c _ (booked-post Out q run (group_row old) lo hi (omega arith) book book _ c F B source) source)
    where
      both : (t u v : Bool) (f z : ℤ) → f +ℤ cond (t && u) (neg_ℤ z) (pos 0) +ℤ cond (t && v) z (pos 0) ≡ f +ℤ cond t (cond v z (pos 0) -ℤ cond u z (pos 0)) (pos 0)
      both true u v f z = cc (cond-neg u z, +ℤ_assoc f (neg_ℤ (cond u z (pos 0))) (cond v z (pos 0)), +ℤ_comm (neg_ℤ (cond u z (pos 0))) (cond v z (pos 0)))
      both false u v f z = +ℤ_idr (f +ℤ pos 0)

-- ---- the book with the figures of a valid table

module _ (q x g : ℕ) (in_a : x ≤ areas) (in_g : g ≤ groups) (ps : List PointRecord) (vs : List VersionRecord) (es : List (List ℤ)) (in_p : all point_record_ok ps ≡ true) where
  -- one run
  booked-run : (run : ℕ) → 1 ≤ run → run ≤ runs → (gs hs : PerRun (List ℕ)) → all group_ok (groups_in run gs) ≡ true → x < length (groups_in run gs) → groups_in run hs ≡ set (groups_in run gs) x g
      → ((r : ℕ) → 1 ≤ r → r ≤ runs → (r ≡ run → ⊥) → groups_in r hs ≡ groups_in r gs) → (book : List ℕ) → Booked q book (figure_of ps gs vs es)
      → Booked q (move_run run q x (get_or (groups_in run gs) x 0) g book) (figure_of ps hs vs es)
  booked-run run lo hi gs hs ok lt e others book B =
      booked-same q _ _ (figure_of ps hs vs es) (λ r m j a b _ _. go r m j a b (ℕ_discrete r run))
      (move-run run q x (get_or (groups_in run gs) x 0) g lo hi in_a (group-small (groups_in run gs) ok x) in_g book F B)
    where
      F : Figures
      F = figure_of ps gs vs es

      at : (m : ℕ) → ℤ → ℤ
      at m z = move (group_row (get_or (groups_in run gs) x 0)) (group_row g) m z

      go : (r m j : ℕ) → 1 ≤ r → r ≤ runs → Dec (r ≡ run) → F r m j +ℤ cond (eqb run r) (at m (F run (delta_row x) j)) (pos 0) ≡ figure_of ps hs vs es r m j
      go r m j a b (yes z) = rw (z, eq-eqb run run refl) (figure-moves gs hs run x g ok lt e ps vs es in_p m j)
      go r m j a b (no ne) = rw (ne_eqb run r (λ z. ne (sym z))) (+ℤ_idr (F r m j) ∙ figure-groups ps gs hs vs es r (others r a b ne) m j)

  -- both runs, or run 2 only
  pub booked-moved : (gs : PerRun (List ℕ)) → deltas_ok gs ≡ true → x < length gs.first → x < length gs.second → (both : Bool) (book : List ℕ) → Booked q book (figure_of ps gs vs es)
      → Booked q (moved both q x g gs book) (figure_of ps (with_group both x g gs) vs es)
  unfolding moved
  booked-moved gs ok lt1 lt2 true book B =
      let first : PerRun (List ℕ) = record { first = set gs.first x g; second = gs.second } in
      booked-run 2 (omega arith) (omega arith) first (with_group true x g gs) (deltas-in gs ok 2) lt2 refl (λ r a b ne. let z : r ≡ 1 = omega (arith, ne) in rw z refl) _
      (booked-run 1 (omega arith) (omega arith) gs first (deltas-in gs ok 1) lt1 refl (λ r a b ne. rw (ne_eqb r 1 ne) refl) book B)
  booked-moved gs ok lt1 lt2 false book B =
      booked-run 2 (omega arith) (omega arith) gs (with_group false x g gs) (deltas-in gs ok 2) lt2 refl (λ r a b ne. let z : r ≡ 1 = omega (arith, ne) in rw z refl) book B

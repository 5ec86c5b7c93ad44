-- The book as figures: what a posting, an amendment and a move make of each figure, as words of exact integers. Assumes nothing.
use Prim.Native.Nat.{ℕ, ◌+◌, ◌*◌, ◌≤◌, ◌<◌}
use mathlib.Core.Path.{◌≡◌, refl, sym, ap, ◌∙◌}
use mathlib.Core.Bool.{Bool, true, false, cond, ◌&&◌, true≢false}
use mathlib.Core.Logic.{inl, inr, ⊎_elim}
use mathlib.Core.List.{List}
use native.Mathlib.Omega.{arith}
use borrow.Author.Tests.{eqb-true, eq-eqb}
use lib.Dec.{eqb}
use lib.IntN.{ℤ, pos, neg_ℤ, ◌+ℤ◌, ◌-ℤ◌, +ℤ_assoc, +ℤ_comm, +ℤ_idr, neg_ℤ-+ℤ, neg_ℤ-neg_ℤ}
use lib.ListN.{length, get_or}
use Rattle.quantity.specs.Limits.{runs, run_rows, book_rows}
use Rattle.quantity.specs.Word.{word}
use Rattle.quantity.proofs.Tests.{and-left, and-right, and-both}
use Rattle.quantity.proofs.Words.{word-plus, word-minus}
use Rattle.book.specs.Place.{row_start}
use Rattle.book.specs.Posting.{posted}
use Rattle.book.specs.Row.{changed, back}
use Rattle.book.specs.declared.Way.{Way}
use Rattle.book.specs.declared.Way.TheVariants.{In, Out}
use Rattle.book.proofs.Places.{row-within, rows-apart}
use Rattle.book.proofs.Postings.{length-posted, posted-in, posted-outside}
use Rattle.state.specs.declared.Selection.{Selection}
use Rattle.state.specs.declared.Selection.TheVariants.{None, Selected}
use Rattle.model.specs.Series.{on_side, adds}
use Rattle.model.specs.Step.{post_from, amend_row, amend_side, amend_sides}
use Rattle.model.specs.declared.Side.{Side}
use Rattle.model.specs.declared.Side.TheVariants.{Outside, Group, Delta}
use Rattle.model.specs.declared.Sides.{Sides}
use Rattle.model.proofs.SeriesTable.{InBook, cond-zero, cond-neg}

-- a figure for each run, row and quarter hour
abbrev pub Figures : Type 0
Figures = (run k quarter : ℕ) → ℤ

-- a book of which each figure is the word of the exact one
pub record Booked (q : ℕ) (book : List ℕ) (F : Figures) : Type 0 where
  pub size : length book ≡ book_rows * q
  pub at : (run k j : ℕ) → 1 ≤ run → run ≤ runs → k < run_rows → j < q → get_or book (row_start q run k + j) 0 ≡ word (F run k j)

pub booked-same : (q : ℕ) (book : List ℕ) (F G : Figures) → ((run k j : ℕ) → 1 ≤ run → run ≤ runs → k < run_rows → j < q → F run k j ≡ G run k j) → Booked q book F → Booked q book G
booked-same q book F G e B =
    record { size = B.size; at = λ run k j a b c d. B.at run k j a b c d ∙ ap word (e run k j a b c d) }

-- a value put in, or taken out
abbrev pub turned : Way → ℤ → ℤ
turned In z = z
turned Out z = neg_ℤ z

-- the figures with a series put into one row, or taken out of it
abbrev pub shift : Way → (run k : ℕ) → (ℕ → ℤ) → Figures → Figures
shift w run k c F r m j = F r m j +ℤ cond (eqb run r && eqb k m) (turned w (c j)) (pos 0)

changed-word : (w : Way) (z e : ℤ) → changed w (word z) (word e) ≡ word (z +ℤ turned w e)
unfolding changed
changed-word In z e = sym (word-plus z e)
changed-word Out z e = sym (word-minus z e)

-- q numbers of a store that are the words of a series
pub record Reads (q : ℕ) (values : List ℕ) (at : ℕ) (c : ℕ → ℤ) : Type 0 where
  pub fits : at + q ≤ length values
  pub words : (j : ℕ) → j < q → get_or values (at + j) 0 ≡ word (c j)

-- one posting
module _ (w : Way) (q run k : ℕ) (lo : 1 ≤ run) (hi : run ≤ runs) (row : k < run_rows) (book values : List ℕ) (at : ℕ) (c : ℕ → ℤ) (F : Figures) (B : Booked q book F) (R : Reads q values at c) where
  fits : row_start q run k + q ≤ length book
  fits = omega (arith, row-within q run k lo hi row, B.size)

  pub booked-post : Booked q (posted w book (row_start q run k) q values at) (shift w run k c F)
  booked-post =
      record {
        size = length-posted w book (row_start q run k) q values at fits ∙ B.size;
        at = λ r m j a b d l. go r m j a b d l (eqb run r && eqb k m) refl;
      }
    where
      go : (r m j : ℕ) → 1 ≤ r → r ≤ runs → m < run_rows → j < q → (t : Bool) → (eqb run r && eqb k m) ≡ t
          → get_or (posted w book (row_start q run k) q values at) (row_start q r m + j) 0 ≡ word (F r m j +ℤ cond t (turned w (c j)) (pos 0))
      go r m j a b d l true e =
          let x : run ≡ r = eqb-true run r (and-left (eqb run r) _ e) in
          let y : k ≡ m = eqb-true k m (and-right (eqb run r) _ e) in
          ap (λ (n : ℕ). get_or (posted w book (row_start q run k) q values at) (n + j) 0) (cc (sym x, sym y))
          ∙ posted-in w book (row_start q run k) q values at fits R.fits j l
          ∙ cc (B.at r m j a b d l, x, y, R.words j l, changed-word w (F r m j) (c j))
      go r m j a b d l false e =
          posted-outside w book (row_start q run k) q values at fits (row_start q r m + j)
          (⊎_elim (λ (h : row_start q run k + q ≤ row_start q r m). inr (omega arith)) (λ (h : row_start q r m + q ≤ row_start q run k). inl (omega arith))
          (rows-apart q run k r m lo hi a b row d (λ both. true≢false (sym (and-both _ _ (eq-eqb run r both.0) (eq-eqb k m both.1)) ∙ e))))
          ∙ B.at r m j a b d l ∙ ap word (sym (+ℤ_idr (F r m j)))

-- a selection whose row of values has a series; none has nothing
abbrev pub Holding : (q : ℕ) (values : List ℕ) → Selection → (ℕ → ℤ) → Type 0
Holding q values None c = (j : ℕ) → c j ≡ pos 0
Holding q values (Selected r) c = Reads q values (r.row.0 * q) c

turned-zero : (w : Way) → turned w (pos 0) ≡ pos 0
turned-zero In = refl
turned-zero Out = refl

module _ (q run : ℕ) (lo : 1 ≤ run) (hi : run ≤ runs) (values : List ℕ) where
  post-from : (w : Way) (k : ℕ) → k < run_rows → (book : List ℕ) (F : Figures) (p : Selection) (c : ℕ → ℤ) → Holding q values p c → Booked q book F
      → Booked q (post_from w book (row_start q run k) q values p) (shift w run k c F)
  unfolding post_from
  post-from w k row book F None c h B =
      booked-same q book F (shift w run k c F)
      (λ r m j _ _ _ _. sym (ap (λ (z : ℤ). F r m j +ℤ cond (eqb run r && eqb k m) z (pos 0)) (ap (turned w) (h j) ∙ turned-zero w) ∙ rw (cond-zero (eqb run r && eqb k m)) (+ℤ_idr (F r m j)))) B
  post-from w k row book F (Selected r) c h B = booked-post w q run k lo hi row book values (r.row.0 * q) c F B h

  module _ (old new : Selection) (a b : ℕ → ℤ) (hold : Holding q values old a) (hnew : Holding q values new b) where
    -- the new series less the old one
    change : ℕ → ℤ
    change j = b j -ℤ a j

    -- the old series out of a row and the new one in
    amend-row : (w : Way) (k : ℕ) → k < run_rows → (book : List ℕ) (F : Figures) → Booked q book F → Booked q (amend_row w run q k old new values book) (shift w run k change F)
    unfolding amend_row change
    amend-row w k row book F B =
        booked-same q _ (shift w run k b (shift (back w) run k a F)) (shift w run k change F) (λ r m j _ _ _ _. both w (eqb run r && eqb k m) (F r m j) (a j) (b j))
        (post-from w k row _ (shift (back w) run k a F) new b hnew (post-from (back w) k row book F old a hold B))
      where
        both : (w : Way) (t : Bool) (z x y : ℤ) → z +ℤ cond t (turned (back w) x) (pos 0) +ℤ cond t (turned w y) (pos 0) ≡ z +ℤ cond t (turned w (y -ℤ x)) (pos 0)
        both In true z x y = cc (+ℤ_assoc z (neg_ℤ x) y, +ℤ_comm (neg_ℤ x) y)
        both Out true z x y = cc (+ℤ_assoc z x (neg_ℤ y), neg_ℤ-+ℤ y (neg_ℤ x), neg_ℤ-neg_ℤ x, +ℤ_comm x (neg_ℤ y))
        both w false z x y = +ℤ_idr (z +ℤ pos 0)

    -- each row of a side
    amend-side : (w : Way) (s : Side) → InBook s → (book : List ℕ) (F : Figures) → Booked q book F
        → Booked q (amend_side w run q s old new values book) (λ r m j. F r m j +ℤ cond (eqb run r) (turned w (on_side s m (change j))) (pos 0))
    unfolding amend_side on_side
    amend-side w Outside i book F B =
        booked-same q book F _ (λ r m j _ _ _ _. sym (rw (turned-zero w, cond-zero (eqb run r)) (+ℤ_idr (F r m j)))) B
    amend-side w (Group g) i book F B =
        booked-same q _ (shift w run g change F) _ (λ r m j _ _ _ _. ap (λ (z : ℤ). F r m j +ℤ z) (inner w (eqb run r) (eqb g m) (change j))) (amend-row w g i book F B)
      where
        inner : (w : Way) (t u : Bool) (z : ℤ) → cond (t && u) (turned w z) (pos 0) ≡ cond t (turned w (cond u z (pos 0))) (pos 0)
        inner w true true z = refl
        inner In true false z = refl
        inner Out true false z = refl
        inner w false u z = refl
    amend-side w (Delta x g) i book F B =
        booked-same q _ (shift w run g change (shift w run x change F)) _ (λ r m j _ _ _ _. inner w (eqb run r) (eqb x m) (eqb g m) (F r m j) (change j))
        (amend-row w g i.1 _ (shift w run x change F) (amend-row w x i.0 book F B))
      where
        inner : (w : Way) (t u v : Bool) (f z : ℤ)
            → f +ℤ cond (t && u) (turned w z) (pos 0) +ℤ cond (t && v) (turned w z) (pos 0) ≡ f +ℤ cond t (turned w (cond u z (pos 0) +ℤ cond v z (pos 0))) (pos 0)
        inner In true u v f z = +ℤ_assoc f (cond u z (pos 0)) (cond v z (pos 0))
        inner Out true u v f z = cc (cond-neg u z, cond-neg v z, +ℤ_assoc f (cond u (neg_ℤ z) (pos 0)) (cond v (neg_ℤ z) (pos 0)), neg_ℤ-+ℤ (cond u z (pos 0)) (cond v z (pos 0)))
        inner w false u v f z = +ℤ_idr (f +ℤ pos 0)

    -- both sides: the figures of the run change by what the change adds
    pub amend-sides : (s : Sides) → InBook s.to → InBook s.from → (book : List ℕ) (F : Figures) → Booked q book F
        → Booked q (amend_sides run q s old new values book) (λ r m j. F r m j +ℤ cond (eqb run r) (adds s m (b j -ℤ a j)) (pos 0))
    unfolding amend_sides adds change
    amend-sides s x y book F B =
        booked-same q _ _ _ (λ r m j _ _ _ _. inner (eqb run r) (F r m j) (on_side s.to m (b j -ℤ a j)) (on_side s.from m (b j -ℤ a j)))
        (amend-side Out s.from y _ _ (amend-side In s.to x book F B))
      where
        inner : (t : Bool) (f u v : ℤ) → f +ℤ cond t u (pos 0) +ℤ cond t (neg_ℤ v) (pos 0) ≡ f +ℤ cond t (u -ℤ v) (pos 0)
        inner true f u v = +ℤ_assoc f u (neg_ℤ v)
        inner false f u v = +ℤ_idr (f +ℤ pos 0)

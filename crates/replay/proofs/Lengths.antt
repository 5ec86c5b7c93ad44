-- Whatever a call posts, in any book, the book keeps its length. Assumes nothing.
use Prim.Native.Nat.{ℕ, ◌*◌}
use mathlib.Core.Path.{◌≡◌, refl, ◌∙◌}
use mathlib.Core.Bool.{Bool}
use mathlib.Core.List.{List}
use native.Mathlib.Omega.{arith}
use lib.ListN.{length, length-append, length-take, length-drop}
use Rattle.quantity.proofs.Tests.{by-test}
use Rattle.book.specs.Place.{row_start}
use Rattle.book.specs.Posting.{posted}
use Rattle.book.specs.Row.{changed, back, part, splice}
use Rattle.book.specs.declared.Way.{Way}
use Rattle.book.specs.declared.Way.TheVariants.{In, Out}
use Rattle.book.proofs.Rows.{length-zip}
use Rattle.state.specs.Selection.{own, or_else}
use Rattle.state.specs.declared.PerRun.{PerRun}
use Rattle.state.specs.declared.PointState.{PointState}
use Rattle.state.specs.declared.Selection.{Selection}
use Rattle.state.specs.declared.Selection.TheVariants.{None, Selected}
use Rattle.state.specs.declared.VersionRecord.{VersionRecord}
use Rattle.model.specs.Log.{differ}
use Rattle.model.specs.Series.{sides_of}
use Rattle.model.specs.Step.{post_from, amend_row, amend_side, amend_sides, amend_run, amended, move_run, moved}
use Rattle.model.specs.declared.Side.{Side}
use Rattle.model.specs.declared.Side.TheVariants.{Outside, Group, Delta}
use Rattle.model.specs.declared.Sides.{Sides}

length-spliced : (l r : List ℕ) (a q : ℕ) → length r ≡ length (part l a q) → length (splice l a q r) ≡ length l
unfolding splice part
length-spliced l r a q e =
    simp (length-append, length-take, length-drop) (omega (arith, simp (length-take, length-drop) at e))

length-posted : (w : Way) (book : List ℕ) (start q : ℕ) (values : List ℕ) (at : ℕ) → length (posted w book start q values at) ≡ length book
unfolding posted
length-posted w book start q values at = length-spliced book _ start q (length-zip (changed w) (part book start q) (part values at q))

module _ (q : ℕ) (values : List ℕ) where
  post-from : (w : Way) (book : List ℕ) (start : ℕ) (s : Selection) → length (post_from w book start q values s) ≡ length book
  unfolding post_from
  post-from w book start None = refl
  post-from w book start (Selected r) = length-posted w book start q values (r.row.0 * q)

  module _ (run : ℕ) (old new : Selection) where
    amend-row : (w : Way) (k : ℕ) (book : List ℕ) → length (amend_row w run q k old new values book) ≡ length book
    unfolding amend_row
    amend-row w k book = post-from w _ (row_start q run k) new ∙ post-from (back w) book (row_start q run k) old

    amend-side : (w : Way) (s : Side) (book : List ℕ) → length (amend_side w run q s old new values book) ≡ length book
    unfolding amend_side
    amend-side w Outside book = refl
    amend-side w (Group g) book = amend-row w g book
    amend-side w (Delta x g) book = amend-row w g _ ∙ amend-row w x book

    amend-sides : (s : Sides) (book : List ℕ) → length (amend_sides run q s old new values book) ≡ length book
    unfolding amend_sides
    amend-sides s book = amend-side Out s.from _ ∙ amend-side In s.to book

  amend-run : (run : ℕ) (s : Sides) (old new : Selection) (book : List ℕ) → length (amend_run run q s old new values book) ≡ length book
  unfolding amend_run
  amend-run run s old new book =
      by-test (λ (l : List ℕ). length l ≡ length book) (differ old new) _ book (λ _. amend-sides run old new s book) (λ _. refl)

  -- a change of the versions of a point
  pub length-amended : (gs : PerRun (List ℕ)) (here : PointState) (p : ℕ) (vs ws : List VersionRecord) (book : List ℕ) → length (amended q gs here p vs ws values book) ≡ length book
  unfolding amended
  length-amended gs here p vs ws book =
      amend-run 2 (sides_of gs.second here) (or_else (own 2 p vs) (own 1 p vs)) (or_else (own 2 p ws) (own 1 p ws)) _ ∙ amend-run 1 (sides_of gs.first here) (own 1 p vs) (own 1 p ws) book

move-run : (run q a old new : ℕ) (book : List ℕ) → length (move_run run q a old new book) ≡ length book
unfolding move_run
move-run run q a old new book = length-posted In _ _ q book _ ∙ length-posted Out book _ q book _

-- a delta that moves to another group
pub length-moved : (both : Bool) (q a new : ℕ) (gs : PerRun (List ℕ)) (book : List ℕ) → length (moved both q a new gs book) ≡ length book
unfolding moved
length-moved both q a new gs book =
    move-run 2 q a _ new _ ∙ by-test (λ (l : List ℕ). length l ≡ length book) both _ book (λ _. move-run 1 q a _ new book) (λ _. refl)

-- Laws of a posting: what the book has at each place after it; and two postings into one row as one. Assumes nothing.
use mathlib.Core.Path.{◌≡◌, ◌∙◌}
use mathlib.Core.Logic.{◌⊎◌, ⊎_elim}
use mathlib.Core.List.{List}
use Prim.Native.Nat.{ℕ, ◌+◌, ◌≤◌, ◌<◌}
use native.Mathlib.Omega.{arith}
use lib.ListN.{length, get_or}
use Rattle.book.specs.declared.Way.{Way}
use Rattle.book.specs.Row.{zip, part, splice, changed, back}
use Rattle.book.specs.Posting.{posted}
use Rattle.book.proofs.Rows.{length-part, part-at, length-zip, zip-at, length-splice, part-splice, splice-splice, splice-in, splice-before, splice-after}

module _ (way : Way) (book : List ℕ) (start q : ℕ) (values : List ℕ) (at : ℕ) (fits : start + q ≤ length book) where
  row : List ℕ
  row = zip (changed way) (part book start q) (part values at q)

  full : length row ≡ q
  unfolding row
  full = length-zip (changed way) (part book start q) (part values at q) ∙ length-part book start q fits

  pub length-posted : length (posted way book start q values at) ≡ length book
  unfolding posted row
  length-posted = length-splice book row start q fits full

  -- a figure in the row is changed by the value at its place
  pub posted-in : at + q ≤ length values → (j : ℕ) → j < q → get_or (posted way book start q values at) (start + j) 0 ≡ changed way (get_or book (start + j) 0) (get_or values (at + j) 0)
  unfolding posted row
  posted-in there j h =
      splice-in book row start q fits full j 0 h
      ∙ zip-at (changed way) (part book start q) (part values at q) j 0 (omega (arith, length-part book start q fits)) (omega (arith, length-part values at q there))
      ∙ cc (part-at book start q j 0 h, part-at values at q j 0 h)

  -- a figure outside the row is as it was
  pub posted-outside : (i : ℕ) → (i < start) ⊎ (start + q ≤ i) → get_or (posted way book start q values at) i 0 ≡ get_or book i 0
  unfolding posted row
  posted-outside i o =
      ⊎_elim (λ (h : i < start). splice-before book row start q fits full i 0 h) (λ (h : start + q ≤ i). splice-after book row start q fits full i 0 h) o

-- the old series taken back and the new one posted, in one row
pub reposted : (way : Way) (book : List ℕ) (start q : ℕ) (values : List ℕ) (old new : ℕ) → start + q ≤ length book
    → splice book start q (zip (changed way) (zip (changed (back way)) (part book start q) (part values old q)) (part values new q))
    ≡ posted way (posted (back way) book start q values old) start q values new
unfolding posted row
reposted way book start q values old new fits =
    let r = row (back way) book start q values old fits in
    let f = full (back way) book start q values old fits in
    rw (part-splice book r start q fits f, splice-splice book r start q fits f)

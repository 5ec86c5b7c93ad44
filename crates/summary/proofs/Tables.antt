-- Rows of numbers put one after the other, and answers counted from the last on. Assumes nothing.
use Prim.Native.Nat.{ℕ, zero, suc, ◌+◌, ◌-◌, ◌*◌, ◌≤◌, ◌<◌}
use mathlib.Core.Path.{◌≡◌, refl, sym, ap, ◌∙◌}
use mathlib.Core.List.{List, [], ◌∷◌, ◌++◌, append_assoc}
use native.Mathlib.Omega.{arith}
use native.Mathlib.Numerals.{add-one}
use borrow.Author.Tests.{eq-eqb, ne_eqb}
use lib.ListN.{length, take, drop, get_or, length-append, drop_of_length-le}
use lib.Seq.{take_at, drop_at, drop-drop, drop-cons, length-take-le, get_or-take}
use Rattle.book.specs.Row.{splice}
use Rattle.replay.specs.Replay.{over}
use Rattle.state.specs.declared.PointState.{PointState}
use Rattle.state.specs.declared.PointState.TheVariants.{Free, Active}
use Rattle.state.specs.Point.{point_at}
use Rattle.state.specs.Version.{record_at, empty_version}
use Rattle.state.specs.declared.PointRecord.{PointRecord}
use Rattle.state.specs.declared.Selection.{Selection}
use Rattle.state.specs.declared.VersionRecord.{VersionRecord}
use Rattle.quantity.specs.Limits.{points}
use Rattle.checks.specs.Picks.{no_picks, selected_in, PicksIn}
use Rattle.state.specs.declared.PerRun.{PerRun}
use Rattle.summary.specs.Table.{rows_to, point_places, point_row, version_places, version_row, refusals, first_refused}

-- one row more behind those that stand
pub over-more : (new row old : List ℕ) (at k : ℕ) → length new ≡ at → length row ≡ k → splice (over new old) at k row ≡ over (new ++ row) old
unfolding splice
over-more new row old at k e f =
    rw (take_at new (drop (length new) old) at e, drop_at new (drop (length new) old) at e, drop-drop k (length new) old, length-append new row, f)
    (sym (append_assoc new row (drop (length new + k) old)))

module _ (f : ℕ → List ℕ) (k : ℕ) (wide : (i : ℕ) → length (f i) ≡ k) where
  pub rows-length : (n : ℕ) → length (rows_to n f) ≡ k * n
  unfolding rows_to
  rows-length zero = omega arith
  rows-length (suc n) = length-append (rows_to n f) (f n) ∙ omega (arith, rows-length n, wide n)

  pub rows-more : (i at : ℕ) (row old out next : List ℕ) → at ≡ k * i → row ≡ f i → out ≡ over (rows_to i f) old
      → next ≡ splice out at (length row) row → next ≡ over (rows_to (i + 1) f) old
  unfolding rows_to
  rows-more i at row old out next e r o n =
      n ∙ rw (o, r, add-one i) (over-more (rows_to i f) (f i) old at (length (f i)) (rows-length i ∙ sym e) refl)

-- nothing put yet
pub rows-none : (f : ℕ → List ℕ) (old : List ℕ) → old ≡ over (rows_to 0 f) old
unfolding rows_to
rows-none f old = refl

point-wide : (p : PointState) (s t : Selection) → length (point_places p s t) ≡ 9
point-wide Free s t = refl
point-wide (Active since kind area partner) s t = refl

-- the same rows, place by place
rows-same : (n : ℕ) (f g : ℕ → List ℕ) → ((i : ℕ) → i < n → f i ≡ g i) → rows_to n f ≡ rows_to n g
unfolding rows_to
rows-same zero f g e = refl
rows-same (suc n) f g e = rw (rows-same n f g (λ i h. e i (omega arith)), e n (omega arith))

-- a point's row by the table of picks
abbrev pub picked_row : List PointRecord → List (PerRun Selection) → ℕ → List ℕ
picked_row ps t i = point_places (point_at ps (suc i)) (selected_in 1 (get_or t i no_picks)) (selected_in 2 (get_or t i no_picks))

pub picked-wide : (ps : List PointRecord) (t : List (PerRun Selection)) (i : ℕ) → length (picked_row ps t i) ≡ 9
picked-wide ps t i = point-wide (point_at ps (suc i)) _ _

pub picked-all : (ps : List PointRecord) (vs : List VersionRecord) (t : List (PerRun Selection)) → PicksIn vs t → rows_to points (picked_row ps t) ≡ rows_to points (point_row ps vs)
picked-all ps vs t k = rows-same points (picked_row ps t) (point_row ps vs) (λ i h. rw (k.each i h))

-- the first records of a table are those held
module _ (vs : List VersionRecord) (n count : ℕ) (same : take n vs ≡ take count vs) where
  pub version-here : (i : ℕ) (row : List ℕ) → i < n → row ≡ version_places (record_at vs i) → row ≡ version_row (take count vs) i
  version-here i row h e = e ∙ ap version_places (sym (get_or-take n vs i empty_version h) ∙ ap (λ (l : List VersionRecord). record_at l i) same)

  pub all-held : n ≤ length vs → n ≡ length (take count vs)
  all-held h = sym (length-take-le n vs h) ∙ ap length same

-- ---- answers counted from the last on

past : (l : List ℕ) (n : ℕ) → n ≤ length l → drop n (take n l) ≡ []
past l n h = drop_of_length-le (take n l) {i = n} (omega (arith, length-take-le n l h))

pub none-refused : (l : List ℕ) (n : ℕ) → n ≤ length l → 0 ≡ refusals (drop n (take n l))
unfolding refusals
none-refused l n h = rw (past l n h)

pub none-first : (l : List ℕ) (n : ℕ) → n ≤ length l → 0 ≡ first_refused (n + 1) (drop n (take n l))
unfolding first_refused
none-first l n h = rw (past l n h)

-- one answer more in front: that of call i, counted from 1
module _ (s : List ℕ) (n i count first : ℕ) (fits : n ≤ length s) (some : 0 < i) (inside : i ≤ n)
    (e : count ≡ refusals (drop i (take n s))) (f : first ≡ first_refused (i + 1) (drop i (take n s))) where
  answer : get_or (take n s) (i - 1) 0 ≡ get_or s (i - 1) 0
  answer = get_or-take n s (i - 1) 0 (omega arith)

  behind : drop (i - 1) (take n s) ≡ get_or s (i - 1) 0 ∷ drop i (take n s)
  behind =
      let next : suc (i - 1) ≡ i = omega arith in
      drop-cons (take n s) (i - 1) 0 (omega (arith, length-take-le n s fits)) ∙ rw (answer, next)

  pub refused-here : (get_or s (i - 1) 0 ≡ 0 → ⊥) → (count + 1 ≡ refusals (drop (i - 1) (take n s))) × (i - 1 + 1 ≡ first_refused (i - 1 + 1) (drop (i - 1) (take n s)))
  unfolding refusals first_refused
  refused-here z = (rw (behind, ne_eqb (get_or s (i - 1) 0) 0 z) (omega (arith, e)), rw (behind, ne_eqb (get_or s (i - 1) 0) 0 z))

  pub accepted-here : get_or s (i - 1) 0 ≡ 0 → (count ≡ refusals (drop (i - 1) (take n s))) × (first ≡ first_refused (i - 1 + 1) (drop (i - 1) (take n s)))
  unfolding refusals first_refused
  accepted-here z =
      let next : i + 1 ≡ suc (i - 1 + 1) = omega arith in
      (rw (behind, eq-eqb (get_or s (i - 1) 0) 0 z) e, rw (behind, eq-eqb (get_or s (i - 1) 0) 0 z) (rw next at f))

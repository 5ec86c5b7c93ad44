-- The sum of a row, figure by figure, and the row that passed the test. Assumes nothing.
use Prim.Native.Nat.{ℕ, ◌+◌, ◌≤◌}
use mathlib.Core.Path.{◌≡◌, refl, sym, ◌∙◌}
use mathlib.Core.Bool.{Bool, true, false, ◌&&◌}
use mathlib.Core.List.{List}
use native.Mathlib.Numerals.{add-one}
use native.Mathlib.Omega.{arith}
use borrow.Author.Tests.{ltb-true}
use lib.Dec.{ltb}
use lib.ListN.{get_or}
use Rattle.quantity.specs.Limits.{quarters_ok, run_ok, most_quarters, runs, run_rows}
use Rattle.quantity.specs.Word.{plus}
use Rattle.quantity.proofs.Tests.{and-left, and-right, within-low, within-high}
use Rattle.book.specs.Place.{IsRow, row_start}
use Rattle.book.proofs.Places.{row-within}
use Rattle.host.specs.Month.{sum_from, row_ok, month_of}

module _ (s : List ℕ) (at : ℕ) where
  pub sum-none : 0 ≡ sum_from s at 0
  unfolding sum_from
  sum-none = refl

  pub sum-more : (n : ℕ) {sum figure next : ℕ} → sum ≡ sum_from s at n → figure ≡ get_or s (at + n) 0 → next ≡ plus sum figure → next ≡ sum_from s at (n + 1)
  unfolding sum_from
  sum-more n e f g = g ∙ rw (e, f, add-one n)

module _ (q r k : ℕ) {b : Bool} (e : b ≡ row_ok q r k) where
  module _ (t : b ≡ true) where
    ok : row_ok q r k ≡ true
    ok = sym e ∙ t

    pub is-row : IsRow r k q
    is-row =
        let rest = and-right (quarters_ok q) (run_ok r && ltb k run_rows) ok in
        let run = and-left (run_ok r) (ltb k run_rows) rest in
        record {
          low = within-low 1 runs r run;
          high = within-high 1 runs r run;
          row = ltb-true k run_rows (and-right (run_ok r) (ltb k run_rows) rest);
          few = within-high 1 most_quarters q (and-left (quarters_ok q) (run_ok r && ltb k run_rows) ok);
        }

    pub start-small : (row_start q r k ≤ 1000000) × (q ≤ 1000000)
    start-small =
        let i = is-row in
        let end = row-within q r k i.low i.high i.row in
        (omega (arith, end, i.few), omega (arith, i.few))

    pub month-there : (s : List ℕ) {at n : ℕ} → at ≡ row_start q r k → n ≡ sum_from s at q → n ≡ month_of s q r k
    month-there s a n = n ∙ rw (a, ok)

  pub month-none : (s : List ℕ) → b ≡ false → 0 ≡ month_of s q r k
  month-none s f = rw (sym e, f)

-- After a replay a month's sum and the difference of the runs are exact: the words that it left add up to the word of the plain desk's sum, and that
-- has room in 64 bits, by "No figure exceeds 256 × 10^12 in size." Assumes nothing.
use Prim.Native.Nat.{ℕ, zero, suc, ◌+◌, ◌-◌, ◌*◌, ◌≤◌, ◌<◌}
use mathlib.Core.Path.{◌≡◌, refl, sym, ap, ap₂, ◌∙◌}
use mathlib.Core.Bool.{true}
use mathlib.Core.List.{List, []}
use native.Mathlib.Nat.{mul-le-mul_right}
use native.Mathlib.Omega.{arith}
use borrow.Author.Tests.{le-leb, lt-ltb}
use lib.IntN.{ℤ, ◌-ℤ◌, neg_ℤ, nat_abs}
use lib.ListN.{length, get_or}
use Rattle.quantity.specs.Limits.{points, runs, run_rows, most_energy}
use Rattle.quantity.specs.Sum.{sum_to}
use Rattle.quantity.specs.Word.{word, signed, plus, minus}
use Rattle.quantity.proofs.Integers.{nat_abs-plus, nat_abs-neg}
use Rattle.quantity.proofs.Sums.{sum-small}
use Rattle.quantity.proofs.Words.{word-plus, word-minus, signed-word, small-fits}
use Rattle.book.specs.Place.{row_start}
use Rattle.model.specs.Call.{Stores, Told}
use Rattle.model.specs.Plain.{opening_of, figure, plain_end}
use Rattle.replay.specs.Replay.{calls_for, told_of, Leaving}
use Rattle.replay.proofs.Bounds.{Bounded, replay-bounded}
use Rattle.host.specs.Month.{sum_from, row_ok, month_of, plain_month, Exact}
use Rattle.host.specs.Replay.{Places, fitting, Summarised}

-- words added up, wrapped, are the word of the exact sum
module _ (s : List ℕ) (at : ℕ) (f : ℕ → ℤ) where
  sum-word : (n : ℕ) → ((i : ℕ) → i < n → get_or s (at + i) 0 ≡ word (f (suc i))) → sum_from s at n ≡ word (sum_to n f)
  unfolding sum_from sum_to word
  sum-word zero e = refl
  sum-word (suc n) e = ap₂ plus (sum-word n (λ i l. e i (omega arith))) (e n (omega arith)) ∙ sym (word-plus (sum_to n f) (f (suc n)))

module _ (h : List Told) (s after : Stores) (B : Bounded h) (L : Leaving h s after) where
  -- the month's quarter hours
  abbrev Q : ℕ
  Q = (opening_of h).quarters

  -- a month has room in 61 bits
  month-small : (run row : ℕ) → nat_abs (plain_month h run row) ≤ 2980 * 256000000000000
  month-small run row =
      let each = sum-small (points * most_energy) Q (λ (n : ℕ). figure h run row (n - 1)) (λ n _ _. B.small run row (n - 1)) in
      omega (arith, each, mul-le-mul_right 256000000000000 B.few)

  -- the sum is its word, of an open desk and of none
  month-word : (run row : ℕ) → 1 ≤ run → run ≤ runs → row < run_rows → month_of after.book Q run row ≡ word (plain_month h run row)
  unfolding sum_to word
  month-word run row a b c = go Q refl
    where
      go : (q : ℕ) → Q ≡ q → month_of after.book Q run row ≡ word (plain_month h run row)
      go zero e = rw e refl
      go (suc n) e =
          let ok : row_ok Q run row ≡ true = rw (le-leb 1 Q (omega arith), le-leb Q 2980 B.few, le-leb 1 run a, le-leb run 2 b, lt-ltb row 81 c) in
          rw ok (sum-word after.book (row_start Q run row) (λ (n : ℕ). figure h run row (n - 1)) Q (λ i l. let same : i ≡ suc i - 1 = omega arith in L.words run row i a b c l ∙ ap (λ (n : ℕ). word (figure h run row n)) same))

  pub leaving-exact : Exact h after.book
  leaving-exact =
      record {
        sum = λ run row a b c. ap signed (month-word run row a b c) ∙ signed-word (plain_month h run row) (small-fits (plain_month h run row) (omega (arith, month-small run row)));
        difference = λ row c.
            let first = plain_month h 1 row in
            let second = plain_month h 2 row in
            ap signed (ap₂ minus (month-word 2 row (omega arith) (omega arith) c) (month-word 1 row (omega arith) (omega arith) c) ∙ sym (word-minus second first))
            ∙ signed-word (second -ℤ first) (small-fits (second -ℤ first) (omega (arith, nat_abs-plus second (neg_ℤ first), nat_abs-neg first, month-small 2 row, month-small 1 row)));
      }

-- after a replay, whatever the file and the stores
module _ (file : List ℕ) (s : Stores) (buffer output : List ℕ) (p : Places) (number : ℕ) (after : Stores) (buffer' output' : List ℕ) (p' : Places)
    (R : Summarised file s buffer output p number after buffer' output' p') (enough : fitting p ≡ true) where
  -- the plain desk's list of accepted calls
  abbrev list : List Told
  list = plain_end [] (told_of s (calls_for file (length buffer) (length output)))

  -- Q is told in the summary
  pub quarters-told : get_or p'.summary 2 0 ≡ (opening_of list).quarters
  quarters-told = ap (λ (l : List ℕ). get_or l 2 0) (R.runs enough).summary

  -- and sums and differences over the book that is left are exact
  pub months-exact : Exact list after.book
  months-exact = leaving-exact list s after (replay-bounded s (calls_for file (length buffer) (length output))) (R.runs enough).gives.stores

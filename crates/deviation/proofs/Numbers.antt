-- The report from bytes by the papers' numbers: which answer is given when, and which sums it has. Assumes nothing.
use Prim.Native.Nat.{ℕ, ◌+◌, ◌-◌, ◌*◌, ◌^◌, ◌≤◌, ◌<◌}
use mathlib.Core.Path.{◌≡◌, refl, sym, ◌∙◌}
use mathlib.Core.Bool.{true}
use mathlib.Core.List.{List}
use native.Mathlib.Omega.{arith}
use borrow.Author.Tests.{ne_eqb}
use lib.Dec.{eqb}
use lib.IntN.{◌-ℤ◌}
use lib.ListN.{length, get_or, take, drop}
use Rattle.quantity.specs.Limits.{quarters_ok, run_ok, group_ok}
use Rattle.quantity.specs.Meaning.{Means}
use Rattle.quantity.specs.Sum.{sum_to}
use Rattle.quantity.specs.Word.{word, signed}
use Rattle.quantity.proofs.Meanings.{means-eq, means-and}
use Rattle.quantity.proofs.Ranges.{means-quarters, means-run, means-group}
use Rattle.book.specs.Bytes.{word_of, bytes_at}
use Rattle.book.specs.Laws.{eight_bytes}
use Rattle.book.proofs.Figures.{bytes-more, bytes-fit}
use Rattle.book.proofs.Numbers.{eight-bytes, out, yes-in}
use Rattle.deviation.specs.Deviation.{larger, over_sum}
use Rattle.deviation.specs.Bytes.{report_ok, lengths_ok, report_refusal, surplus_in, shortfall_in}
use Rattle.deviation.specs.Laws.{InRange, Whole, Bytes, Reports}
use Rattle.deviation.proofs.Months.{over-sum-same, over-sum-reads}
use Rattle.deviation.proofs.Reports.{Found, found}

means-report : (q r g : ℕ) → Means (report_ok q r g) (InRange q r g)
means-report q r g =
    means-and (quarters_ok q) _ (means-quarters q) (λ _. means-and (run_ok r) (group_ok g) (means-run r) (λ _. means-group g))

means-lengths : (b s : List ℕ) (q : ℕ) → Means (lengths_ok (length b) (length s) q) (Whole b s q)
means-lengths b s q =
    means-and (eqb (length b) (1296 * q)) (eqb (length s) (512 * q)) (means-eq (length b) (1296 * q)) (λ _. means-eq (length s) (512 * q))

-- eight bytes are a word
eight-below : (s : List ℕ) (at : ℕ) → at + 8 ≤ length s → Bytes s → eight_bytes s at < 2 ^ 64
eight-below s at fits small =
    let l = take 8 (drop at s) in
    let w = word_of (drop 1 l) in
    let first = get_or s (at + 0) 0 in
    omega (arith, sym (eight-bytes s at fits), bytes-more s at fits 1 w first (omega arith) (omega arith) refl refl, bytes-fit s at fits 1 w first (omega arith) (omega arith) refl refl small)

-- two rows of n words as bytes, the sum as the word of the exact sum of what each wrapped difference is read as
module _ (s b : List ℕ) (at from n : ℕ) (room : 8 * (at + n) ≤ length s) (room' : 8 * (from + n) ≤ length b) (small : Bytes s) (small' : Bytes b) where
  sums-read : over_sum (λ (k : ℕ). bytes_at s (8 * (at + k))) (λ (k : ℕ). bytes_at b (8 * (from + k))) n
      ≡ word (sum_to n (λ (k : ℕ). larger (signed (word (signed (eight_bytes s (8 * (at + (k - 1)))) -ℤ signed (eight_bytes b (8 * (from + (k - 1)))))))))
  sums-read =
      let x : ℕ → ℕ = λ (k : ℕ). eight_bytes s (8 * (at + k)) in
      let y : ℕ → ℕ = λ (k : ℕ). eight_bytes b (8 * (from + k)) in
      over-sum-same _ x _ y n (λ k l. (eight-bytes s (8 * (at + k)) (omega arith), eight-bytes b (8 * (from + k)) (omega arith)))
      ∙ over-sum-reads x y n (λ k l. (eight-below s (8 * (at + k)) (omega arith) small, eight-below b (8 * (from + k)) (omega arith) small'))

pub reports : (b s : List ℕ) (q r g : ℕ) → Reports b s q r g
unfolding report_refusal surplus_in shortfall_in
reports b s q r g =
    record {
      three = λ no. rw (out (report_ok q r g) (means-report q r g) no);
      two = λ i no. rw (yes-in (report_ok q r g) (means-report q r g) i, out (lengths_ok (length b) (length s) q) (means-lengths b s q) no);
      zero = λ i w. fine i w;
      surplus = λ i w x y.
          let f = there i w in
          rw (ranges i, lengths w) (sums-read s b ((g - 1) * q) (((r - 1) * 81 + (g - 1)) * q) q (omega (arith, f)) (omega (arith, f)) y x);
      shortfall = λ i w x y.
          let f = there i w in
          rw (ranges i, lengths w) (sums-read b s (((r - 1) * 81 + (g - 1)) * q) ((g - 1) * q) q (omega (arith, f)) (omega (arith, f)) x y);
      none = λ ne. let z = ne_eqb (report_refusal (length b) (length s) q r g) 0 ne in (rw z, rw z);
    }
  where
    ranges : InRange q r g → report_ok q r g ≡ true
    ranges i = yes-in (report_ok q r g) (means-report q r g) i

    lengths : Whole b s q → lengths_ok (length b) (length s) q ≡ true
    lengths w = yes-in (lengths_ok (length b) (length s) q) (means-lengths b s q) w

    fine : InRange q r g → Whole b s q → report_refusal (length b) (length s) q r g ≡ 0
    fine i w = rw (ranges i, lengths w)

    there : InRange q r g → Whole b s q → Found (length b) (length s) q r g
    there i w = found (length b) (length s) q r g (sym (fine i w))

-- The figure in a book of bytes by document 01's numbers: which answer is given when, and which eight bytes the figure is. Assumes nothing.
use Prim.Native.Nat.{ℕ, ◌+◌, ◌-◌, ◌*◌, ◌≤◌, ◌<◌}
use mathlib.Core.Path.{◌≡◌, refl, sym, ap, ◌∙◌}
use mathlib.Core.Bool.{Bool, true, false}
use mathlib.Core.List.{List}
use native.Mathlib.Omega.{arith}
use borrow.Author.Tests.{eq-eqb, ne_eqb}
use lib.Dec.{leb}
use lib.ListN.{length, get_or, take, drop}
use Rattle.std.specs.Int.{w64, from_le_bytes}
use Rattle.quantity.specs.Limits.{quarters_ok, run_ok, group_ok}
use Rattle.quantity.specs.Meaning.{Means}
use Rattle.quantity.proofs.Meanings.{means-le, means-and}
use Rattle.quantity.proofs.Ranges.{means-quarters, means-run, means-group}
use Rattle.book.specs.Bytes.{word_of, bytes_at, figure_ok, figure_refusal, figure_in}
use Rattle.book.specs.Laws.{InRange, eight_bytes, Figures}
use Rattle.book.proofs.Figures.{byte-at, bytes-none, bytes-more, accepted}

-- a test fails where what it says does not hold
pub out : {P : Type 0} (t : Bool) → Means t P → (P → ⊥) → t ≡ false
out true m free = absurd (free (m.holds refl))
out false m free = refl

-- and passes where it does
pub yes-in : {P : Type 0} (t : Bool) → Means t P → P → t ≡ true
yes-in true m p = refl
yes-in false m p = absurd (m.fails refl p)

means-range : (q r g n : ℕ) → Means (figure_ok q r g n) (InRange q r g n)
means-range q r g n =
    means-and (quarters_ok q) _ (means-quarters q)
    (λ _. means-and (run_ok r) _ (means-run r)
    (λ _. means-and (group_ok g) _ (means-group g)
    (λ _. means-and (leb 1 n) (leb n q) (means-le 1 n)
    (λ _. means-le n q))))

-- the word of eight bytes, byte by byte
pub eight-bytes : (s : List ℕ) (at : ℕ) → at + 8 ≤ length s → word_of (take 8 (drop at s)) ≡ eight_bytes s at
eight-bytes s at fits =
    let l = take 8 (drop at s) in
    let more : (k : ℕ) → 0 < k → k ≤ 8 → word_of (drop k l) * 256 + get_or s (at + (k - 1)) 0 ≡ word_of (drop (k - 1) l) =
    λ k lo hi. bytes-more s at fits k (word_of (drop k l)) (get_or s (at + (k - 1)) 0) lo hi refl refl in
    let first : get_or s (at + 0) 0 ≡ get_or s at 0 = ap (λ (j : ℕ). get_or s j 0) (omega arith) in
    omega (arith, first, bytes-none s at fits, more 8 (omega arith) (omega arith), more 7 (omega arith) (omega arith), more 6 (omega arith) (omega arith), more 5 (omega arith) (omega arith), more 4 (omega arith) (omega arith), more 3 (omega arith) (omega arith), more 2 (omega arith) (omega arith), more 1 (omega arith) (omega arith))

-- a number of eight bytes, the lowest first
le-sum : (l : List ℕ) → from_le_bytes w64 l
    ≡ get_or l 0 0 + get_or l 1 0 * 256 + get_or l 2 0 * 65536 + get_or l 3 0 * 16777216 + get_or l 4 0 * 4294967296 + get_or l 5 0 * 1099511627776 + get_or l 6 0 * 281474976710656 + get_or l 7 0 * 72057594037927936
le-sum l = refl

pub le-bytes : (s : List ℕ) (at : ℕ) → at + 8 ≤ length s → from_le_bytes w64 (take (at + 8 - at) (drop at s)) ≡ bytes_at s at
le-bytes s at fits =
    let byte = byte-at s at fits in
    let first : get_or s (at + 0) 0 ≡ get_or s at 0 = ap (λ (j : ℕ). get_or s j 0) (omega arith) in
    let n : at + 8 - at ≡ 8 = omega arith in
    rw n (le-sum (take 8 (drop at s)) ∙ omega (arith, eight-bytes s at fits, byte 0 (omega arith), byte 1 (omega arith), byte 2 (omega arith), byte 3 (omega arith), byte 4 (omega arith), byte 5 (omega arith), byte 6 (omega arith), byte 7 (omega arith), first))

pub figures : (s : List ℕ) (q r g n : ℕ) → Figures s q r g n
unfolding figure_refusal figure_in
figures s q r g n =
    record {
      three = λ no. rw (out (figure_ok q r g n) (means-range q r g n) no);
      two = λ i ne. rw (yes-in (figure_ok q r g n) (means-range q r g n) i, ne_eqb (length s) (1296 * q) ne);
      zero = λ i e. rw (yes-in (figure_ok q r g n) (means-range q r g n) i, eq-eqb (length s) (1296 * q) e);
      figure = λ i e.
          let given : figure_refusal (length s) q r g n ≡ 0 = rw (yes-in (figure_ok q r g n) (means-range q r g n) i, eq-eqb (length s) (1296 * q) e) in
          let inside = (accepted (length s) q r g n (sym given)).within in
          rw (yes-in (figure_ok q r g n) (means-range q r g n) i, eq-eqb (length s) (1296 * q) e)
          (eight-bytes s (8 * (((r - 1) * 81 + (g - 1)) * q + (n - 1))) (omega (arith, inside, e)));
      none = λ ne. rw (ne_eqb (figure_refusal (length s) q r g n) 0 ne);
    }

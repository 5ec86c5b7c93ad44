-- Laws of the sums over the month: quarter hour by quarter hour, which words they are of, and where they are exact. Assumes nothing.
use Prim.Native.Nat.{ℕ, zero, suc, ◌+◌, ◌-◌, ◌*◌, ◌^◌, ◌≤◌, ◌<◌}
use mathlib.Core.Path.{◌≡◌, refl, sym, ap, ap₂, ◌∙◌}
use mathlib.Core.List.{List}
use native.Mathlib.Nat.{mul-le-mul_right}
use native.Mathlib.Numerals.{add-one}
use native.Mathlib.Omega.{arith}
use lib.IntN.{ℤ, nat_abs, ◌-ℤ◌}
use lib.ListN.{length, get_or, take, drop}
use Rattle.quantity.specs.Limits.{most_quarters}
use Rattle.quantity.specs.Sum.{sum_to}
use Rattle.quantity.specs.Word.{word, signed, plus}
use Rattle.quantity.proofs.Sums.{sum-small}
use Rattle.quantity.proofs.Words.{word-plus, signed-word, small-fits}
use Rattle.book.specs.Place.{group_row, row_start}
use Rattle.book.specs.Row.{part}
use Rattle.book.proofs.Rows.{lent, length-part, part-at}
use Rattle.deviation.specs.Deviation.{larger, surplus, shortfall, over, over_sum}
use Rattle.deviation.specs.Place.{schedule_start, word_from}
use Rattle.deviation.specs.Month.{month_surplus, month_shortfall}
use Rattle.deviation.specs.Laws.{Sums}
use Rattle.deviation.proofs.Overs.{larger-size, difference-size, over-words, over-word}

-- a row that is lent begins at 0
pub word-first : (s : List ℕ) (k : ℕ) → get_or s k 0 ≡ word_from s 0 k
word-first s k = ap (λ (i : ℕ). get_or s i 0) (omega arith)

module _ (a b : ℕ → ℕ) where
  pub over-sum-none : 0 ≡ over_sum a b 0
  unfolding over_sum
  over-sum-none = refl

  pub over-sum-more : (n : ℕ) {x y sum next : ℕ} → sum ≡ over_sum a b n → x ≡ a n → y ≡ b n → next ≡ plus sum (over x y) → next ≡ over_sum a b (n + 1)
  unfolding over_sum
  over-sum-more n e f g h = h ∙ rw (e, f, g, add-one n)

  -- a word
  pub over-sum-below : (n : ℕ) → over_sum a b n < 2 ^ 64
  unfolding over_sum
  over-sum-below zero = omega arith
  over-sum-below (suc n) = omega arith

  -- wrapped, it is the word of the exact sum of what each quarter hour's is the word of
  over-sum-word : (f : ℕ → ℤ) (n : ℕ) → ((k : ℕ) → k < n → over (a k) (b k) ≡ word (f k)) → over_sum a b n ≡ word (sum_to n (λ (k : ℕ). f (k - 1)))
  unfolding over_sum sum_to word
  over-sum-word f zero e = refl
  over-sum-word f (suc n) e =
      let same : n ≡ suc n - 1 = omega arith in
      ap₂ plus (over-sum-word f n (λ k l. e k (omega arith))) (e n (omega arith) ∙ ap (λ (k : ℕ). word (f k)) same)
      ∙ sym (word-plus (sum_to n (λ (k : ℕ). f (k - 1))) (f (suc n - 1)))

  -- "differences wrap as sums do": the sum of any words
  pub over-sum-reads : (n : ℕ) → ((k : ℕ) → k < n → (a k < 2 ^ 64) × (b k < 2 ^ 64))
      → over_sum a b n ≡ word (sum_to n (λ (k : ℕ). larger (signed (word (signed (a (k - 1)) -ℤ signed (b (k - 1)))))))
  over-sum-reads n h =
      over-sum-word (λ (k : ℕ). larger (signed (word (signed (a k) -ℤ signed (b k))))) n (λ k l. over-word (a k) (b k) (h k l).0 (h k l).1)

-- it depends on the first n words alone
pub over-sum-same : (a a' b b' : ℕ → ℕ) (n : ℕ) → ((k : ℕ) → k < n → (a k ≡ a' k) × (b k ≡ b' k)) → over_sum a b n ≡ over_sum a' b' n
unfolding over_sum
over-sum-same a a' b b' zero h = refl
over-sum-same a a' b b' (suc n) h =
    ap₂ plus (over-sum-same a a' b b' n (λ k l. h k (omega arith))) (ap₂ over (h n (omega arith)).0 (h n (omega arith)).1)

-- a row that is lent as `&s[at..at + q]` has q numbers
pub lent-length : (s : List ℕ) (at q : ℕ) → at + q ≤ length s → length (take (at + q - at) (drop at s)) ≡ q
lent-length s at q h = rw (lent s at q) (length-part s at q h)

-- two such rows
pub over-sum-lent : (s b : List ℕ) (at from q n : ℕ) → n ≡ q
    → over_sum (word_from (take (at + q - at) (drop at s)) 0) (word_from (take (from + q - from) (drop from b)) 0) n ≡ over_sum (word_from s at) (word_from b from) q
over-sum-lent s b at from q n e =
    rw (e, lent s at q, lent b from q)
    (over-sum-same (word_from (part s at q) 0) (word_from s at) (word_from (part b from q) 0) (word_from b from) q
    (λ k l. (sym (word-first (part s at q) k) ∙ part-at s at q k 0 l, sym (word-first (part b from q) k) ∙ part-at b from q k 0 l)))

-- both sums over the month, by the papers' numbers
pub month-sums : (s b : List ℕ) (q r g : ℕ) → Sums s b q r g (month_surplus s b q r g) (month_shortfall s b q r g)
unfolding month_surplus month_shortfall
month-sums s b q r g =
    record {
      surplus = λ x y. over-sum-reads (word_from s (schedule_start q g)) (word_from b (row_start q r (group_row g))) q (λ k _. (x (schedule_start q g + k), y (row_start q r (group_row g) + k)));
      shortfall = λ x y. over-sum-reads (word_from b (row_start q r (group_row g))) (word_from s (schedule_start q g)) q (λ k _. (y (row_start q r (group_row g) + k), x (schedule_start q g + k)));
    }

-- n words of integers no larger in size than `most`
abbrev pub WordsOf : (most n : ℕ) (a : ℕ → ℕ) (x : ℕ → ℤ) → Type 0
WordsOf most n a x = (k : ℕ) → k < n → (a k ≡ word (x k)) × (nat_abs (x k) ≤ most)

-- where the sum has room in 64 bits it is exact
pub over-sum-exact : (most n : ℕ) (a b : ℕ → ℕ) (x y : ℕ → ℤ) → n * (2 * most) < 2 ^ 63 → WordsOf most n a x → WordsOf most n b y
    → signed (over_sum a b n) ≡ sum_to n (λ (k : ℕ). larger (x (k - 1) -ℤ y (k - 1)))
over-sum-exact most n a b x y room h j =
    let f : ℕ → ℤ = λ (k : ℕ). larger (x k -ℤ y k) in
    let each : (k : ℕ) → k < n → over (a k) (b k) ≡ word (f k) =
    λ k l. ap₂ over (h k l).0 (j k l).0 ∙ over-words (x k) (y k) (omega (arith, (h k l).1, (j k l).1, mul-le-mul_right (2 * most) (le-of-lt k n l))) in
    let small : (k : ℕ) → 0 < k → k ≤ n → nat_abs (f (k - 1)) ≤ 2 * most =
    λ k lo le. omega (arith, larger-size (x (k - 1) -ℤ y (k - 1)), difference-size (x (k - 1)) (y (k - 1)), (h (k - 1) (omega arith)).1, (j (k - 1) (omega arith)).1) in
    ap signed (over-sum-word a b f n each)
    ∙ signed-word (sum_to n (λ (k : ℕ). f (k - 1))) (small-fits (sum_to n (λ (k : ℕ). f (k - 1))) (omega (arith, sum-small (2 * most) n (λ (k : ℕ). f (k - 1)) small)))
  where
    le-of-lt : (k m : ℕ) → k < m → 1 ≤ m
    le-of-lt k m l = omega arith

-- a month of schedules and figures up to 10^15 in size
module _ (schedules book : List ℕ) (q r g : ℕ) (few : q ≤ most_quarters) (s f : ℕ → ℤ)
    (planned : WordsOf (10 ^ 15) q (word_from schedules (schedule_start q g)) s) (booked : WordsOf (10 ^ 15) q (word_from book (row_start q r (group_row g))) f) where
  pub surplus-exact : signed (month_surplus schedules book q r g) ≡ sum_to q (λ (k : ℕ). surplus (s (k - 1)) (f (k - 1)))
  unfolding month_surplus
  surplus-exact =
      over-sum-exact (10 ^ 15) q (word_from schedules (schedule_start q g)) (word_from book (row_start q r (group_row g))) s f (omega arith) planned booked

  pub shortfall-exact : signed (month_shortfall schedules book q r g) ≡ sum_to q (λ (k : ℕ). shortfall (s (k - 1)) (f (k - 1)))
  unfolding month_shortfall
  shortfall-exact =
      over-sum-exact (10 ^ 15) q (word_from book (row_start q r (group_row g))) (word_from schedules (schedule_start q g)) f s (omega arith) booked planned

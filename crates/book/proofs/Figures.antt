-- Laws of the figure in a book of bytes: the word of eight bytes, byte by byte from the highest, and where an accepted figure stands.
-- Assumes nothing.
use mathlib.Core.Path.{◌≡◌, refl, sym, ap, ◌∙◌}
use mathlib.Core.Bool.{Bool, true, false, cond, ◌&&◌}
use mathlib.Core.List.{List, [], ◌∷◌}
use Prim.Native.Nat.{ℕ, suc, ◌+◌, ◌-◌, ◌*◌, ◌^◌, ◌≤◌, ◌<◌}
use native.Mathlib.Nat.{pow-suc, pow-le-pow_right}
use native.Mathlib.Omega.{arith}
use borrow.Author.Tests.{eqb-true}
use lib.Dec.{eqb}
use lib.ListN.{length, get_or, take, drop, length-drop, drop_of_length-le}
use lib.Seq.{drop-cons, get_or-drop, get_or-take, length-take-le}
use Rattle.std.specs.Prelude.{Result, Ok, Err, IsErr}
use Rattle.quantity.specs.declared.WattHours.{WattHours}
use Rattle.quantity.specs.Limits.{within, quarters_ok, run_ok, group_ok, most_quarters, runs, groups, book_rows}
use Rattle.quantity.proofs.Tests.{and-left, and-right, within-low, within-high}
use Rattle.book.specs.Place.{group_row, book_row, figure_at}
use Rattle.book.specs.Bytes.{word_of, figure_ok, figure_refusal}
use Rattle.book.specs.Refusal.{number_of, figure_of}
use Rattle.book.specs.declared.refusal.BookRefusal.{BookRefusal}
use Rattle.book.specs.declared.refusal.BookRefusal.TheVariants.{WrongLength, OutOfRange}
use Rattle.book.proofs.Places.{row-before}

-- bytes give a number below 256 to the power of their count
word-small : (l : List ℕ) → ((i : ℕ) → i < length l → get_or l i 0 < 256) → word_of l < 256 ^ length l
unfolding word_of
word-small [] h = omega arith
word-small (b ∷ l) h =
    omega (arith, h 0 (omega arith), word-small l (λ i k. h (suc i) (omega arith)), pow-suc 256 (length l))

-- and eight of them a word
word-fits : (l : List ℕ) → ((i : ℕ) → i < length l → get_or l i 0 < 256) → length l ≤ 8 → word_of l < 2 ^ 64
word-fits l h few =
    let most : 256 ^ length l ≤ 256 ^ 8 = pow-le-pow_right (omega arith) few in
    omega (arith, word-small l h, most)

-- eight bytes of a store, from the highest down: none yet, and one more
module _ (s : List ℕ) (at : ℕ) (fits : at + 8 ≤ length s) where
  eight : length (take 8 (drop at s)) ≡ 8
  eight = length-take-le 8 (drop at s) (omega (arith, length-drop at s))

  pub byte-at : (k : ℕ) → k < 8 → get_or (take 8 (drop at s)) k 0 ≡ get_or s (at + k) 0
  byte-at k h = get_or-take 8 (drop at s) k 0 h ∙ get_or-drop at s k 0

  pub bytes-none : 0 ≡ word_of (drop 8 (take 8 (drop at s)))
  unfolding word_of
  bytes-none = rw (drop_of_length-le (take 8 (drop at s)) {i = 8} (omega (arith, eight)))

  module _ (k w b : ℕ) (lo : 0 < k) (hi : k ≤ 8) (e : w ≡ word_of (drop k (take 8 (drop at s)))) (here : b ≡ get_or s (at + (k - 1)) 0) where
    pub bytes-more : w * 256 + b ≡ word_of (drop (k - 1) (take 8 (drop at s)))
    unfolding word_of
    bytes-more =
        let l = take 8 (drop at s) in
        let next : suc (k - 1) ≡ k = omega arith in
        omega (arith, byte-at (k - 1) (omega arith), ap word_of (drop-cons l (k - 1) 0 (omega (arith, eight))), ap (λ (n : ℕ). word_of (drop n l)) next)

    pub bytes-fit : ((i : ℕ) → get_or s i 0 < 256) → w * 256 + b < 2 ^ 64
    bytes-fit small =
        let l = take 8 (drop at s) in
        let below : (i : ℕ) → i < length (drop (k - 1) l) → get_or (drop (k - 1) l) i 0 < 256 =
        λ i h. let n : k - 1 + i < 8 = omega (arith, length-drop (k - 1) l, eight) in
        omega (arith, get_or-drop (k - 1) l i 0, byte-at (k - 1 + i) n, small (at + (k - 1 + i))) in
        omega (arith, bytes-more, word-fits (drop (k - 1) l) below (omega (arith, length-drop (k - 1) l, eight)))

-- a figure that is not refused: its numbers, the book's length and where it stands
pub record Found (len q r g n : ℕ) : Type 0 where
  pub quarters : q ≤ most_quarters
  pub run_low : 1 ≤ r
  pub run_high : r ≤ runs
  pub group_low : 1 ≤ g
  pub group_high : g ≤ groups
  pub quarter_low : 1 ≤ n
  pub quarter_high : n ≤ q
  pub size : len ≡ 1296 * q
  pub within : figure_at q r (group_row g) n < book_rows * q

-- Q is in range
pub few : (q r g n : ℕ) → figure_ok q r g n ≡ true → q ≤ most_quarters
few q r g n p = within-high 1 most_quarters q (and-left (quarters_ok q) (run_ok r && (group_ok g && within 1 q n)) p)

found-in : (len q r g n : ℕ) → figure_ok q r g n ≡ true → len ≡ 1296 * q → Found len q r g n
found-in len q r g n p size =
    let p1 = and-right (quarters_ok q) (run_ok r && (group_ok g && within 1 q n)) p in
    let p2 = and-right (run_ok r) (group_ok g && within 1 q n) p1 in
    let pr = and-left (run_ok r) (group_ok g && within 1 q n) p1 in
    let pg = and-left (group_ok g) (within 1 q n) p2 in
    let pn = and-right (group_ok g) (within 1 q n) p2 in
    let r1 = within-low 1 runs r pr in
    let r2 = within-high 1 runs r pr in
    let g1 = within-low 1 groups g pg in
    let g2 = within-high 1 groups g pg in
    let n1 = within-low 1 q n pn in
    let n2 = within-high 1 q n pn in
    record {
      quarters = few q r g n p;
      run_low = r1;
      run_high = r2;
      group_low = g1;
      group_high = g2;
      quarter_low = n1;
      quarter_high = n2;
      size = size;
      within = omega (arith, row-before (book_row r (group_row g)) book_rows q (omega (arith, r1, r2, g1, g2)), n1, n2);
    }

pub found : (len q r g n m : ℕ) → m ≡ figure_refusal len q r g n → m ≡ 0 → Found len q r g n
unfolding figure_refusal
found len q r g n m e z = go (figure_ok q r g n) (eqb len (1296 * q)) refl refl (sym e ∙ z)
  where
    go : (s t : Bool) → figure_ok q r g n ≡ s → eqb len (1296 * q) ≡ t → ◌≡◌ {A = ℕ} (cond s (cond t 0 2) 3) 0 → Found len q r g n
    go true true p h z = found-in len q r g n p (eqb-true len (1296 * q) h)
    go true false p h z = absurd (omega arith)
    go false t p h z = absurd (omega arith)

pub accepted : (len q r g n : ℕ) → 0 ≡ figure_refusal len q r g n → Found len q r g n
accepted len q r g n e = found len q r g n 0 e refl

-- what is refused has no figure
pub no-figure : (r : Result WattHours BookRefusal) → IsErr r → figure_of r ≡ 0
no-figure (Ok x) e = cc e
no-figure (Err r) e = refl

-- and a refusal's number is not 0
pub refused : (r : BookRefusal) {m : ℕ} → number_of r ≡ m → eqb m 0 ≡ false
refused WrongLength e = rw (sym e) refl
refused OutOfRange e = rw (sym e) refl

-- Laws of rows: a row of which the first i figures have been changed, one figure more, and all of them; and a store with a part replaced.
-- Assumes nothing.
use mathlib.Core.Path.{◌≡◌, refl, sym, ap, ◌∙◌}
use mathlib.Core.List.{List, [], ◌∷◌, ◌++◌}
use Prim.Native.Nat.{ℕ, zero, suc, ◌+◌, ◌-◌, ◌≤◌, ◌<◌}
use native.Mathlib.Nat.{le_of_suc-le-suc}
use native.Mathlib.Numerals.{add-one}
use native.Mathlib.Omega.{arith}
use lib.ListN.{length, get_or, take, drop, set, length-append, length-take, length-drop, get_or-append}
use lib.Seq.{length-take-le, get_or-append-add, get_or-take, get_or-drop, take_at, drop_at}
use Rattle.book.specs.Row.{zip, part, splice}

module _ {A : Type 0} (f : A → A → A) where
  -- the row after its first i figures
  unfoldable pub up_to : ℕ → List A → List A → List A
  up_to zero r s = r
  up_to (suc i) [] s = []
  up_to (suc i) (x ∷ r) [] = x ∷ r
  up_to (suc i) (x ∷ r) (y ∷ s) = f x y ∷ up_to i r s

  pub up_to-none : (r s : List A) → r ≡ up_to 0 r s
  unfolding up_to
  up_to-none r s = refl

  pub length-up_to : (i : ℕ) (r s : List A) → length (up_to i r s) ≡ length r
  unfolding up_to
  length-up_to zero r s = refl
  length-up_to (suc i) [] s = refl
  length-up_to (suc i) (x ∷ r) [] = refl
  length-up_to (suc i) (x ∷ r) (y ∷ s) = ap suc (length-up_to i r s)

  -- the figure at i is still the row's
  pub up_to-at : (i : ℕ) (r s : List A) (d : A) → get_or (up_to i r s) i d ≡ get_or r i d
  unfolding up_to
  up_to-at zero r s d = refl
  up_to-at (suc i) [] s d = refl
  up_to-at (suc i) (x ∷ r) [] d = refl
  up_to-at (suc i) (x ∷ r) (y ∷ s) d = up_to-at i r s d

  up_to-suc : (i : ℕ) (r s : List A) (d : A) → i < length r → i < length s → set (up_to i r s) i (f (get_or r i d) (get_or s i d)) ≡ up_to (suc i) r s
  unfolding up_to
  up_to-suc i [] s d h k = absurd (omega arith)
  up_to-suc i (x ∷ r) [] d h k = absurd (omega arith)
  up_to-suc zero (x ∷ r) (y ∷ s) d h k = refl
  up_to-suc (suc i) (x ∷ r) (y ∷ s) d h k = ap (λ (l : List A). f x y ∷ l) (up_to-suc i r s d (le_of_suc-le-suc h) (le_of_suc-le-suc k))

  -- one figure more
  pub up_to-more : (i : ℕ) (r s : List A) (d : A) {l : List A} {v : A} → i < length r → i < length s
      → l ≡ up_to i r s → v ≡ f (get_or l i d) (get_or s i d) → set l i v ≡ up_to (i + 1) r s
  up_to-more i r s d {l} {v} h k e g = rw (add-one, g, e, up_to-at i r s d) (up_to-suc i r s d h k)

  -- all of them
  pub up_to-all : (i : ℕ) (r s : List A) → length r ≤ i → up_to i r s ≡ zip f r s
  unfolding up_to zip
  up_to-all zero [] s h = refl
  up_to-all (suc i) [] s h = refl
  up_to-all zero (x ∷ r) s h = absurd (omega arith)
  up_to-all (suc i) (x ∷ r) [] h = refl
  up_to-all (suc i) (x ∷ r) (y ∷ s) h = ap (λ (l : List A). f x y ∷ l) (up_to-all i r s (le_of_suc-le-suc h))

  pub length-zip : (r s : List A) → length (zip f r s) ≡ length r
  unfolding zip
  length-zip [] s = refl
  length-zip (x ∷ r) [] = refl
  length-zip (x ∷ r) (y ∷ s) = ap suc (length-zip r s)

  -- what a changed row has at each place
  pub zip-at : (r s : List A) (i : ℕ) (d : A) → i < length r → i < length s → get_or (zip f r s) i d ≡ f (get_or r i d) (get_or s i d)
  unfolding zip
  zip-at [] s i d h k = absurd (omega arith)
  zip-at (x ∷ r) [] i d h k = absurd (omega arith)
  zip-at (x ∷ r) (y ∷ s) zero d h k = refl
  zip-at (x ∷ r) (y ∷ s) (suc i) d h k = zip-at r s i d (le_of_suc-le-suc h) (le_of_suc-le-suc k)

-- two changes in one pass
module _ {A : Type 0} (f g : A → A → A) where
  twice-suc : (i : ℕ) (r s t : List A) (d : A) → i < length r → i < length s → i < length t
      → set (up_to g i (up_to f i r s) t) i (g (f (get_or r i d) (get_or s i d)) (get_or t i d)) ≡ up_to g (suc i) (up_to f (suc i) r s) t
  unfolding up_to
  twice-suc i [] s t d h k m = absurd (omega arith)
  twice-suc i (x ∷ r) [] t d h k m = absurd (omega arith)
  twice-suc i (x ∷ r) (y ∷ s) [] d h k m = absurd (omega arith)
  twice-suc zero (x ∷ r) (y ∷ s) (z ∷ t) d h k m = refl
  twice-suc (suc i) (x ∷ r) (y ∷ s) (z ∷ t) d h k m =
      ap (λ (l : List A). g (f x y) z ∷ l) (twice-suc i r s t d (le_of_suc-le-suc h) (le_of_suc-le-suc k) (le_of_suc-le-suc m))

  pub twice-more : (i : ℕ) (r s t : List A) (d : A) {l : List A} {v w : A} → i < length r → i < length s → i < length t
      → l ≡ up_to g i (up_to f i r s) t → w ≡ f (get_or l i d) (get_or s i d) → v ≡ g w (get_or t i d) → set l i v ≡ up_to g (i + 1) (up_to f (i + 1) r s) t
  twice-more i r s t d {l} h k m e p q =
      rw (add-one, q, p, e, up_to-at g i (up_to f i r s) t d, up_to-at f i r s d) (twice-suc i r s t d h k m)

module _ {A : Type 0} where
  -- a part that was lent as `&s[a..a + q]`
  pub lent : (l : List A) (a q : ℕ) → take (a + q - a) (drop a l) ≡ part l a q
  unfolding part
  lent l a q = let e : a + q - a ≡ q = omega arith in rw e

  -- a part that was lent as `&mut s[a..a + q]` is back, as r
  pub back : (l : List A) (a q : ℕ) {r r' : List A} → r ≡ r' → take a l ++ (r ++ drop (a + q - a) (drop a l)) ≡ splice l a q r'
  unfolding splice
  back l a q e = let n : a + q - a ≡ q = omega arith in rw (n, e)

  pub length-part : (l : List A) (a q : ℕ) → a + q ≤ length l → length (part l a q) ≡ q
  unfolding part
  length-part l a q h = length-take-le q (drop a l) (omega (arith, length-drop a l))

  pub part-at : (l : List A) (a q j : ℕ) (d : A) → j < q → get_or (part l a q) j d ≡ get_or l (a + j) d
  unfolding part
  part-at l a q j d h = get_or-take q (drop a l) j d h ∙ get_or-drop a l j d

  module _ (l r : List A) (a q : ℕ) (fits : a + q ≤ length l) (full : length r ≡ q) where
    front : length (take a l) ≡ a
    front = length-take-le a l (omega arith)

    pub length-splice : length (splice l a q r) ≡ length l
    unfolding splice
    length-splice = simp (length-append, length-take, length-drop) (omega arith)

    -- the part that was replaced is r
    pub part-splice : part (splice l a q r) a q ≡ r
    unfolding part splice
    part-splice = rw (drop_at (take a l) (r ++ drop q (drop a l)) a front, take_at r (drop q (drop a l)) q full)

    -- replaced once more
    pub splice-splice : (s : List A) → splice (splice l a q r) a q s ≡ splice l a q s
    unfolding splice
    splice-splice s =
        rw (take_at (take a l) (r ++ drop q (drop a l)) a front, drop_at (take a l) (r ++ drop q (drop a l)) a front, drop_at r (drop q (drop a l)) q full)

    -- what the store has at each place: in the part, before it and after it
    pub splice-in : (j : ℕ) (d : A) → j < q → get_or (splice l a q r) (a + j) d ≡ get_or r j d
    splice-in j d h = sym (part-at (splice l a q r) a q j d h) ∙ ap (λ (s : List A). get_or s j d) part-splice

    pub splice-before : (i : ℕ) (d : A) → i < a → get_or (splice l a q r) i d ≡ get_or l i d
    unfolding splice
    splice-before i d h = get_or-append (take a l) (r ++ drop q (drop a l)) d i (omega (arith, front)) ∙ get_or-take a l i d h

    pub splice-after : (i : ℕ) (d : A) → a + q ≤ i → get_or (splice l a q r) i d ≡ get_or l i d
    unfolding splice
    splice-after i d h =
        let at : i ≡ length (take a l) + (length r + (i - (a + q))) = omega (arith, front) in
        let at' : a + (q + (i - (a + q))) ≡ i = omega arith in
        ap (λ (n : ℕ). get_or (take a l ++ (r ++ drop q (drop a l))) n d) at
        ∙ get_or-append-add (take a l) (r ++ drop q (drop a l)) (length r + (i - (a + q))) d
        ∙ get_or-append-add r (drop q (drop a l)) (i - (a + q)) d
        ∙ get_or-drop q (drop a l) (i - (a + q)) d ∙ get_or-drop a l (q + (i - (a + q))) d ∙ ap (λ (n : ℕ). get_or l n d) at'

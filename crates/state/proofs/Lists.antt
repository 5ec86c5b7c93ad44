-- Laws of walks and of lists whose first elements are changed: nothing yet, one element more, a change that the walk does not see.
-- Assumes nothing.
use Prim.Native.Nat.{ℕ, zero, suc, ◌+◌, ◌≤◌, ◌<◌}
use mathlib.Core.Path.{◌≡◌, refl, sym, ap, subst, ◌∙◌}
use mathlib.Core.List.{List, [], ◌∷◌, ◌++◌, map}
use native.Mathlib.Numerals.{add-one}
use native.Mathlib.Omega.{arith}
use lib.ListN.{length, take, drop, get_or, set, length-map}
use lib.Seq.{take_all, take-suc, take-length, length-take-le, take_at}
use Rattle.state.specs.Walk.{walk, map_first}

-- past its end a list is taken whole
pub take-past : {A : Type 0} (l : List A) (m n : ℕ) → length l ≤ m → length l ≤ n → take m l ≡ take n l
take-past l m n h k = take_all m l h ∙ sym (take_all n l k)

module _ {A B : Type 0} (f : B → ℕ → A → B) where
  walk-snoc : (b : B) (i : ℕ) (l : List A) (y : A) → walk f b i (l ++ (y ∷ [])) ≡ f (walk f b i l) (i + length l) y
  unfolding walk
  walk-snoc b i [] y = ap (λ (k : ℕ). f b k y) (omega arith)
  walk-snoc b i (x ∷ l) y =
      walk-snoc (f b i x) (suc i) l y ∙ ap (λ (k : ℕ). f (walk f (f b i x) (suc i) l) k y) (omega arith)

  -- one element more at the end
  pub walk-last : (b : B) (l : List A) (y : A) → walk f b 0 (l ++ (y ∷ [])) ≡ f (walk f b 0 l) (length l) y
  walk-last b l y = walk-snoc b 0 l y ∙ ap (λ (k : ℕ). f (walk f b 0 l) k y) (omega arith)

  pub walk-none : (b : B) (l : List A) → b ≡ walk f b 0 (take 0 l)
  unfolding walk
  walk-none b l = refl

  -- one element more of a list
  pub walk-more : (b : B) (l : List A) (i : ℕ) (d : A) → i < length l → f (walk f b 0 (take i l)) i (get_or l i d) ≡ walk f b 0 (take (i + 1) l)
  walk-more b l i d h =
      let e : length (take i l) ≡ i = length-take-le i l (omega arith) in
      rw (add-one, take-suc l i d, walk-last b (take i l) (get_or l i d), e)

  -- a change of one element that the walk does not see
  pub walk-set : (l : List A) (k : ℕ) (y d : A) → ((b : B) (i : ℕ) → f b i y ≡ f b i (get_or l k d)) → (b : B) (i : ℕ) → walk f b i (set l k y) ≡ walk f b i l
  unfolding walk
  walk-set [] k y d e b i = refl
  walk-set (x ∷ l) zero y d e b i = ap (λ (c : B). walk f c (suc i) l) (e b i)
  walk-set (x ∷ l) (suc k) y d e b i = walk-set l k y d e (f b i x) (suc i)

  keeps-to : (P : ℕ → B → Type 0) (l : List A) (d : A) → ((b : B) (i : ℕ) → i < length l → P i b → P (suc i) (f b i (get_or l i d)))
      → (b : B) → P 0 b → (i : ℕ) → i ≤ length l → P i (walk f b 0 (take i l))
  unfolding walk
  keeps-to P l d k b p zero h = p
  keeps-to P l d k b p (suc i) h =
      subst (P (suc i)) (rw add-one at (walk-more b l i d (omega arith))) (k (walk f b 0 (take i l)) i (omega arith) (keeps-to P l d k b p i (omega arith)))

  -- what each step keeps, the whole walk keeps; a step knows its index
  pub walk-keeps : (P : ℕ → B → Type 0) (l : List A) (d : A) → ((b : B) (i : ℕ) → i < length l → P i b → P (suc i) (f b i (get_or l i d)))
      → (b : B) → P 0 b → P (length l) (walk f b 0 l)
  walk-keeps P l d k b p = rw (take-length l) at (keeps-to P l d k b p (length l) (omega arith))

module _ {A : Type 0} (f : A → A) where
  pub map_first-none : (l : List A) → l ≡ map_first 0 f l
  unfolding map_first
  map_first-none l = refl

  map_first-suc : (l : List A) (i : ℕ) (d : A) → i < length l → set (map_first i f l) i (f (get_or l i d)) ≡ map_first (suc i) f l
  unfolding map_first
  map_first-suc [] i d h = absurd (omega arith)
  map_first-suc (x ∷ l) zero d h = refl
  map_first-suc (x ∷ l) (suc i) d h = ap (λ (m : List A). f x ∷ m) (map_first-suc l i d (omega arith))

  -- one element more is changed
  pub map_first-more : (l : List A) (i : ℕ) (d : A) → i < length l → set (map_first i f l) i (f (get_or l i d)) ≡ map_first (i + 1) f l
  map_first-more l i d h = rw add-one (map_first-suc l i d h)

  -- the next one is as it was
  pub map_first-next : (l : List A) (i : ℕ) (d : A) → get_or (map_first i f l) i d ≡ get_or l i d
  unfolding map_first
  map_first-next [] zero d = refl
  map_first-next [] (suc i) d = refl
  map_first-next (x ∷ l) zero d = refl
  map_first-next (x ∷ l) (suc i) d = map_first-next l i d

  -- the first ones of them
  pub take-map_first : (l : List A) (n : ℕ) → n ≤ length l → take n (map_first n f l) ≡ map f (take n l)
  unfolding map_first
  take-map_first l n h = take_at (map f (take n l)) (drop n l) n (length-map (take n l) f ∙ length-take-le n l h)

-- Laws of lists gone through from their start: nothing yet, one element more, each element. Assumes nothing.
use Rattle.std.proofs.Common.{◌≡◌, ℕ, zero, suc, ◌+◌, ◌<◌, Bool, true, false, not, ◌&&◌, ◌||◌, List, [], ◌∷◌, ◌++◌, map, length, get_or, take, set, replicate, sym, refl, ap, ◌∙◌, add-one, arith, take-suc}
use mathlib.Core.Bool.{and_assoc, and-true, or_assoc, or-false}
use lib.ListN.{length-map}
use Rattle.quantity.specs.Lists.{all, any, fold}
use Rattle.quantity.proofs.Tests.{and-left, and-right, and-both, or-left, or-right}

-- an array's list is as long as the array: what is known of an array is the length of its elements' images
pub length-of : (X Y : Type 0) (f : X → Y) (l : List X) (n : ℕ) → length (map f l) ≡ n → length l ≡ n
length-of X Y f l n p = sym (length-map l f) ∙ p

-- so many alike: each is the same, and so is what is read past them
pub alike-at : {A : Type 0} (n i : ℕ) (x : A) → get_or (replicate n x) i x ≡ x
alike-at zero i x = refl
alike-at (suc n) zero x = refl
alike-at (suc n) (suc i) x = alike-at n i x

module _ {A : Type 0} (f : A → Bool) where
  pub all-append : (xs ys : List A) → all f (xs ++ ys) ≡ (all f xs && all f ys)
  unfolding all
  all-append [] ys = refl
  all-append (x ∷ xs) ys = rw (all-append xs ys, and_assoc)

  pub all-none : (l : List A) → true ≡ all f (take 0 l)
  unfolding all
  all-none l = refl

  pub all-more : (l : List A) (i : ℕ) (d : A) → i < length l → (all f (take i l) && f (get_or l i d)) ≡ all f (take (i + 1) l)
  unfolding all
  all-more l i d h = rw (add-one, take-suc l i d, all-append (take i l) (get_or l i d ∷ []), and-true)

  -- each element passes, and so does what stands for none
  pub all-at : (l : List A) (i : ℕ) (d : A) → f d ≡ true → all f l ≡ true → f (get_or l i d) ≡ true
  unfolding all
  all-at [] i d q p = q
  all-at (x ∷ l) zero d q p = and-left (f x) (all f l) p
  all-at (x ∷ l) (suc i) d q p = all-at l i d q (and-right (f x) (all f l) p)

  -- each element passes
  pub all-in : (l : List A) (i : ℕ) (d : A) → all f l ≡ true → i < length l → f (get_or l i d) ≡ true
  unfolding all
  all-in [] i d p h = absurd (omega arith)
  all-in (x ∷ l) zero d p h = and-left (f x) (all f l) p
  all-in (x ∷ l) (suc i) d p h = all-in l i d (and-right (f x) (all f l) p) (omega arith)

  pub all-set : (l : List A) (i : ℕ) (x : A) → all f l ≡ true → f x ≡ true → all f (set l i x) ≡ true
  unfolding all
  all-set [] i x p q = p
  all-set (y ∷ l) zero x p q = and-both (f x) (all f l) q (and-right (f y) (all f l) p)
  all-set (y ∷ l) (suc i) x p q = and-both (f y) (all f (set l i x)) (and-left (f y) (all f l) p) (all-set l i x (and-right (f y) (all f l) p) q)

  pub all-map : {B : Type 0} (g : B → A) (l : List B) → all f (map g l) ≡ all (λ (x : B). f (g x)) l
  unfolding all
  all-map g [] = refl
  all-map g (x ∷ l) = rw (all-map g l)

  any-snoc : (xs : List A) (y : A) → any f (xs ++ (y ∷ [])) ≡ (any f xs || f y)
  unfolding any
  any-snoc [] y = or-false (f y)
  any-snoc (x ∷ xs) y = rw (any-snoc xs y, or_assoc)

  pub any-none : (l : List A) → false ≡ any f (take 0 l)
  unfolding any
  any-none l = refl

  pub any-more : (l : List A) (i : ℕ) (d : A) → i < length l → (any f (take i l) || f (get_or l i d)) ≡ any f (take (i + 1) l)
  any-more l i d h = rw (add-one, take-suc l i d, any-snoc (take i l) (get_or l i d))

  -- where none passes, each fails
  pub any-false : (l : List A) → any f l ≡ false → all (λ (x : A). not (f x)) l ≡ true
  unfolding all any
  any-false [] p = refl
  any-false (x ∷ l) p = and-both (not (f x)) _ (ap not (or-left (f x) (any f l) p)) (any-false l (or-right (f x) (any f l) p))

-- what follows from two tests at each element follows from them at all
pub all-mono : {A : Type 0} (f g h : A → Bool) → ((x : A) → f x ≡ true → g x ≡ true → h x ≡ true) → (l : List A) → all f l ≡ true → all g l ≡ true → all h l ≡ true
unfolding all
all-mono f g h m [] p q = refl
all-mono f g h m (x ∷ l) p q =
    and-both (h x) (all h l) (m x (and-left (f x) (all f l) p) (and-left (g x) (all g l) q))
    (all-mono f g h m l (and-right (f x) (all f l) p) (and-right (g x) (all g l) q))

module _ {A B : Type 0} (f : B → A → B) where
  pub fold-snoc : (b : B) (xs : List A) (y : A) → fold f b (xs ++ (y ∷ [])) ≡ f (fold f b xs) y
  unfolding fold
  fold-snoc b [] y = refl
  fold-snoc b (x ∷ xs) y = fold-snoc (f b x) xs y

  -- a change of the elements that the step does not see
  pub fold-map : (g : A → A) → ((b : B) (x : A) → f b (g x) ≡ f b x) → (b : B) (l : List A) → fold f b (map g l) ≡ fold f b l
  unfolding fold
  fold-map g e b [] = refl
  fold-map g e b (x ∷ l) = ap (λ (c : B). fold f c (map g l)) (e b x) ∙ fold-map g e (f b x) l

  -- what each step keeps, the whole way keeps
  pub fold-keeps : (P : B → Type 0) (q : A → Bool) → ((b : B) (x : A) → q x ≡ true → P b → P (f b x))
      → (b : B) (l : List A) → all q l ≡ true → P b → P (fold f b l)
  unfolding fold all
  fold-keeps P q k b [] a p = p
  fold-keeps P q k b (x ∷ l) a p = fold-keeps P q k (f b x) l (and-right (q x) (all q l) a) (k b x (and-left (q x) (all q l) a) p)

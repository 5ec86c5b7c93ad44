-- Laws of lists: one element more, tests of each element, the first ones changed, tables. Assumes nothing.
use Prim.Native.Nat.{ℕ, zero, suc, ◌≤◌, ◌<◌}
use mathlib.Core.Path.{◌≡◌, refl, sym, ap, ◌∙◌}
use mathlib.Core.Bool.{Bool, true}
use mathlib.Core.List.{List, [], ◌∷◌, ◌++◌, map}
use native.Mathlib.Omega.{arith}
use native.Mathlib.Decide.{ℕ_discrete}
use lib.ListN.{length, get_or, take, drop, length-append, length-map, length-drop, get_or-append}
use lib.Seq.{get_or_at, length-take-le}
use Rattle.quantity.specs.Lists.{all}
use Rattle.quantity.proofs.Lists.{all-append, all-mono}
use Rattle.quantity.proofs.Tests.{and-both}
use Rattle.state.specs.Walk.{map_first}
use Rattle.model.specs.Plain.{tab}

module _ {A : Type 0} where
  -- what holds of each element, of the one more and of what stands for none
  pub snoc-at : (l : List A) (x d : A) (r : ℕ) (P : A → Type 0) → P (get_or l r d) → P x → P d → P (get_or (l ++ (x ∷ [])) r d)
  snoc-at [] x d zero P a b c = b
  snoc-at [] x d (suc r) P a b c = c
  snoc-at (y ∷ l) x d zero P a b c = a
  snoc-at (y ∷ l) x d (suc r) P a b c = snoc-at l x d r P a b c

  -- one element more that passes
  pub all-snoc : (f : A → Bool) (l : List A) (x : A) → all f l ≡ true → f x ≡ true → all f (l ++ (x ∷ [])) ≡ true
  unfolding all
  all-snoc f l x a b = all-append f l (x ∷ []) ∙ and-both (all f l) _ a (and-both (f x) true b refl)

  -- what follows at each element
  pub all-then : (f g : A → Bool) → ((x : A) → f x ≡ true → g x ≡ true) → (l : List A) → all f l ≡ true → all g l ≡ true
  all-then f g h l a = all-mono f f g (λ x p q. h x p) l a a

  -- a change that f does not see
  pub map-same : {B : Type 0} (f : A → B) (g : A → A) → ((x : A) → f (g x) ≡ f x) → (l : List A) → map f (map g l) ≡ map f l
  map-same f g e [] = refl
  map-same f g e (x ∷ l) = cc (e x, map-same f g e l)

  -- a list of which the first n were changed
  pub length-map_first : (f : A → A) (l : List A) (n : ℕ) → n ≤ length l → length (map_first n f l) ≡ length l
  unfolding map_first
  length-map_first f l n h = length-append (map f (take n l)) (drop n l) ∙ omega (arith, length-map (take n l) f, length-take-le n l h, length-drop n l)

  pub length-tab : (n : ℕ) (f : ℕ → A) → length (tab n f) ≡ n
  unfolding tab
  length-tab zero f = refl
  length-tab (suc n) f = length-append (tab n f) (f n ∷ []) ∙ omega (arith, length-tab n f)

  pub tab-at : (n : ℕ) (f : ℕ → A) (i : ℕ) (d : A) → i < n → get_or (tab n f) i d ≡ f i
  unfolding tab
  tab-at zero f i d h = absurd (omega arith)
  tab-at (suc n) f i d h = go (ℕ_discrete i n) (λ k. tab-at n f i d k)
    where
      go : Dec (i ≡ n) → (i < n → get_or (tab n f) i d ≡ f i) → get_or (tab n f ++ (f n ∷ [])) i d ≡ f i
      go (yes e) ih = get_or_at (tab n f) (f n) [] d i (length-tab n f ∙ sym e) ∙ ap f (sym e)
      go (no ne) ih =
          let k : i < n = omega arith in
          get_or-append (tab n f) (f n ∷ []) d i (omega (arith, length-tab n f)) ∙ ih k

-- Lists of lines put one behind the other. Assumes nothing.
use Prim.Native.Nat.{ℕ, zero, suc, ◌≤◌, ◌<◌}
use mathlib.Core.Path.{◌≡◌, refl, sym, subst}
use mathlib.Core.Logic.{◌⊎◌, inl, inr, ⊎_elim}
use mathlib.Core.List.Memᴰ
use mathlib.Core.List.{List, [], ◌∷◌, ◌++◌, append_assoc, append-nil, Memᴰ}
use native.Mathlib.Decide.{dec_le}
use native.Mathlib.Omega.{arith}
use Rattle.quantity.specs.Meaning.{Between}
use Rattle.text.specs.Laws.{Line, Shows}
use Rattle.text.specs.Text.{each_to}
use Rattle.output.specs.Laws.{place_of, Earlier, here, behind, Rising, Texts, Printed}

-- ---- two lists

texts-both : {l m : List Line} {t u : List ℕ} → Texts l t → Texts m u → Texts (l ++ m) (t ++ u)
texts-both Texts.none b = b
texts-both {m = m} {u = u} (Texts.one {x = x} {l = l} {u = v} t s a) b = rw append_assoc (Texts.one t s (texts-both a b))

rising-both : (l m : List Line) → Rising l → Rising m → ((x y : Line) → Memᴰ x l → Memᴰ y m → Earlier (place_of x) (place_of y)) → Rising (l ++ m)
rising-both [] m a b first = b
rising-both (x ∷ l) m (Rising.one h a) b first =
    Rising.one (λ y i. ⊎_elim (h y) (first x y (Memᴰ.head refl)) (Memᴰ.append_cases l i))
    (rising-both l m a b (λ v w i j. first v w (Memᴰ.tail i) j))

-- the lines of two texts, where those of the first stand before those of the second
pub both : {P R S : Line → Type 0} {t u : List ℕ} → Printed P t → Printed R u → ((x y : Line) → P x → R y → Earlier (place_of x) (place_of y))
    → ((x : Line) → P x ⊎ R x → S x) → ((x : Line) → S x → P x ⊎ R x) → Printed S (t ++ u)
both a b first to from =
    record {
      lines = a.lines ++ b.lines;
      texts = texts-both a.texts b.texts;
      rising = rising-both a.lines b.lines a.rising b.rising (λ x y i j. first x y (a.only x i) (b.only y j));
      only = λ x i. to x (⊎_elim (λ k. inl (a.only x k)) (λ k. inr (b.only x k)) (Memᴰ.append_cases a.lines i));
      each = λ x s. ⊎_elim (λ p. Memᴰ.append_left b.lines (a.each x p)) (λ r. Memᴰ.append_right a.lines (b.each x r)) (from x s);
    }

-- no line is due
pub no-line : {P : Line → Type 0} → ((x : Line) → P x → ⊥) → Printed P []
no-line h = record { lines = []; texts = Texts.none; rising = Rising.none; only = λ x i. absurd (Memᴰ.not-nil i); each = λ x p. absurd (h x p) }

-- one line is due
pub one-line : {P : Line → Type 0} (x : Line) (t : List ℕ) → Shows x t → P x → ((y : Line) → P y → y ≡ x) → Printed P t
one-line {P} x t s p alone =
    record {
      lines = x ∷ [];
      texts = rw (← append-nil t) (Texts.one t s Texts.none);
      rising = Rising.one (λ y i. absurd (Memᴰ.not-nil i)) Rising.none;
      only = λ y i. subst P (sym (Memᴰ.eq_of_singleton i)) p;
      each = λ y q. Memᴰ.head (alone y q);
    }

-- ---- one list after the other

-- a line's place begins with these numbers
abbrev pub Begins : (front : List ℕ) → Line → Type 0
Begins f x = (l : List ℕ) × (place_of x ≡ f ++ l)

rises : (f : List ℕ) {i j : ℕ} (l m : List ℕ) → i < j → Earlier ((f ++ (i ∷ [])) ++ l) ((f ++ (j ∷ [])) ++ m)
rises [] l m h = here h
rises (a ∷ f) l m h = behind (rises f l m h)

-- of two places that differ behind the same numbers
pub before : (f : List ℕ) {i j : ℕ} (x y : Line) → i < j → Begins (f ++ (i ∷ [])) x → Begins (f ++ (j ∷ [])) y → Earlier (place_of x) (place_of y)
before f x y h a b = rw (a.1, b.1) (rises f a.0 b.0 h)

module _ (f : List ℕ) (P : ℕ → Line → Type 0) (t : ℕ → List ℕ) where
  -- the lines of the numbers from 1 to n, each of which begins with its number
  pub each-line : (n : ℕ) → ((i : ℕ) → Between 1 n i → Printed (P i) (t i)) → ((i : ℕ) (x : Line) → Between 1 n i → P i x → Begins (f ++ (i ∷ [])) x)
      → Printed (λ (x : Line). (i : ℕ) × Between 1 n i × P i x) (each_to n t)
  unfolding each_to
  each-line zero prints begins = no-line (λ x p. omega arith)
  each-line (suc n) prints begins =
      both (each-line n (λ i b. prints i (omega arith)) (λ i x b p. begins i x (omega arith) p)) (prints (suc n) (omega arith))
      (λ x y p q. before f x y (omega (arith, p.1)) (begins p.0 x (omega (arith, p.1)) p.2) (begins (suc n) y (omega arith) q))
      (λ x. ⊎_elim (λ p. (p.0, omega (arith, p.1), p.2)) (λ p. (suc n, omega arith, p)))
      (λ x s. last x s (dec_le s.0 n))
    where
      last : (x : Line) (s : (i : ℕ) × Between 1 (suc n) i × P i x) → Dec (s.0 ≤ n) → ((i : ℕ) × Between 1 n i × P i x) ⊎ P (suc n) x
      last x s (yes h) = inl (s.0, (s.1.0, h), s.2)
      last x s (no g) = inr (subst (λ (i : ℕ). P i x) (omega (arith, s.1)) s.2)

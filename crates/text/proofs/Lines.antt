-- The text of a number reads as that number, and each line is its letter and its numbers. Assumes nothing.
use Prim.Native.Nat.{ℕ, zero, suc, ◌+◌, ◌-◌, ◌*◌, ◌/◌, ◌%◌, ◌≤◌, ◌<◌}
use mathlib.Core.Path.{◌≡◌, refl, sym, ap, ◌∙◌}
use mathlib.Core.Bool.{Bool, true, false, cond}
use mathlib.Core.List.Memᴰ
use mathlib.Core.List.{List, [], ◌∷◌, ◌++◌, append_assoc, Memᴰ}
use mathlib.Core.Logic.{⊎_elim}
use native.Mathlib.Decide.{dec_le}
use native.Mathlib.Omega.{arith}
use native.Mathlib.Numerals.{add-one}
use borrow.Author.Tests.{ltb-true, ltb-false}
use lib.Dec.{ltb}
use lib.IntN.{ℤ, pos, negsuc}
use lib.ListN.{length, get_or, length-append, get_or-append}
use Rattle.quantity.specs.Meaning.{Between}
use Rattle.text.specs.Laws.{read_from, InDecimal, InSigned, Fields, done, field, Lettered, Shows, answer, refusal, group, total, chosen}
use Rattle.text.specs.Line.{answer_line, refusal_line, group_line, total_line, selection_line}
use Rattle.text.specs.Text.{digit, decimal, decimal_in, signed_text}

-- one digit more
read-snoc : (b : ℕ) (t : List ℕ) (d : ℕ) → read_from b (t ++ (d ∷ [])) ≡ 10 * read_from b t + (d - 48)
unfolding read_from
read-snoc b [] d = refl
read-snoc b (c ∷ t) d = read-snoc (10 * b + (c - 48)) t d

-- what is known of the digits of a number while they are put one behind the other
record Spelt (n : ℕ) (t : List ℕ) : Type 0 where
  some : 1 ≤ length t
  digits : (d : ℕ) → Memᴰ d t → Between 48 57 d
  front : 1 ≤ n → 49 ≤ get_or t 0 0
  alone : n ≡ 0 → length t ≡ 1
  reads : read_from 0 t ≡ n

spelt-one : (n : ℕ) → n < 10 → Spelt n (digit n ∷ [])
unfolding read_from
spelt-one n h =
    record {
      some = omega arith;
      digits = λ d m. let e : d ≡ 48 + n = Memᴰ.eq_of_singleton m in omega arith;
      front = λ k. omega arith;
      alone = λ z. refl;
      reads = omega arith;
    }

spelt-more : (n : ℕ) (t : List ℕ) → 10 ≤ n → Spelt (n / 10) t → Spelt n (t ++ (digit (n % 10) ∷ []))
spelt-more n t h s =
    record {
      some = rw length-append (omega arith);
      digits = λ d m. ⊎_elim (s.digits d) (λ k. let e : d ≡ 48 + n % 10 = Memᴰ.eq_of_singleton k in omega arith) (Memᴰ.append_cases t m);
      front = λ k. rw (get_or-append t (digit (n % 10) ∷ []) 0 0 s.some) (s.front (omega arith));
      alone = λ z. absurd (omega arith);
      reads = read-snoc 0 t (digit (n % 10)) ∙ omega (arith, s.reads);
    }

spelt : (k n : ℕ) → n ≤ k → Spelt n (decimal_in k n)
unfolding decimal_in
spelt zero n h = let z : n % 10 ≡ n = omega arith in rw z (spelt-one n (omega arith))
spelt (suc k) n h = by (ltb n 10) refl (λ l. spelt k (n / 10) l)
  where
    by : (t : Bool) → ltb n 10 ≡ t → (n / 10 ≤ k → Spelt (n / 10) (decimal_in k (n / 10))) → Spelt n (cond t (digit n ∷ []) (decimal_in k (n / 10) ++ (digit (n % 10) ∷ [])))
    by true e s = spelt-one n (ltb-true n 10 e)
    by false e s = let low : 10 ≤ n = ltb-false n 10 e in spelt-more n (decimal_in k (n / 10)) low (s (omega arith))

in-decimal : (n : ℕ) (t : List ℕ) → Spelt n t → InDecimal n t
in-decimal n t s = record { some = s.some; digits = s.digits; front = front; reads = s.reads }
  where
    one : (u : List ℕ) → suc (length u) ≡ 1 → u ≡ []
    one [] e = refl
    one (x ∷ u) e = absurd (omega arith)

    front : (u : List ℕ) → t ≡ 48 ∷ u → u ≡ []
    front u e = by (dec_le 1 n)
      where
        by : Dec (1 ≤ n) → u ≡ []
        by (yes l) = absurd (omega (arith, s.front l, ap (λ (x : List ℕ). get_or x 0 0) e))
        by (no g) = one u (sym (ap (λ (x : List ℕ). length x) e) ∙ s.alone (omega arith))

-- the text of a number is that number in decimal
pub decimal-reads : (n : ℕ) → InDecimal n (decimal n)
decimal-reads n = in-decimal n (decimal n) (spelt n n (omega arith))

-- and that of an integer has its sign
pub signed-reads : (v : ℤ) → InSigned v (signed_text v)
unfolding signed_text
signed-reads (pos n) = decimal-reads n
signed-reads (negsuc n) = (decimal (suc n), refl, rw add-one (decimal-reads (suc n)))

-- ---- the lines

lettered : (c : ℕ) (vs : List ℤ) (t u : List ℕ) → Fields vs u → t ≡ u → Lettered c vs (c ∷ t)
lettered c vs t u f e = (u, ap (λ (l : List ℕ). c ∷ l) e, f)

three : (a b c d : List ℕ) → a ++ b ++ c ++ d ≡ a ++ (b ++ (c ++ d))
three a b c d = simp append_assoc

four : (a b c d e : List ℕ) → a ++ b ++ c ++ d ++ e ≡ a ++ (b ++ (c ++ (d ++ e)))
four a b c d e = simp append_assoc

pub answer-shows : (n a : ℕ) → Shows (answer n a) (answer_line n a)
answer-shows n a = rw append_assoc (field _ (decimal-reads n) (field _ (decimal-reads a) done))

pub refusal-shows : (n o : ℕ) → Shows (refusal n o) (refusal_line n o)
refusal-shows n o =
    lettered 70 _ _ _ (field _ (decimal-reads n) (field _ (decimal-reads o) done)) (append_assoc (32 ∷ decimal n) (32 ∷ decimal o) (10 ∷ []))

pub group-shows : (r q g : ℕ) (v : ℤ) → Shows (group r q g v) (group_line r q g v)
group-shows r q g v =
    lettered 71 _ _ _ (field _ (decimal-reads r) (field _ (decimal-reads q) (field _ (decimal-reads g) (field _ (signed-reads v) done))))
    (four (32 ∷ decimal r) (32 ∷ decimal q) (32 ∷ decimal g) (32 ∷ signed_text v) (10 ∷ []))

pub total-shows : (r q : ℕ) (v : ℤ) → Shows (total r q v) (total_line r q v)
total-shows r q v =
    lettered 84 _ _ _ (field _ (decimal-reads r) (field _ (decimal-reads q) (field _ (signed-reads v) done)))
    (three (32 ∷ decimal r) (32 ∷ decimal q) (32 ∷ signed_text v) (10 ∷ []))

pub selection-shows : (r p x s : ℕ) → Shows (chosen r p x s) (selection_line r p x s)
selection-shows r p x s =
    lettered 83 _ _ _ (field _ (decimal-reads r) (field _ (decimal-reads p) (field _ (decimal-reads x) (field _ (decimal-reads s) done))))
    (four (32 ∷ decimal r) (32 ∷ decimal p) (32 ∷ decimal x) (32 ∷ decimal s) (10 ∷ []))

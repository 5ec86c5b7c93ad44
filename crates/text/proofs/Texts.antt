-- Laws of the text in a line. Assumes nothing.
use Prim.Native.Nat.{ℕ, zero, suc, ◌+◌, ◌-◌, ◌*◌, ◌/◌, ◌%◌, ◌^◌, ◌≤◌, ◌<◌}
use mathlib.Core.Path.{◌≡◌, refl, sym, ap, ◌∙◌}
use mathlib.Core.Bool.{Bool, true, false, cond}
use mathlib.Core.List.{List, [], ◌∷◌, ◌++◌, append_assoc, append-nil}
use native.Mathlib.Nat.{mul-suc, pow-suc, one-le-pow, pow-le-pow_right}
use native.Mathlib.Decide.{dec_lt}
use native.Mathlib.Omega.{arith}
use native.Mathlib.Numerals.{add-one}
use borrow.Author.Tests.{lt-ltb, le-ltb, ltb-false}
use lib.Dec.{lit<, ltb}
use lib.ListN.{length, take, drop, length-append, take-append-drop}
use lib.Seq.{length-take-le, take-length, take_at, drop_at, drop-append-le, drop-append-add, drop-drop}
use mir.Syntax.{w64}
use mir.Facts.{to_z_pos, to_z-neg}
use borrow.Rule.Slice.PartMut.{put_mid}
use Rattle.std.proofs.lemmas.Slice.{drop-put_mid}
use Rattle.io.specs.Digits.{last_digits, hex_digit_ascii, IsDigitCount}
use Rattle.quantity.specs.Word.{signed}
use Rattle.text.specs.Line.{answer_line}
use Rattle.text.specs.Puts.{Puts}
use Rattle.text.specs.Text.{Put, digit, minus, decimal, decimal_in, signed_text, each_to}
use Rattle.text.specs.declared.field.Text.{Text}

glyph-digit : (d : ℕ) → d < 10 → hex_digit_ascii d ≡ digit d
glyph-digit d h = rw (lt-ltb d 10 h)

last : (n : ℕ) → hex_digit_ascii (n % 10) ≡ digit (n % 10)
last n = glyph-digit (n % 10) (omega arith)

-- a number of more than one digit
more : (k n : ℕ) → IsDigitCount 10 1 n (suc (suc k)) → 10 ^ suc k ≤ n
more k n h = let one-less : suc (suc k) - 1 ≡ suc k = omega arith in rw one-less at (h.2 (omega arith))

ten : (k n : ℕ) → 10 ^ suc k ≤ n → 10 ≤ n
ten k n h = omega (arith, pow-suc 10 k, one-le-pow k 10 (omega arith))

-- without its last digit
fewer : (k n : ℕ) → IsDigitCount 10 1 n (suc (suc k)) → IsDigitCount 10 1 (n / 10) (suc k)
fewer k n h =
    let low : 10 ^ suc k ≤ n = more k n h in
    let one-less : suc k - 1 ≡ k = omega arith in
    (omega arith, omega (arith, pow-suc 10 (suc k)), λ _. rw one-less (omega (arith, pow-suc 10 k)))

-- the fewest digits that hold a number are its decimal digits
pub spelled : (k m n : ℕ) → n ≤ m → IsDigitCount 10 1 n k → last_digits 10 k n ≡ decimal_in m n
unfolding decimal_in
spelled zero m n few h = absurd (omega arith)
spelled (suc zero) zero n few h = ap (λ (d : ℕ). d ∷ []) (last n)
spelled (suc zero) (suc m) n few h =
    let small : n < 10 = omega arith in
    let same : n % 10 ≡ n = omega arith in
    rw (lt-ltb n 10 small) (ap (λ (d : ℕ). d ∷ []) (last n ∙ ap digit same))
spelled (suc (suc k)) zero n few h = absurd (omega (arith, ten k n (more k n h)))
spelled (suc (suc k)) (suc m) n few h =
    rw (le-ltb n 10 (ten k n (more k n h))) (λ i. spelled (suc k) m (n / 10) (omega (arith, ten k n (more k n h))) (fewer k n h) i ++ (last n i ∷ []))

-- a word has at most 20 digits
pub few-digits : (n k : ℕ) → n < 2 ^ 64 → IsDigitCount 10 1 n k → k ≤ 20
few-digits n k h f = by (dec_lt 20 k)
  where
    by : Dec (20 < k) → k ≤ 20
    by (no g) = omega arith
    by (yes l) =
        let low : 10 ^ (k - 1) ≤ n = f.2 (omega arith) in
        let wide : 20 ≤ k - 1 = omega arith in
        let high : 10 ^ 20 ≤ 10 ^ (k - 1) = pow-le-pow_right (lit< tt) wide in
        absurd (omega arith)

-- a number below 10^k has at most k digits
pub decimal-few : (k m n : ℕ) → n < 10 ^ suc k → length (decimal_in m n) ≤ suc k
unfolding decimal_in
decimal-few k zero n h = omega arith
decimal-few k (suc m) n h = by k (ltb n 10) refl h (λ j l. decimal-few j m (n / 10) l)
  where
    by : (k : ℕ) (t : Bool) → ltb n 10 ≡ t → n < 10 ^ suc k → ((j : ℕ) → n / 10 < 10 ^ suc j → length (decimal_in m (n / 10)) ≤ suc j)
        → length (cond t (digit n ∷ []) (decimal_in m (n / 10) ++ (digit (n % 10) ∷ []))) ≤ suc k
    by k true e l ih = omega arith
    by zero false e l ih = absurd (omega (arith, ltb-false n 10 e))
    by (suc j) false e l ih =
        let less : n / 10 < 10 ^ suc j = omega (arith, pow-suc 10 (suc j)) in
        rw length-append (omega (arith, ih j less))

-- the line of a call's number below 100,000 and an answer below 100
pub answer-few : (n a : ℕ) → n < 100000 → a < 100 → length (answer_line n a) ≤ 9
answer-few n a h k =
    simp length-append (omega (arith, decimal-few 4 n n h, decimal-few 1 a a k))

-- a text copied into the line from a place on
pub copied : (l s part rest tail : List ℕ) (at k : ℕ) → at ≤ length l → length s ≡ k → part ≡ take (length s) s ++ rest
    → take (at + k) (take at l ++ (part ++ tail)) ≡ take at l ++ s
copied l s part rest tail at k h long e = ap (take (at + k)) shape ∙ take_at (take at l ++ s) (rest ++ tail) (at + k) size
  where
    shape : take at l ++ (part ++ tail) ≡ (take at l ++ s) ++ (rest ++ tail)
    shape =
        ap (λ (p : List ℕ). take at l ++ (p ++ tail)) (e ∙ ap (λ (x : List ℕ). x ++ rest) (take-length s))
        ∙ ap (λ (x : List ℕ). take at l ++ x) (append_assoc s rest tail)
        ∙ sym (append_assoc (take at l) s (rest ++ tail))

    size : length (take at l ++ s) ≡ at + k
    size = simp length-append (omega (arith, length-take-le at l h))

-- what stands behind it is as it was
pub behind-copied : (l s part : List ℕ) (at k n : ℕ) → at ≤ length l → length s ≡ k → k ≤ length (take n (drop at l))
    → part ≡ take (length s) s ++ drop (length s) (take n (drop at l)) → drop (at + k) (take at l ++ (part ++ drop n (drop at l))) ≡ drop (at + k) l
behind-copied l s part at k n h long room e =
    let d = drop at l in
    ap (λ (p : List ℕ). drop (at + k) (take at l ++ (p ++ drop n d))) (e ∙ ap (λ (x : List ℕ). x ++ drop (length s) (take n d)) (take-length s) ∙ ap (λ (j : ℕ). s ++ drop j (take n d)) long)
    ∙ ap (λ (j : ℕ). drop (j + k) (take at l ++ ((s ++ drop k (take n d)) ++ drop n d))) (sym (length-take-le at l h))
    ∙ drop-append-add (take at l) ((s ++ drop k (take n d)) ++ drop n d) k
    ∙ ap (drop k) (append_assoc s (drop k (take n d)) (drop n d))
    ∙ drop_at s (drop k (take n d) ++ drop n d) k long
    ∙ sym (drop-append-le k (take n d) (drop n d) room)
    ∙ ap (drop k) (take-append-drop n d)
    ∙ drop-drop k at l

-- a text written over as many bytes of a slice is put there
pub put-slice : (l part s : List ℕ) (at k : ℕ) → at + k ≤ length l → length s ≡ k → part ≡ s → Put k at s l (put_mid at ((at + k) - at) l part) (at + k)
put-slice l part s at k h long e =
    let size : (at + k) - at ≡ k = omega arith in
    let none : s ++ [] ≡ take (length s) s ++ [] = ap (λ (x : List ℕ). x ++ []) (sym (take-length s)) in
    record {
      holds = copied l s part [] (drop ((at + k) - at) (drop at l)) at k (omega arith) long (e ∙ sym (append-nil s) ∙ none);
      rest = rw (size, e) (drop-put_mid at k l s (at + k) (omega arith) (omega arith) long);
      from = omega arith;
      few = omega arith;
    }

-- what is the same from a place on is the same from a later one on
pub drop-later : (l m : List ℕ) (a b : ℕ) → a ≤ b → drop a l ≡ drop a m → drop b l ≡ drop b m
drop-later l m a b h e =
    let same : a + (b - a) ≡ b = omega arith in
    ap (λ (n : ℕ). drop n l) (sym same) ∙ sym (drop-drop (b - a) a l) ∙ ap (drop (b - a)) e ∙ drop-drop (b - a) a m ∙ ap (λ (n : ℕ). drop n m) same

-- no text
pub put-none : (a : ℕ) (l : List ℕ) → Put 0 a [] l l a
put-none a l = record { holds = sym (append-nil (take a l)); rest = refl; from = omega arith; few = omega arith }

-- one text behind the other
pub put-then : {m p a b c : ℕ} {t u l l' l'' : List ℕ} → Put m a t l l' b → Put p b u l' l'' c → Put (m + p) a (t ++ u) l l'' c
put-then {a = a} {b = b} {c = c} {t = t} {u = u} {l = l} {l' = l'} x y =
    record {
      holds = y.holds ∙ ap (λ (s : List ℕ). s ++ u) x.holds ∙ append_assoc (take a l) t u;
      rest = y.rest ∙ drop-later l' l b c y.from x.rest;
      from = omega arith;
      few = omega arith;
    }

-- the same text, by another name and within more bytes
pub put-as : {m p a c : ℕ} {t u l l' : List ℕ} → Put m a t l l' c → m ≤ p → t ≡ u → Put p a u l l' c
put-as {a = a} {l = l} x h e =
    record { holds = x.holds ∙ ap (λ (s : List ℕ). take a l ++ s) e; rest = x.rest; from = x.from; few = omega arith }

-- within as many bytes as the text has, where it ends within the buffer
pub put-few : {m p a c : ℕ} {t l l' : List ℕ} → Put m a t l l' c → a ≤ length l → c ≤ length l' → length t ≤ p → Put p a t l l' c
put-few {a = a} {c = c} {t = t} {l = l} {l' = l'} x low high few =
    let n : c ≡ a + length t = sym (length-take-le c l' high) ∙ ap (λ (s : List ℕ). length s) x.holds ∙ length-append (take a l) t ∙ ap (λ (k : ℕ). k + length t) (length-take-le a l low) in
    record { holds = x.holds; rest = x.rest; from = x.from; few = omega arith }

-- the same of a buffer and what is filled of it: no text
pub puts-none : (a : Text) → Puts 0 [] a a
puts-none a = record { put = put-none a.filled a.buffer.now; room = refl; same = refl }

pub puts-then : {m p : ℕ} {t u : List ℕ} {a b c : Text} → Puts m t a b → Puts p u b c → Puts (m + p) (t ++ u) a c
puts-then x y = record { put = put-then x.put y.put; room = y.room ∙ x.room; same = y.same ∙ x.same }

pub puts-as : {m p : ℕ} {t u : List ℕ} {a b : Text} → Puts m t a b → m ≤ p → t ≡ u → Puts p u a b
puts-as x h e = record { put = put-as x.put h e; room = x.room; same = x.same }

-- what the text puts stands in the buffer that was lent for it
pub puts-out : {m : ℕ} {t l : List ℕ} {a b : Text} → Puts m t a b → (a.buffer.ghost_name ≡ b.buffer.ghost_name → l ≡ b.buffer.now) → Put m a.filled t a.buffer.now l b.filled
puts-out x f = rw (f (sym x.same)) x.put

-- of a buffer that has room for it
pub puts-few : {m p : ℕ} {t : List ℕ} {a b : Text} → Puts m t a b → a.filled + m ≤ length a.buffer.now → length t ≤ p → Puts p t a b
puts-few x h few =
    record { put = put-few x.put (omega arith) (omega (arith, x.put.few, x.room)) few; room = x.room; same = x.same }

-- the text of one number more, each in at most m bytes
pub puts-each : {a b c : Text} (m n : ℕ) (f : ℕ → List ℕ) → Puts (m * n) (each_to n f) a b → Puts m (f (n + 1)) b c → Puts (m * (n + 1)) (each_to (n + 1) f) a c
unfolding each_to
puts-each m n f x y = rw (add-one, mul-suc) (puts-then x (rw add-one at y))

-- the same, by the number that comes next
pub puts-next : {a b c : Text} (m n : ℕ) (f : ℕ → List ℕ) → 1 ≤ n → Puts (m * (n - 1)) (each_to (n - 1) f) a b → Puts m (f n) b c → Puts (m * (n + 1 - 1)) (each_to (n + 1 - 1) f) a c
puts-next m n f h x y =
    let less : n - 1 + 1 ≡ n = omega arith in
    let same : n + 1 - 1 ≡ n - 1 + 1 = omega arith in
    rw same (puts-each m (n - 1) f x (rw less y))

-- of none
pub puts-first : (f : ℕ → List ℕ) (a : Text) → Puts 0 (each_to 0 f) a a
unfolding each_to
puts-first f a = puts-none a

-- texts that are the same for each number
pub each-same : (n : ℕ) (f g : ℕ → List ℕ) → ((i : ℕ) → 1 ≤ i → i ≤ n → f i ≡ g i) → each_to n f ≡ each_to n g
unfolding each_to
each-same zero f g h = refl
each-same (suc n) f g h = cc (each-same n f g (λ i lo hi. h i lo (omega arith)), h (suc n) (omega arith) (omega arith))

-- the text of a word
pub text-up : (w : ℕ) → w < 2 ^ 63 → decimal w ≡ signed_text (signed w)
unfolding signed_text
text-up w h = rw (to_z_pos w64 h)

pub text-down : (w : ℕ) → 2 ^ 63 ≤ w → w < 2 ^ 64 → minus ∷ decimal (2 ^ 64 - 1 - w + 1) ≡ signed_text (signed w)
unfolding signed_text
text-down w low high =
    let k : ℕ = 2 ^ 64 - 1 - w in
    let e : 2 ^ 64 - suc k ≡ w = omega arith in
    let f : 2 ^ 64 - 1 - w + 1 ≡ suc k = omega arith in
    ap (λ (x : ℕ). minus ∷ decimal x) f ∙ sym (ap signed_text (to_z-neg w64 k (omega arith))) ∙ ap (λ (x : ℕ). signed_text (signed x)) e

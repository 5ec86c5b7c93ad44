-- How far blocks of bytes have been passed, and each byte of them. Assumes nothing.
use Prim.Native.Nat.{ℕ, zero, suc, ◌+◌, ◌-◌, ◌<◌, ◌≤◌}
use mathlib.Core.Path.{◌≡◌, refl, sym, ap, ◌∙◌}
use mathlib.Core.Bool.{true, not, ◌&&◌, ◌||◌, false≢true}
use mathlib.Core.List.{List, [], ◌∷◌, ◌++◌}
use native.Mathlib.Omega.{arith}
use native.Mathlib.Numerals.{add-one}
use native.Mathlib.Decide.{dec_lt}
use borrow.Author.Tests.{lt-ltb, le-ltb, ltb-true}
use lib.Dec.{ltb, eqb}
use lib.ListN.{length, get_or}
use Rattle.quantity.proofs.Tests.{and-left, and-right}
use Rattle.message.specs.Block.{goes_on, standing, stands, sound_to, more_to, begin_of, Reaches}
use Rattle.message.proofs.Bytes.{GoOn, ends-at}
use Rattle.message.proofs.Passing.{Passing, started, one-more, left-same}

-- i numbers of n have ended before `start`, and the bytes from there up to j are the next one's
pub record Halfway (s : List ℕ) (at n i j : ℕ) : Type 0 where
  pub start : ℕ
  pub vs : List ℕ
  pub pass : Passing s at n start i vs
  pub inside : j ≤ length s
  pub before : start ≤ j
  pub short : j ≤ start + 8
  pub goes : GoOn s start j
  pub closed : (p : ℕ) × (suc p ≡ start) × (get_or s p 0 < 128)

pub halfway : (s : List ℕ) (at n p : ℕ) → suc p ≡ at → at ≤ length s → get_or s p 0 < 128 → Halfway s at n 0 at
halfway s at n p e h l =
    record {
      start = at;
      vs = [];
      pass = started s at n h;
      inside = h;
      before = omega arith;
      short = omega arith;
      goes = λ t a b. absurd (omega arith);
      closed = (p, e, l);
    }

-- where the number in hand begins, a byte at a time
pub begin-none : (s : List ℕ) (j : ℕ) → j ≤ 0 → begin_of s j ≡ 0
unfolding begin_of
begin-none s zero h = refl
begin-none s (suc j) h = absurd (omega arith)

pub begin-here : (s : List ℕ) (j : ℕ) → 0 < j → get_or s (j - 1) 0 < 128 → begin_of s j ≡ j
unfolding begin_of
begin-here s zero h l = absurd (omega arith)
begin-here s (suc j) h l = let e : suc j - 1 ≡ j = omega arith in rw (lt-ltb (get_or s j 0) 128 (rw e at l))

pub begin-before : (s : List ℕ) (j : ℕ) → 0 < j → 128 ≤ get_or s (j - 1) 0 → begin_of s j ≡ begin_of s (j - 1)
unfolding begin_of
begin-before s zero h l = absurd (omega arith)
begin-before s (suc j) h l = let e : suc j - 1 ≡ j = omega arith in rw (e, le-ltb (get_or s j 0) 128 (rw e at l))

-- and at once
begins : (s : List ℕ) (start k j : ℕ) → start + k ≡ j → GoOn s start j → (p : ℕ) → suc p ≡ start → get_or s p 0 < 128 → begin_of s j ≡ start
unfolding begin_of
begins s start zero j e goes p q l =
    let here : j ≡ suc p = omega arith in
    rw (here, lt-ltb (get_or s p 0) 128 l) q
begins s start (suc k) zero e goes p q l = absurd (omega arith)
begins s start (suc k) (suc j) e goes p q l =
    rw (le-ltb (get_or s j 0) 128 (goes j (omega arith) (omega arith))) (begins s start k j (omega arith) (λ t a b. goes t a (omega arith)) p q l)

-- a byte 0 stands only behind a last byte
zero-behind : (a b c d e f g h i : ℕ) → standing a b c d e f g h i ≡ true → i ≡ 0 → h < 128
unfolding standing
zero-behind a b c d e f g h i w z =
    let t : (not (eqb i 0) || ltb h 128) ≡ true = and-left (not (eqb i 0) || ltb h 128) _ w in
    ltb-true h 128 (rw z at t)

-- no nine go on
nine-behind : (a b c d e f g h i : ℕ) → standing a b c d e f g h i ≡ true →
    128 ≤ a → 128 ≤ b → 128 ≤ c → 128 ≤ d → 128 ≤ e → 128 ≤ f → 128 ≤ g → 128 ≤ h → 128 ≤ i → ⊥
unfolding standing
nine-behind a b c d e f g h i w la lb lc ld le lf lg lh li =
    let t = and-right (not (eqb i 0) || ltb h 128) _ w in
    false≢true (rw (le-ltb a 128 la, le-ltb b 128 lb, le-ltb c 128 lc, le-ltb d 128 ld, le-ltb e 128 le, le-ltb f 128 lf, le-ltb g 128 lg, le-ltb h 128 lh, le-ltb i 128 li) at t)

goes-one : (b : ℕ) → goes_on b ≤ 1
goes-one b = go (dec_lt b 128)
  where
    go : Dec (b < 128) → goes_on b ≤ 1
    go (yes h) = rw (lt-ltb b 128 h) (omega arith)
    go (no h) = rw (le-ltb b 128 (omega arith)) (omega arith)

pub more-few : (s : List ℕ) (from m : ℕ) → more_to s from m ≤ m
unfolding more_to
more-few s from zero = omega arith
more-few s from (suc m) = omega (arith, more-few s from m, goes-one (get_or s (from + m + 8) 0))

-- a byte more of a block
pub sound-more : (s : List ℕ) (from t : ℕ) → sound_to s from (t + 1) ≡ sound_to s from t && stands s (from + t)
unfolding sound_to
sound-more s from t = rw add-one

pub more-more : (s : List ℕ) (from t : ℕ) → more_to s from (t + 1) ≡ more_to s from t + goes_on (get_or s (from + t + 8) 0)
unfolding more_to
more-more s from t = rw add-one

-- a byte more
module _ {s : List ℕ} {at n i j : ℕ} (w : Halfway s at n i j) (h : j < length s) where
  goes-on : 128 ≤ get_or s j 0 → j < w.start + 8 → Halfway s at n i (j + 1)
  goes-on l few =
      record {
        start = w.start;
        vs = w.vs;
        pass = w.pass;
        inside = omega arith;
        before = omega (arith, w.before);
        short = omega arith;
        goes = λ t a b. one t a b (dec_lt t j);
        closed = w.closed;
      }
    where
      one : (t : ℕ) → w.start ≤ t → t < j + 1 → Dec (t < j) → 128 ≤ get_or s t 0
      one t a b (yes c) = w.goes t a c
      one t a b (no c) = let e : t ≡ j = omega arith in rw e l

  ends-here : get_or s j 0 < 128 → (get_or s j 0 ≡ 0 → w.start ≡ j) → i < n → Halfway s at n (i + 1) (j + 1)
  ends-here l z more =
      let r = ends-at s w.start j w.before w.short w.goes h l z in
      record {
        start = j + 1;
        vs = w.vs ++ (r.0 ∷ []);
        pass = one-more w.pass more r.1;
        inside = omega arith;
        before = omega arith;
        short = omega arith;
        goes = λ t a b. absurd (omega arith);
        closed = (j, sym (add-one j), l);
      }

  -- by the eight bytes before it
  a-byte : (k : ℕ) → k + 8 ≡ j → stands s k ≡ true → i < n → Halfway s at n (i + (1 - goes_on (get_or s j 0))) (j + 1)
  unfolding stands
  a-byte k e ok more = go (dec_lt (get_or s j 0) 128)
    where
      go : Dec (get_or s j 0 < 128) → Halfway s at n (i + (1 - goes_on (get_or s j 0))) (j + 1)
      go (yes l) = rw (lt-ltb (get_or s j 0) 128 l) (ends-here l alone more)
        where
          alone : get_or s j 0 ≡ 0 → w.start ≡ j
          alone z = test (dec_lt w.start j)
            where
              test : Dec (w.start < j) → w.start ≡ j
              test (no c) = omega (arith, w.before)
              test (yes c) =
                  let last : get_or s (k + 7) 0 < 128 = zero-behind _ _ _ _ _ _ _ (get_or s (k + 7) 0) (get_or s (k + 8) 0) ok (rw e z) in
                  absurd (omega (arith, w.goes (k + 7) (omega arith) (omega arith)))
      go (no c) =
          let l : 128 ≤ get_or s j 0 = omega arith in
          let same : i + 0 ≡ i = omega arith in
          rw (le-ltb (get_or s j 0) 128 l, same) (goes-on l (test (dec_lt j (w.start + 8))))
        where
          test : Dec (j < w.start + 8) → j < w.start + 8
          test (yes d) = d
          test (no d) =
              let go_on : (t : ℕ) → k ≤ t → t < j → 128 ≤ get_or s t 0 = λ t a b. w.goes t (omega (arith, w.short)) b in
              absurd (nine-behind (get_or s k 0) (get_or s (k + 1) 0) (get_or s (k + 2) 0) (get_or s (k + 3) 0) (get_or s (k + 4) 0) (get_or s (k + 5) 0) (get_or s (k + 6) 0) (get_or s (k + 7) 0) (get_or s (k + 8) 0) ok
              (go_on k (omega arith) (omega arith)) (go_on (k + 1) (omega arith) (omega arith)) (go_on (k + 2) (omega arith) (omega arith)) (go_on (k + 3) (omega arith) (omega arith))
              (go_on (k + 4) (omega arith) (omega arith)) (go_on (k + 5) (omega arith) (omega arith)) (go_on (k + 6) (omega arith) (omega arith)) (go_on (k + 7) (omega arith) (omega arith))
              (rw e (omega arith)))

-- as many numbers end as bytes do not go on
one-less : (i m M g : ℕ) → M ≤ m → g ≤ 1 → i + (m - M) + (1 - g) ≡ i + (suc m - (M + g))
one-less i m M g a b = omega arith

module _ {s : List ℕ} {at n : ℕ} where
  again : {i j i' j' : ℕ} → i ≡ i' → j ≡ j' → Halfway s at n i j → Halfway s at n i' j'
  again e f w = rw (sym e, sym f) w

  -- one byte behind so many
  one-behind : (from m i : ℕ) → Halfway s at n (i + (m - more_to s from m)) (from + 8 + m) → from + 8 + suc m ≤ length s → i + suc m ≤ n → stands s (from + m) ≡ true →
      Halfway s at n (i + (suc m - (more_to s from m + goes_on (get_or s (from + m + 8) 0)))) (from + 8 + suc m)
  one-behind from m i w h few ok =
      let here : from + m + 8 ≡ from + 8 + m = omega arith in
      rw here
      (again (one-less i m (more_to s from m) (goes_on (get_or s (from + 8 + m) 0)) (more-few s from m) (goes-one (get_or s (from + 8 + m) 0))) (omega arith)
      (a-byte w (omega arith) (from + m) here ok (omega arith)))

  -- so many bytes more
  pub a-block : (from m i : ℕ) → Halfway s at n i (from + 8) → from + 8 + m ≤ length s → i + m ≤ n → sound_to s from m ≡ true →
      Halfway s at n (i + (m - more_to s from m)) (from + 8 + m)
  unfolding sound_to more_to
  a-block from zero i w h few ok = again (omega arith) (omega arith) w
  a-block from (suc m) i w h few ok =
      one-behind from m i (a-block from m i w (omega arith) (omega arith) (and-left (sound_to s from m) (stands s (from + m)) ok)) h few
      (and-right (sound_to s from m) (stands s (from + m)) ok)

-- a block of 32 more
pub blocks-on : {s : List ℕ} {at n i j : ℕ} → 8 ≤ j → Halfway s at n i j → j + 32 ≤ length s → i + 32 ≤ n → sound_to s (j - 8) 32 ≡ true → {k : ℕ} → k ≡ more_to s (j - 8) 32 →
    Halfway s at n (i + (32 - k)) (j + 32)
blocks-on {s} {at} {n} {i} {j} l w h few ok e =
    let here : j ≡ j - 8 + 8 = omega arith in
    again (ap (λ (x : ℕ). i + (32 - x)) (sym e)) (omega arith) (a-block (j - 8) 32 i (again refl here w) (omega arith) few ok)

pub reaches : {s : List ℕ} {at n i j to : ℕ} → Halfway s at n i j → to ≡ begin_of s j → Reaches s at n i to
reaches {s} {at} {n} {i} {j} {to} w e =
    let here : to ≡ w.start = e ∙ begins s w.start (j - w.start) j (omega (arith, w.before)) w.goes w.closed.0 w.closed.1 w.closed.2 in
    rw here (record { few = w.pass.count; inside = w.pass.inside; same = left-same w.pass })

pub reaches-none : (s : List ℕ) (at n : ℕ) → at ≤ length s → Reaches s at n 0 at
reaches-none s at n h = let w = started s at n h in record { few = w.count; inside = h; same = left-same w }

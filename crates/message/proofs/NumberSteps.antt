-- How far the reading of a number has come, and each step of it. Assumes nothing.
use Prim.Native.Nat.{ℕ, suc, ◌+◌, ◌-◌, ◌*◌, ◌%◌, ◌^◌, ◌<◌, ◌≤◌}
use mathlib.Core.Path.{◌≡◌, refl, sym, ap, ap₂, ◌∙◌}
use mathlib.Core.Bool.{true, false, false≢true}
use mathlib.Core.List.{List}
use native.Mathlib.Omega.{arith}
use native.Mathlib.Decide.{dec_lt}
use native.Mathlib.Numerals.{add-one}
use native.Mathlib.Nat.{pow-suc, pow-le-pow_right, mul-le-mul_left, mul-add, mul_assoc, add_assoc}
use lib.ListN.{length, drop, get_or, length-drop, drop_of_length-le}
use lib.Seq.{drop-cons}
use Rattle.std.specs.Prelude.{Result, Err, IsOk}
use Rattle.message.specs.Read.{Read, got, refused, accepted}
use Rattle.message.specs.Number.{above, decode_in, decode}
use Rattle.message.specs.Offset.{itself, number_of, number_at, number_to}
use Rattle.message.specs.declared.FileCause.{FileCause}
use Rattle.message.specs.declared.FileCause.TheVariants.{Cut, NotShortest}
use Rattle.message.specs.declared.NumberRead.{NumberRead}
use Rattle.message.proofs.Numbers.{decode-none, decode-out, decode-only, decode-zero, decode-last, decode-more}

above-more : (low place b : ℕ) (d : Read ℕ) → above low place (above (b % 128) 128 d) ≡ above (low + place * (b % 128)) (place * 128) d
above-more low place b (got v r) =
    ap (λ (x : ℕ). got x r)
    (rw (mul-add place (b % 128) (128 * v), mul_assoc place 128 v, add_assoc low (place * (b % 128)) (place * (128 * v))))
above-more low place b (refused x) = refl

-- i bytes give `value`, the next counts `place`, and j is its offset
pub record Reading (s : List ℕ) (d : Read ℕ) (value place i j : ℕ) : Type 0 where
  pub short : i ≤ 9
  pub power : place ≡ 128 ^ i
  pub so_far : value < place
  pub same : d ≡ above value place (decode_in (9 - i) false (drop j s))

pub started : (s : List ℕ) (low at : ℕ) → low < 128 → Reading s (above low 128 (decode_in 8 false (drop at s))) low 128 1 at
started s low at h = record { short = omega arith; power = refl; so_far = h; same = refl }

-- a byte counts at most what a number of nine bytes has room for
pub fits-in : (value place i b : ℕ) → i < 9 → place ≡ 128 ^ i → value < place → b < 128 → value + place * b < 2 ^ 63
fits-in value place i b l p h hb =
    let m : place * suc b ≤ place * 128 = mul-le-mul_left place hb in
    let e : place * suc b ≡ place * b + place = rw (sym (add-one b), mul-add place b 1) (omega arith) in
    let q : 128 ^ suc i ≤ 128 ^ 9 = pow-le-pow_right {n = 128} (omega arith) {i = suc i} {j = 9} l in
    let r : place * 128 ≤ 128 ^ 9 = rw p (rw (pow-suc 128 i) at q) in
    omega arith

-- a number that ends before j + 1
pub finish : (s : List ℕ) (j v : ℕ) {d : Read ℕ} → j < length s → d ≡ got v (drop (suc j) s) → number_to v (j + 1) ≡ number_of itself (length s) d
finish s j v h e = rw (e, length-drop (suc j) s) (ap (number_to v) (omega arith))

module _ {s : List ℕ} {d : Read ℕ} {value place i j : ℕ} (w : Reading s d value place i j) where
  -- nine bytes with the top bit set
  pub all-nine : 9 ≤ i → Err NotShortest ≡ number_of itself (length s) d
  all-nine h = let none : 9 - i ≡ 0 = omega arith in rw (w.same, none, decode-out)

  -- the file ends
  pub ended : i < 9 → length s ≤ j → Err Cut ≡ number_of itself (length s) d
  ended l h = let fuel : 9 - i ≡ suc (8 - i) = omega arith in rw (w.same, fuel, drop_of_length-le s h, decode-none)

  module _ (l : i < 9) (h : j < length s) {b : ℕ} (q : b ≡ get_or s j 0) where
    fuel : 9 - i ≡ suc (8 - i)
    fuel = omega arith

    -- a last byte that is 0
    pub zero_last : b ≡ 0 → Err NotShortest ≡ number_of itself (length s) d
    zero_last z = rw (w.same, fuel, drop-cons s j 0 h, sym q, z, decode-zero (8 - i) (drop (suc j) s))

    -- a last byte
    pub «last» : b < 128 → (b ≡ 0 → ⊥) → number_to (value + place * b) (j + 1) ≡ number_of itself (length s) d
    «last» lb z = finish s j (value + place * b) h (w.same ∙ rw (fuel, drop-cons s j 0 h, sym q, decode-last (8 - i) b (drop (suc j) s) lb z))

    -- the same, by what it gives and where it ends
    pub last-as : {v m : ℕ} → value + place * b ≡ v → j + 1 ≡ m → b < 128 → (b ≡ 0 → ⊥) → number_to v m ≡ number_of itself (length s) d
    last-as ev em lb z = ap₂ number_to (sym ev) (sym em) ∙ «last» lb z

    -- a byte before others
    pub more : 128 ≤ b → Reading s d (value + place * (b % 128)) (place * 128) (i + 1) (j + 1)
    more lb = record {
      short = omega arith;
      power = rw (add-one i, pow-suc 128 i) (ap (λ (x : ℕ). x * 128) w.power);
      so_far = room;
      same = w.same ∙ rw (fuel, drop-cons s j 0 h, sym q, decode-more (8 - i) false b (drop (suc j) s) lb, above-more value place b, left, add-one j);
    }
      where
        room : value + place * (b % 128) < place * 128
        room =
            let m : place * suc (b % 128) ≤ place * 128 = mul-le-mul_left place (omega arith) in
            let e : place * suc (b % 128) ≡ place * (b % 128) + place = rw (sym (add-one (b % 128)), mul-add place (b % 128) 1) (omega arith) in
            omega (arith, w.so_far)

        left : 9 - (i + 1) ≡ 8 - i
        left = omega arith

-- the same reading, by its numbers in another form
pub moved : {s : List ℕ} {d : Read ℕ} {value place i j v p k m : ℕ} → value ≡ v → place ≡ p → i ≡ k → j ≡ m → Reading s d value place i j → Reading s d v p k m
moved ev ep ei ej w = rw (sym ev, sym ep, sym ei, sym ej) w

-- what is accepted is not refused
pub not-refused : (n : ℕ) (d : Read ℕ) {x : FileCause} → accepted d ≡ true → Err x ≡ number_of itself n d → ⊥
not-refused n (got v r) a e = let z : ◌≡◌ {A = ℕ} 0 1 = cc in omega arith
not-refused n (refused y) a e = false≢true a

-- it is there
pub is-there : (n : ℕ) (d : Read ℕ) → accepted d ≡ true → IsOk (number_of itself n d)
is-there n (got v r) a = refl
is-there n (refused x) a = absurd (false≢true a)

module _ {s : List ℕ} {d : Read ℕ} {value place i j : ℕ} (w : Reading s d value place i j) (a : accepted d ≡ true) (l : i < 9) where
  -- a number that stands there and goes on has a byte more
  pub there : j < length s
  there = go (dec_lt j (length s))
    where
      go : Dec (j < length s) → j < length s
      go (yes h) = h
      go (no h) = absurd (not-refused (length s) d a (ended w l (omega arith)))

  -- and its last byte is not 0
  pub not-zero : {b : ℕ} → b ≡ get_or s j 0 → b ≡ 0 → ⊥
  not-zero q z = not-refused (length s) d a (zero_last w l there q z)

-- the first byte: none, an only one, one before others
pub none-at : (s : List ℕ) (at : ℕ) → length s ≤ at → Err Cut ≡ number_at s at
none-at s at h = rw (drop_of_length-le s h, decode-none)

module _ (s : List ℕ) (at : ℕ) (h : at < length s) {b : ℕ} (q : b ≡ get_or s at 0) where
  pub only-at : b < 128 → number_to b (at + 1) ≡ number_at s at
  only-at l = let e : decode (drop at s) ≡ got b (drop (suc at) s) = rw (drop-cons s at 0 h, sym q) (decode-only 8 b (drop (suc at) s) l) in finish s at b h e

  pub more-at : 128 ≤ b → {r : Result NumberRead FileCause} → r ≡ number_of itself (length s) (above (b % 128) 128 (decode_in 8 false (drop (at + 1) s))) → r ≡ number_at s at
  more-at l e = e ∙ rw (drop-cons s at 0 h, sym q, decode-more 8 true b (drop (suc at) s) l, add-one at)

  -- one before others, by what it gives
  pub first-at : 128 ≤ b → Reading s (decode (drop at s)) (b % 128) 128 1 (at + 1)
  first-at l =
      record {
        short = omega arith;
        power = refl;
        so_far = omega arith;
        same = rw (drop-cons s at 0 h, sym q, decode-more 8 true b (drop (suc at) s) l, add-one at);
      }

  -- two before others
  pub second-at : 128 ≤ b → at + 1 < length s → {c : ℕ} → c ≡ get_or s (at + 1) 0 → 128 ≤ c → Reading s (decode (drop at s)) (b % 128 + 128 * (c % 128)) 16384 2 (at + 2)
  second-at l h2 q2 l2 = moved refl refl refl (omega arith) (more (first-at l) (omega arith) h2 q2 l2)

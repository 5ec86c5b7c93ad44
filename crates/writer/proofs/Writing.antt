-- How far a number has been written, how far a row of numbers, and each step of it. Assumes nothing.
use Prim.Native.Nat.{ℕ, zero, suc, ◌+◌, ◌-◌, ◌*◌, ◌/◌, ◌%◌, ◌^◌, ◌<◌, ◌≤◌}
use mathlib.Core.Path.{◌≡◌, refl, sym, ap, ◌∙◌}
use mathlib.Core.Bool.{Bool, true, false}
use mathlib.Core.List.{List, [], ◌∷◌, ◌++◌, append_assoc, append-nil}
use native.Mathlib.Omega.{arith}
use native.Mathlib.Numerals.{add-one}
use native.Mathlib.Nat.{div-lt_iff_lt-mul, pow-suc, pow-le-pow_right, one-le-pow}
use Rattle.std.proofs.lemmas.Nat.{pow-add}
use native.Mathlib.Decide.{dec_lt}
use borrow.Author.Tests.{lt-ltb, ltb-true}
use lib.ListN.{length, take, drop, set, get_or, length-append, length-set, length-drop, take-append-drop}
use lib.Seq.{take-suc, take-suc-set, drop-set-lt, drop-drop, length-take-le, take_at, drop_at}
use Rattle.std.proofs.Common.{Err}
use Rattle.quantity.specs.Lists.{all}
use Rattle.quantity.proofs.Lists.{all-none, all-more, all-in}
use Rattle.quantity.proofs.Tests.{and-both}
use Rattle.message.specs.Number.{fits_number, encode_in, encode, encode_all}
use Rattle.writer.specs.Writer.{sized, put_in}
use Rattle.message.specs.declared.FileCause.TheVariants.{TooLarge}
use Rattle.message.proofs.Numbers.{encode-short, encode-long, encode-some, encode-append}

-- the bytes `done` of n are written, and those of `left` follow
pub record Writing (n left k : ℕ) (done : List ℕ) : Type 0 where
  pub below : left < 128 ^ suc k
  pub same : encode n ≡ done ++ encode_in (suc k) left
  pub few : length done + k ≡ 8

started : (n : ℕ) → n < 2 ^ 63 → Writing n n 8 []
started n h = record { below = h; same = refl; few = refl }

-- a byte before others
data Stepped (n left : ℕ) (done : List ℕ) : Type 0 where
  stepped : (k : ℕ) → Writing n (left / 128) k (done ++ ((128 + left % 128) ∷ [])) → Stepped n left done

step : (n left k : ℕ) (done : List ℕ) → Writing n left k done → 128 ≤ left → Stepped n left done
step n left zero done w h = absurd (omega (arith, w.below))
step n left (suc k) done w h =
    stepped k (record {
      below = (div-lt_iff_lt-mul {k = 128} {x = left} {y = 128 ^ suc k} (omega arith)).1 (rw (pow-suc 128 (suc k)) at w.below);
      same = w.same ∙ rw (encode-long (suc k) left h) (sym (append_assoc done ((128 + left % 128) ∷ []) (encode_in (suc k) (left / 128))));
      few = omega (arith, w.few, length-append done ((128 + left % 128) ∷ []));
    })

module _ {n left k : ℕ} {done : List ℕ} (w : Writing n left k done) where
  ended : left < 128 → encode n ≡ done ++ (left ∷ [])
  ended h = w.same ∙ ap (λ (x : List ℕ). done ++ x) (encode-short k left h)

  pub ended-length : left < 128 → length (encode n) ≡ length done + 1
  ended-length h = ap length (ended h) ∙ length-append done (left ∷ [])

  room : length done + 1 ≤ length (encode n)
  room = omega (arith, encode-some k left, ap length w.same ∙ length-append done (encode_in (suc k) left))

-- the bytes so far
pub record Putting (out₀ : List ℕ) (at n : ℕ) (out : List ℕ) (left j : ℕ) : Type 0 where
  pub k : ℕ
  pub done : List ℕ
  pub writing : Writing n left k done
  pub place : j ≡ at + length done
  pub front : take j out ≡ take at out₀ ++ done
  pub back : drop j out ≡ drop j out₀
  pub long : length out ≡ length out₀

pub putting : (out₀ : List ℕ) (at n : ℕ) → n < 2 ^ 63 → Putting out₀ at n out₀ n at
putting out₀ at n h = record {
  k = 8;
  done = [];
  writing = started n h;
  place = omega arith;
  front = sym (append-nil (take at out₀));
  back = refl;
  long = refl;
}

module _ {out₀ : List ℕ} {at n : ℕ} {out : List ℕ} {left j : ℕ} (w : Putting out₀ at n out left j) (fits : at + length (encode n) ≤ length out₀) where
  pub in-out : j < length out
  in-out = omega (arith, w.place, w.long, room w.writing)

  after-front : (b : ℕ) → take (j + 1) (set out j b) ≡ take at out₀ ++ (w.done ++ (b ∷ []))
  after-front b = rw (add-one j, take-suc-set out j b in-out, w.front) (append_assoc (take at out₀) w.done (b ∷ []))

  after-back : (b : ℕ) → drop (j + 1) (set out j b) ≡ drop (j + 1) out₀
  after-back b =
      drop-set-lt (j + 1) out j b (omega arith)
      ∙ sym (drop-drop 1 j out)
      ∙ ap (λ (x : List ℕ). drop 1 x) w.back
      ∙ drop-drop 1 j out₀

  pub put-more : 128 ≤ left → Putting out₀ at n (set out j (128 + left % 128)) (left / 128) (j + 1)
  put-more h = go (step n left w.k w.done w.writing h)
    where
      go : Stepped n left w.done → Putting out₀ at n (set out j (128 + left % 128)) (left / 128) (j + 1)
      go (stepped k v) = record {
        k = k;
        done = _;
        writing = v;
        place = omega (arith, w.place, length-append w.done ((128 + left % 128) ∷ []));
        front = after-front (128 + left % 128);
        back = after-back (128 + left % 128);
        long = length-set out j (128 + left % 128) ∙ w.long;
      }

  pub put-last : left < 128 → (j + 1 ≡ at + length (encode n)) × (set out j left ≡ put_in out₀ at (encode n))
  put-last h = (end, sym (take-append-drop (j + 1) (set out j left)) ∙ rw (after-front left, after-back left, sym (ended w.writing h), end) (append_assoc (take at out₀) (encode n) (drop (at + length (encode n)) out₀)))
    where
      end : j + 1 ≡ at + length (encode n)
      end = omega (arith, w.place, ended-length w.writing h)

-- a number whose highest bit is bit b takes a byte for each seven bits up to there
pub bits-size : (k n b : ℕ) → b < 7 * k → 2 ^ b ≤ n → n < 2 * 2 ^ b → length (encode_in k n) ≡ b / 7 + 1
bits-size zero n b few low high = absurd (omega arith)
bits-size (suc k) n b few low high = go (dec_lt b 7) (bits-size k (n / 128) (b - 7))
  where
    go : Dec (b < 7) → (b - 7 < 7 * k → 2 ^ (b - 7) ≤ n / 128 → n / 128 < 2 * 2 ^ (b - 7) → length (encode_in k (n / 128)) ≡ (b - 7) / 7 + 1) →
        length (encode_in (suc k) n) ≡ b / 7 + 1
    go (yes h) ih =
        let small : 2 ^ b ≤ 2 ^ 6 = pow-le-pow_right {n = 2} (omega arith) {i = b} {j = 6} (omega arith) in
        rw (encode-short k n (omega arith)) (omega arith)
    go (no h) ih =
        let split : (b - 7) + 7 ≡ b = omega arith in
        let power : 2 ^ b ≡ 2 ^ (b - 7) * 128 = sym (ap (λ (i : ℕ). 2 ^ i) split) ∙ pow-add 2 (b - 7) 7 in
        let some : 1 ≤ 2 ^ (b - 7) = one-le-pow (b - 7) 2 (omega arith) in
        rw (encode-long k n (omega arith)) (omega (arith, ih (omega arith) (omega arith) (omega arith)))

-- a number takes nine bytes at most
few-in : (k n : ℕ) → length (encode_in k n) ≤ k
unfolding encode_in
few-in zero n = omega arith
few-in (suc k) n = go (dec_lt n 128) (few-in k (n / 128))
  where
    go : Dec (n < 128) → length (encode_in k (n / 128)) ≤ k → length (encode_in (suc k) n) ≤ suc k
    go (yes h) ih = rw (encode-short k n h) (omega arith)
    go (no h) ih = rw (encode-long k n (omega arith)) (omega arith)

pub nine : (n : ℕ) → length (encode n) ≤ 9
nine n = few-in 9 n

encode-one : (x : ℕ) → encode_all (x ∷ []) ≡ encode x
unfolding encode_all
encode-one x = append-nil (encode x)

-- one number more of a row
module _ (l : List ℕ) (i x : ℕ) (h : i < length l) (e : x ≡ get_or l i 0) where
  pub row-more : encode_all (take (i + 1) l) ≡ encode_all (take i l) ++ encode x
  row-more = rw (add-one i, take-suc l i 0 h, sym e, encode-append (take i l) (x ∷ []), encode-one x)

  pub row-length : length (encode_all (take (i + 1) l)) ≡ length (encode_all (take i l)) + length (encode x)
  row-length = ap length row-more ∙ length-append (encode_all (take i l)) (encode x)

pub row-fits : (l : List ℕ) (i x : ℕ) → all fits_number l ≡ true → i < length l → x ≡ get_or l i 0 → x < 2 ^ 63
row-fits l i x a h e = ltb-true x (2 ^ 63) (ap fits_number e ∙ all-in fits_number l i 0 a h)

-- the first i numbers of a row fit, and take so many bytes
pub record Sizing (l : List ℕ) (size i : ℕ) : Type 0 where
  pub inside : i ≤ length l
  pub fits : all fits_number (take i l) ≡ true
  pub bytes : size ≡ length (encode_all (take i l))
  pub few : size ≤ 9 * i

pub sizing : (l : List ℕ) → Sizing l 0 0
unfolding encode_all
sizing l = record { inside = omega arith; fits = sym (all-none fits_number l); bytes = refl; few = omega arith }

module _ {l : List ℕ} {size i : ℕ} (w : Sizing l size i) where
  pub sized-more : {x m : ℕ} → i < length l → x ≡ get_or l i 0 → x < 2 ^ 63 → m ≡ length (encode x) → Sizing l (size + m) (i + 1)
  sized-more {x} {m} h e k q = record {
    inside = omega arith;
    fits = sym (all-more fits_number l i 0 h) ∙ and-both _ _ w.fits (rw (sym e) (lt-ltb x (2 ^ 63) k));
    bytes = omega (arith, w.bytes, row-length l i x h e);
    few = omega (arith, w.few, nine x);
  }

  pub sized-not : {x : ℕ} → i < length l → x ≡ get_or l i 0 → 2 ^ 63 ≤ x → Err TooLarge ≡ sized (all fits_number l) l
  sized-not {x} h e k = go (all fits_number l) refl
    where
      go : (t : Bool) → all fits_number l ≡ t → Err TooLarge ≡ sized t l
      go true a = absurd (omega (arith, row-fits l i x a h e))
      go false a = refl

-- the first i numbers of a row are written from `at` on, up to j
pub record Placing (l out₀ : List ℕ) (at : ℕ) (out : List ℕ) (j i : ℕ) : Type 0 where
  pub inside : i ≤ length l
  pub place : j ≡ at + length (encode_all (take i l))
  pub bytes : out ≡ put_in out₀ at (encode_all (take i l))

pub put-none : (out : List ℕ) (at : ℕ) → out ≡ put_in out at []
put-none out at = let e : at + 0 ≡ at = omega arith in rw e (sym (take-append-drop at out))

pub placing : (l out₀ : List ℕ) (at : ℕ) → Placing l out₀ at out₀ at 0
unfolding encode_all
placing l out₀ at = record { inside = omega arith; place = omega arith; bytes = put-none out₀ at }

-- bytes behind bytes
pub put-put : (out : List ℕ) (at : ℕ) (a b : List ℕ) → at + length a ≤ length out → put_in (put_in out at a) (at + length a) b ≡ put_in out at (a ++ b)
put-put out at a b h =
    let front : List ℕ = take at out in
    let n : length front ≡ at = length-take-le at out (omega arith) in
    let m : length (front ++ a) ≡ at + length a = length-append front a ∙ ap (λ (k : ℕ). k + length a) n in
    let back : List ℕ = drop (at + length a) out in
    let whole : put_in out at a ≡ (front ++ a) ++ back = sym (append_assoc front a back) in
    let e : at + (length a + length b) ≡ at + length a + length b = omega arith in
    rw (whole, take_at (front ++ a) back (at + length a) m, sym (drop-drop (length b) (at + length a) ((front ++ a) ++ back)), drop_at (front ++ a) back (at + length a) m, drop-drop (length b) (at + length a) out, length-append a b, e, append_assoc a b) (append_assoc front a _)

pub put-length : (out : List ℕ) (at : ℕ) (a : List ℕ) → at + length a ≤ length out → length (put_in out at a) ≡ length out
put-length out at a h =
    rw (length-append, length-append, length-take-le at out (omega arith), length-drop) (omega arith)

module _ {l out₀ : List ℕ} {at : ℕ} {out : List ℕ} {j i : ℕ} (w : Placing l out₀ at out j i) (room : at + length (encode_all l) ≤ length out₀) where
  before-all : (k : ℕ) → length (encode_all (take k l)) ≤ length (encode_all l)
  before-all k =
      omega (arith, ap length (ap encode_all (sym (take-append-drop k l)) ∙ encode-append (take k l) (drop k l)) ∙ length-append (encode_all (take k l)) (encode_all (drop k l)))

  pub placed-length : length out ≡ length out₀
  placed-length = ap length w.bytes ∙ put-length out₀ at (encode_all (take i l)) (omega (arith, before-all i))

  pub row-room : {x : ℕ} → i < length l → x ≡ get_or l i 0 → j + length (encode x) ≤ length out
  row-room {x} h e =
      omega (arith, w.place, row-length l i x h e, before-all (i + 1), placed-length)

  pub placed-more : {x m : ℕ} {next : List ℕ} → i < length l → x ≡ get_or l i 0 → m ≡ j + length (encode x) → next ≡ put_in out j (encode x) → Placing l out₀ at next m (i + 1)
  placed-more {x} {m} {next} h e p q = record {
    inside = omega arith;
    place = omega (arith, w.place, row-length l i x h e);
    bytes = q ∙ rw (w.bytes, w.place, put-put out₀ at (encode_all (take i l)) (encode x) (omega (arith, before-all i)), sym (row-more l i x h e));
  }

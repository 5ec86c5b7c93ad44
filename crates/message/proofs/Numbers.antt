-- Laws of numbers: what was written is read, what is read was written so, for one number and for a row of them. Assumes nothing.
use Prim.Native.Nat.{ℕ, zero, suc, ◌+◌, ◌*◌, ◌/◌, ◌%◌, ◌^◌, ◌<◌, ◌≤◌}
use mathlib.Core.Path.{◌≡◌, refl, sym, ap, ◌∙◌}
use mathlib.Core.Bool.{Bool, true, false, cond, true≢false}
use mathlib.Core.List.{List, [], ◌∷◌, ◌++◌, append_assoc}
use native.Mathlib.Omega.{arith}
use native.Mathlib.Decide.{dec_lt}
use native.Mathlib.Nat.{div-lt_iff_lt-mul, pow-suc, pow-succ', pow-le-pow_right, pos_of_ne-zero}
use borrow.Author.Tests.{lt-ltb, le-ltb, ne_eqb, ltb-true, ltb-false, eqb-false}
use lib.Dec.{ltb, eqb}
use lib.ListN.{length}
use Rattle.quantity.specs.Lists.{all}
use Rattle.quantity.proofs.Lists.{all-append}
use Rattle.quantity.proofs.Tests.{and-left, and-right, and-both}
use Rattle.message.specs.Read.{got, refused, onward}
use Rattle.message.specs.Number.{are_bytes, fits_number, above, last_byte, decode_in, decode, encode_in, encode, numbers_in, encode_all}
use Rattle.message.specs.declared.FileCause.TheVariants.{Cut, NotShortest}
use Rattle.message.proofs.Parsers.{refused-got, Came, came, comes, Behind, behind-none, behind-both, behind-less}

-- decoding and encoding, a case at a time
pub decode-none : (k : ℕ) (first : Bool) → decode_in (suc k) first [] ≡ refused Cut
unfolding decode_in
decode-none k first = refl

pub decode-out : (first : Bool) (s : List ℕ) → decode_in 0 first s ≡ refused NotShortest
unfolding decode_in
decode-out first s = refl

pub decode-only : (k b : ℕ) (s : List ℕ) → b < 128 → decode_in (suc k) true (b ∷ s) ≡ got b s
unfolding decode_in
decode-only k b s l = rw (lt-ltb b 128 l)

pub decode-zero : (k : ℕ) (s : List ℕ) → decode_in (suc k) false (0 ∷ s) ≡ refused NotShortest
unfolding decode_in
decode-zero k s = refl

pub decode-last : (k b : ℕ) (s : List ℕ) → b < 128 → (b ≡ 0 → ⊥) → decode_in (suc k) false (b ∷ s) ≡ got b s
unfolding decode_in
decode-last k b s l n = rw (lt-ltb b 128 l, ne_eqb b 0 n)

pub decode-more : (k : ℕ) (first : Bool) (b : ℕ) (s : List ℕ) → 128 ≤ b → decode_in (suc k) first (b ∷ s) ≡ above (b % 128) 128 (decode_in k false s)
unfolding decode_in
decode-more k first b s l = rw (le-ltb b 128 l)

pub encode-short : (k n : ℕ) → n < 128 → encode_in (suc k) n ≡ n ∷ []
unfolding encode_in
encode-short k n l = rw (lt-ltb n 128 l)

pub encode-long : (k n : ℕ) → 128 ≤ n → encode_in (suc k) n ≡ (128 + n % 128) ∷ encode_in k (n / 128)
unfolding encode_in
encode-long k n l = rw (le-ltb n 128 l)

-- how a number that was read came about: by a last byte, or by a byte before others
data Digits (k b : ℕ) (first : Bool) (s : List ℕ) (v : ℕ) (r : List ℕ) : Type 0 where
  at-last : b < 128 → v ≡ b → r ≡ s → (first ≡ false → 0 < b) → Digits k b first s v r
  at-more : (u : ℕ) → 128 ≤ b → decode_in k false s ≡ got u r → v ≡ b % 128 + 128 * u → Digits k b first s v r

digits : (k b : ℕ) (first : Bool) (s : List ℕ) {v : ℕ} {r : List ℕ} → decode_in (suc k) first (b ∷ s) ≡ got v r → Digits k b first s v r
unfolding decode_in
digits k b first s {v} {r} e = test (ltb b 128) refl e
  where
    one : (f : Bool) → ltb b 128 ≡ true → last_byte f b s ≡ got v r → Digits k b f s v r
    one true t e = at-last (ltb-true b 128 t) (cc) (cc) (λ z. absurd (true≢false z))
    one false t e = zeros (eqb b 0) refl e
      where
        zeros : (z : Bool) → eqb b 0 ≡ z → cond z (refused NotShortest) (got b s) ≡ got v r → Digits k b false s v r
        zeros true q e = absurd (refused-got e)
        zeros false q e = at-last (ltb-true b 128 t) (cc) (cc) (λ z. pos_of_ne-zero (eqb-false b 0 q))

    two : ltb b 128 ≡ false → Came (decode_in k false s) (λ (u : ℕ) (q : List ℕ). got (b % 128 + 128 * u) q) v r → Digits k b first s v r
    two l (came u q d e) = at-more u (ltb-false b 128 l) (cc) (cc)

    test : (t : Bool) → ltb b 128 ≡ t → cond t (last_byte first b s) (above (b % 128) 128 (decode_in k false s)) ≡ got v r → Digits k b first s v r
    test true q e = one first q e
    test false q e = two q (comes (decode_in k false s) (λ (u : ℕ) (p : List ℕ). got (b % 128 + 128 * u) p) e)

pow-pos-128 : (k : ℕ) → 0 < 128 ^ k
pow-pos-128 k = pow-le-pow_right {n = 128} (omega arith) {i = 0} {j = k} (omega arith)

less : (k b v : ℕ) → v < 128 ^ k → b % 128 + 128 * v < 128 ^ suc k
less k b v h = rw pow-succ' (omega arith)

low : (k b : ℕ) → b < 128 → b < 128 ^ suc k
low k b h = rw pow-succ' (omega (arith, pow-pos-128 k))

-- a number of at most k bytes is below 128 ^ k
below : (k : ℕ) (first : Bool) (s : List ℕ) {v : ℕ} {r : List ℕ} → decode_in k first s ≡ got v r → v < 128 ^ k
unfolding decode_in
below zero first s e = absurd (refused-got e)
below (suc k) first [] e = absurd (refused-got e)
below (suc k) first (b ∷ s) {v} {r} e = by (digits k b first s e) (λ u. below k false s)
  where
    by : Digits k b first s v r → ((u : ℕ) → decode_in k false s ≡ got u r → u < 128 ^ k) → v < 128 ^ suc k
    by (at-last h q _ _) ih = rw q (low k b h)
    by (at-more u h q p) ih = rw p (less k b u (ih u q))

-- what was written is read
short : (k : ℕ) (first : Bool) (n : ℕ) (t : List ℕ) → n < 128 → (first ≡ false → 0 < n) → decode_in (suc k) first (encode_in (suc k) n ++ t) ≡ got n t
short k true n t l f = rw (encode-short k n l) (decode-only k n t l)
short k false n t l f = rw (encode-short k n l) (decode-last k n t l (λ e. omega (arith, f refl)))

reads : (k : ℕ) (first : Bool) (n : ℕ) (t : List ℕ) → n < 128 ^ suc k → (first ≡ false → 0 < n) → decode_in (suc k) first (encode_in (suc k) n ++ t) ≡ got n t
reads zero first n t h f = short zero first n t h f
reads (suc k) first n t h f = test (dec_lt n 128) (reads k false (n / 128) t)
  where
    test : Dec (n < 128) →
        (n / 128 < 128 ^ suc k → (false ≡ false → 0 < n / 128) → decode_in (suc k) false (encode_in (suc k) (n / 128) ++ t) ≡ got (n / 128) t) →
        decode_in (suc (suc k)) first (encode_in (suc (suc k)) n ++ t) ≡ got n t
    test (yes l) ih = short (suc k) first n t l f
    test (no g) ih =
        let l : 128 ≤ n = omega arith in
        let b : n / 128 < 128 ^ suc k = (div-lt_iff_lt-mul {k = 128} {x = n} {y = 128 ^ suc k} (omega arith)).1 (rw (pow-suc 128 (suc k)) at h) in
        rw (encode-long (suc k) n l, decode-more (suc k) first (128 + n % 128) (encode_in (suc k) (n / 128) ++ t) (omega arith), ih b (λ z. omega arith))
        (ap (λ (v : ℕ). got v t) (omega arith))

-- what is read was written so: the bytes before the rest are those of the number
writes : (k : ℕ) (first : Bool) (s : List ℕ) {v : ℕ} {r : List ℕ} → are_bytes s ≡ true → decode_in k first s ≡ got v r →
    (s ≡ encode_in k v ++ r) × (first ≡ false → 0 < v)
unfolding decode_in all
writes zero first s bs e = absurd (refused-got e)
writes (suc k) first [] bs e = absurd (refused-got e)
writes (suc k) first (b ∷ s) {v} {r} bs e = by (digits k b first s e) (λ u. writes k false s (and-right (ltb b 256) (are_bytes s) bs))
  where
    hb : b < 256
    hb = ltb-true b 256 (and-left (ltb b 256) (are_bytes s) bs)

    by : Digits k b first s v r → ((u : ℕ) → decode_in k false s ≡ got u r → (s ≡ encode_in k u ++ r) × (false ≡ false → 0 < u)) →
        (b ∷ s ≡ encode_in (suc k) v ++ r) × (first ≡ false → 0 < v)
    by (at-last h q p f) ih = (rw (encode-short k v (rw q h)) (cc), λ z. rw q (f z))
    by (at-more u h q p) ih =
        let w = ih u q in
        let pos : 0 < u = w.1 refl in
        let hd : 128 + v % 128 ≡ b = omega (arith, hb) in
        let tl : v / 128 ≡ u = omega arith in
        (rw (encode-long k v (omega arith), hd, tl) (ap (λ (x : List ℕ). b ∷ x) w.0), λ z. omega arith)

-- the laws of one number
pub decode-encode : (n : ℕ) (t : List ℕ) → fits_number n ≡ true → decode (encode n ++ t) ≡ got n t
decode-encode n t h = reads 8 true n t (ltb-true n (2 ^ 63) h) (λ z. absurd (true≢false z))

pub encode-decode : (s : List ℕ) {v : ℕ} {r : List ℕ} → are_bytes s ≡ true → decode s ≡ got v r → s ≡ encode v ++ r
encode-decode s bs e = (writes 9 true s bs e).0

pub decode-fits : (s : List ℕ) {v : ℕ} {r : List ℕ} → decode s ≡ got v r → fits_number v ≡ true
decode-fits s {v} e = lt-ltb v (2 ^ 63) (below 9 true s e)

decode-in-behind : (k : ℕ) (first : Bool) (s : List ℕ) {v : ℕ} {r : List ℕ} → decode_in k first s ≡ got v r → Behind 1 s r
unfolding decode_in
decode-in-behind zero first s e = absurd (refused-got e)
decode-in-behind (suc k) first [] e = absurd (refused-got e)
decode-in-behind (suc k) first (b ∷ s) {v} {r} e = step (digits k b first s e) (λ u. decode-in-behind k false s)
  where
    step : Digits k b first s v r → ((u : ℕ) → decode_in k false s ≡ got u r → Behind 1 s r) → Behind 1 (b ∷ s) r
    step (at-last h q p f) ih = record { used = 1; rest = p; some = omega arith; inside = omega arith }
    step (at-more u h q p) ih =
        let w = ih u q in
        record { used = suc w.used; rest = w.rest; some = omega arith; inside = omega (arith, w.inside) }

pub decode-behind : (s : List ℕ) {v : ℕ} {r : List ℕ} → decode s ≡ got v r → Behind 1 s r
decode-behind s e = decode-in-behind 9 true s e

decode-in-few : (k : ℕ) (first : Bool) (s : List ℕ) {v : ℕ} {r : List ℕ} → decode_in k first s ≡ got v r → length s ≤ length r + k
unfolding decode_in
decode-in-few zero first s e = absurd (refused-got e)
decode-in-few (suc k) first [] e = absurd (refused-got e)
decode-in-few (suc k) first (b ∷ s) {v} {r} e = step (digits k b first s e) (λ u. decode-in-few k false s)
  where
    step : Digits k b first s v r → ((u : ℕ) → decode_in k false s ≡ got u r → length s ≤ length r + k) → length (b ∷ s) ≤ length r + suc k
    step (at-last h q p f) ih = omega (arith, ap length p)
    step (at-more u h q p) ih = omega (arith, ih u q)

-- nine bytes at most
pub decode-few : (s : List ℕ) {v : ℕ} {r : List ℕ} → decode s ≡ got v r → length s ≤ length r + 9
decode-few s e = decode-in-few 9 true s e

pub encode-some : (k n : ℕ) → 1 ≤ length (encode_in (suc k) n)
encode-some k n = go (dec_lt n 128)
  where
    go : Dec (n < 128) → 1 ≤ length (encode_in (suc k) n)
    go (yes h) = rw (encode-short k n h) (omega arith)
    go (no h) = rw (encode-long k n (omega arith)) (omega arith)

-- the laws of a row of numbers
pub encode-append : (a b : List ℕ) → encode_all (a ++ b) ≡ encode_all a ++ encode_all b
unfolding encode_all
encode-append [] b = refl
encode-append (x ∷ a) b = rw (encode-append a b) (sym (append_assoc (encode x) (encode_all a) (encode_all b)))

pub numbers-encode : (vs t : List ℕ) → all fits_number vs ≡ true → numbers_in (length vs) (encode_all vs ++ t) ≡ got vs t
unfolding numbers_in encode_all all
numbers-encode [] t h = refl
numbers-encode (v ∷ vs) t h =
    rw (append_assoc (encode v) (encode_all vs) t, decode-encode v (encode_all vs ++ t) (and-left (fits_number v) (all fits_number vs) h), numbers-encode vs t (and-right (fits_number v) (all fits_number vs) h))

pub bytes-rest : (a r : List ℕ) → are_bytes (a ++ r) ≡ true → are_bytes r ≡ true
bytes-rest a r h = and-right (are_bytes a) (are_bytes r) (sym (all-append (λ (b : ℕ). ltb b 256) a r) ∙ h)

-- how a row of one number more came about
data Row (n : ℕ) (s vs r : List ℕ) : Type 0 where
  row : (v : ℕ) (us q : List ℕ) → decode s ≡ got v q → numbers_in n q ≡ got us r → vs ≡ v ∷ us → Row n s vs r

rows : (n : ℕ) (s : List ℕ) {vs r : List ℕ} → numbers_in (suc n) s ≡ got vs r → Row n s vs r
unfolding numbers_in
rows n s {vs} {r} e = first (comes (decode s) _ e)
  where
    second : (v : ℕ) (q : List ℕ) → decode s ≡ got v q → Came (numbers_in n q) (λ (us p : List ℕ). got (v ∷ us) p) vs r → Row n s vs r
    second v q d (came us p m e) = row v us q d (cc) (cc)

    first : Came (decode s) (λ (v : ℕ) (q : List ℕ). onward (numbers_in n q) (λ (us p : List ℕ). got (v ∷ us) p)) vs r → Row n s vs r
    first (came v q d e) = second v q d (comes (numbers_in n q) _ e)

pub record RowRead (n : ℕ) (s vs r : List ℕ) : Type 0 where
  pub count : length vs ≡ n
  pub fits : all fits_number vs ≡ true
  pub behind : Behind n s r

pub numbers-read : (n : ℕ) (s : List ℕ) {vs r : List ℕ} → numbers_in n s ≡ got vs r → RowRead n s vs r
unfolding numbers_in all
numbers-read zero s {vs} {r} e =
    let z : [] ≡ vs = cc in
    let w : s ≡ r = cc in
    rw (sym z, sym w) (record { count = refl; fits = refl; behind = behind-none s })
numbers-read (suc n) s {vs} {r} e = step (rows n s e) (λ us q. numbers-read n q)
  where
    step : Row n s vs r → ((us q : List ℕ) → numbers_in n q ≡ got us r → RowRead n q us r) → RowRead (suc n) s vs r
    step (row v us q d m z) ih =
        let w = ih us q m in
        rw z (record {
          count = ap suc w.count;
          fits = and-both (fits_number v) (all fits_number us) (decode-fits s d) w.fits;
          behind = behind-less (1 + n) (suc n) (omega arith) (behind-both 1 n (decode-behind s d) w.behind);
        })

pub numbers-written : (n : ℕ) (s : List ℕ) {vs r : List ℕ} → are_bytes s ≡ true → numbers_in n s ≡ got vs r → s ≡ encode_all vs ++ r
unfolding numbers_in encode_all
numbers-written zero s {vs} {r} bs e =
    let z : [] ≡ vs = cc in
    let w : s ≡ r = cc in
    rw (sym z) w
numbers-written (suc n) s {vs} {r} bs e = step (rows n s e) (λ us q. numbers-written n q)
  where
    step : Row n s vs r → ((us q : List ℕ) → are_bytes q ≡ true → numbers_in n q ≡ got us r → q ≡ encode_all us ++ r) → s ≡ encode_all vs ++ r
    step (row v us q d m z) ih =
        let w : s ≡ encode v ++ q = encode-decode s bs d in
        let i : q ≡ encode_all us ++ r = ih us q (bytes-rest (encode v) q (rw w at bs)) m in
        w ∙ rw (z, append_assoc (encode v) (encode_all us) r) (ap (λ (x : List ℕ). encode v ++ x) i)

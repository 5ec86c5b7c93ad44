-- What is read of any bytes, in the papers' words: numbers, a submission's energies, a call, and the cause of each refusal. Assumes nothing.
use Prim.Native.Nat.{ℕ, zero, suc, ◌+◌, ◌-◌, ◌*◌, ◌/◌, ◌%◌, ◌^◌, ◌<◌, ◌≤◌}
use mathlib.Core.Path.{◌≡◌, refl, sym, ap, ◌∙◌}
use mathlib.Core.Bool.{Bool, true, false, cond, false≢true}
use mathlib.Core.List.{List, [], ◌∷◌, ◌++◌, map}
use native.Mathlib.Omega.{arith}
use native.Mathlib.Decide.{dec_lt, ℕ_discrete}
use native.Mathlib.Nat.{div-lt_iff_lt-mul, pow-suc}
use borrow.Author.Tests.{ltb-true, lt-ltb, le-ltb, ne_eqb}
use lib.Dec.{ltb}
use lib.IntN.{ℤ}
use lib.ListN.{length, get_or, take, drop, take-append-drop}
use Rattle.quantity.specs.Lists.{all}
use Rattle.quantity.proofs.Tests.{and-left, and-right}
use Rattle.message.specs.Laws.{Groups, last, more, Below, GoOn, ReadsNumber, number, cut, padded, ninth, ReadsNumbers, none, one, stops, later, ReadsSeries, form, many, room-short, energy, filled, ReadsCall, form as kind-form, kind, field, call, series, submission, EndsFile, at-end, at-refusal}
use Rattle.message.specs.Call.{Sent, is_kind, fields_of, series_in, energies_in, tail_in, body_in, kind_in, parse}
use Rattle.message.specs.Energy.{received}
use Rattle.message.specs.File.{Found, calls_in}
use Rattle.message.specs.Number.{are_bytes, above, decode_in, decode, encode_in, encode, numbers_in}
use Rattle.message.specs.Read.{Read, got, refused, onward}
use Rattle.message.specs.declared.FileCause.TheVariants.{Cut, NotShortest, BadKind, TooLarge, NoRoom}
use Rattle.message.proofs.Carrying.{has-fields}
use Rattle.message.proofs.Fields.{eight-kinds}
use Rattle.message.proofs.Files.{by-calls}
use Rattle.message.proofs.Parsers.{Behind}
use Rattle.message.proofs.Numbers.{encode-short, encode-long, decode-none, decode-out, decode-only, decode-zero, decode-last, decode-more, decode-fits, decode-behind, bytes-rest, numbers-read}

-- "shortest form" of a number below 128 ^ (k + 1)
groups-in : (k n : ℕ) → n < 128 ^ suc k → Groups (encode_in (suc k) n) n
groups-in zero n h = rw (encode-short zero n h) (last n h)
groups-in (suc k) n h = go (dec_lt n 128) (groups-in k (n / 128))
  where
    go : Dec (n < 128) → (n / 128 < 128 ^ suc k → Groups (encode_in (suc k) (n / 128)) (n / 128)) → Groups (encode_in (suc (suc k)) n) n
    go (yes l) ih = rw (encode-short (suc k) n l) (last n l)
    go (no g) ih =
        let b : n / 128 < 128 ^ suc k = (div-lt_iff_lt-mul {k = 128} {x = n} {y = 128 ^ suc k} (omega arith)).1 (rw (pow-suc 128 (suc k)) at h) in
        let same : 128 + n % 128 - 128 + 128 * (n / 128) ≡ n = omega arith in
        rw (encode-long (suc k) n (omega arith)) (rw same at (more (128 + n % 128) (omega arith, omega arith) (ih b) (omega arith)))

-- a number's bytes
pub number-bytes : (n : ℕ) → Below n → Groups (encode n) n
number-bytes n h = groups-in 8 n h

-- what is read in at most so many bytes, the first of a number or later ones
data Reading (most : ℕ) (first : Bool) (s : List ℕ) : Read ℕ → Type 0 where
  found : (bytes left : List ℕ) {v : ℕ} → s ≡ bytes ++ left → Groups bytes v → (first ≡ false → 0 < v) → Reading most first s (got v left)
  ends : length s < most → GoOn (length s) s → Reading most first s (refused Cut)
  zeros : (n : ℕ) → n < most → n < length s → GoOn n s → get_or s n 0 ≡ 0 → (first ≡ true → 1 ≤ n) → Reading most first s (refused NotShortest)
  long : most ≤ length s → GoOn most s → Reading most first s (refused NotShortest)

goes : (b n : ℕ) (s : List ℕ) → 128 ≤ b → GoOn n s → GoOn (suc n) (b ∷ s)
goes b n s h g zero l = h
goes b n s h g (suc i) l = g i (omega arith)

reading : (most : ℕ) (first : Bool) (s : List ℕ) → are_bytes s ≡ true → Reading most first s (decode_in most first s)
unfolding all
reading zero first s bytes = rw (decode-out first s) (long (omega arith) (λ i h. absurd (omega arith)))
reading (suc k) first [] bytes = rw (decode-none k first) (ends (omega arith) (λ i h. absurd (omega arith)))
reading (suc k) first (b ∷ s) bytes = go (dec_lt b 128) first (reading k false s (and-right (ltb b 256) (are_bytes s) bytes))
  where
    small : b < 256
    small = ltb-true b 256 (and-left (ltb b 256) (are_bytes s) bytes)

    further : 128 ≤ b → (first : Bool) (d : Read ℕ) → Reading k false s d → Reading (suc k) first (b ∷ s) (above (b % 128) 128 d)
    further h first d (found l left {v} e g p) =
        let same : b - 128 + 128 * v ≡ b % 128 + 128 * v = omega (arith, small) in
        found (b ∷ l) left (ap (λ (x : List ℕ). b ∷ x) e) (rw same at (more b (omega arith, omega (arith, small)) g (p refl))) (λ z. omega (arith, p refl))
    further h first d (ends l g) = ends (omega arith) (goes b (length s) s h g)
    further h first d (zeros n l m g z p) = zeros (suc n) (omega arith) (omega arith) (goes b n s h g) z (λ q. omega arith)
    further h first d (long l g) = long (omega arith) (goes b k s h g)

    go : Dec (b < 128) → (first : Bool) → Reading k false s (decode_in k false s) → Reading (suc k) first (b ∷ s) (decode_in (suc k) first (b ∷ s))
    go (yes l) true r = rw (decode-only k b s l) (found (b ∷ []) s refl (last b l) (λ z. absurd (false≢true (sym z))))
    go (yes l) false r = zero-or (ℕ_discrete b 0)
      where
        zero-or : Dec (b ≡ 0) → Reading (suc k) false (b ∷ s) (decode_in (suc k) false (b ∷ s))
        zero-or (yes e) = rw (e, decode-zero k s) (zeros 0 (omega arith) (omega arith) (λ i h. absurd (omega arith)) refl (λ z. absurd (false≢true z)))
        zero-or (no n) = rw (decode-last k b s l n) (found (b ∷ []) s refl (last b l) (λ z. omega (arith, n)))
    go (no n) first r = rw (decode-more k first b s (omega arith)) (further (omega arith) first (decode_in k false s) r)

-- the number at the head of any bytes, or 31, or 32
pub reads-number : (s : List ℕ) → are_bytes s ≡ true → ReadsNumber s (decode s)
reads-number s bytes = go (decode s) refl (reading 9 true s bytes)
  where
    go : (d : Read ℕ) → decode s ≡ d → Reading 9 true s d → ReadsNumber s d
    go d e (found l left {v} q g p) = number l left q g (ltb-true v (2 ^ 63) (decode-fits s e))
    go d e (ends l g) = cut refl l g
    go d e (zeros n l m g z p) = padded n refl (p refl, omega arith) m g z
    go d e (long l g) = ninth refl l g

-- what is behind bytes that were read is bytes
bytes-behind : {least : ℕ} (s : List ℕ) {r : List ℕ} → are_bytes s ≡ true → Behind least s r → are_bytes r ≡ true
bytes-behind s bytes b = rw b.rest (bytes-rest (take b.used s) (drop b.used s) (rw (take-append-drop b.used s) bytes))

-- so many numbers at the head of any bytes, or the refusal of the first that is none
pub reads-numbers : (n : ℕ) (s : List ℕ) → are_bytes s ≡ true → ReadsNumbers n s (numbers_in n s)
unfolding numbers_in
reads-numbers zero s bytes = none
reads-numbers (suc n) s bytes = go (decode s) refl (reads-number s bytes) (λ r. reads-numbers n r)
  where
    second : {v : ℕ} {r : List ℕ} → ReadsNumber s (got v r) → (d : Read (List ℕ)) → ReadsNumbers n r d → ReadsNumbers (suc n) s (onward d (λ (vs q : List ℕ). got (v ∷ vs) q))
    second h (got vs q) w = one h w
    second h (refused x) w = later h w

    go : (d : Read ℕ) → decode s ≡ d → ReadsNumber s d → ((r : List ℕ) → are_bytes r ≡ true → ReadsNumbers n r (numbers_in n r)) →
        ReadsNumbers (suc n) s (onward d (λ (v : ℕ) (r : List ℕ). onward (numbers_in n r) (λ (vs q : List ℕ). got (v ∷ vs) q)))
    go (got v r) e h ih = second h (numbers_in n r) (ih r (bytes-behind s bytes (decode-behind s e)))
    go (refused x) e h ih = stops h

-- a submission's energies
pub reads-series : (room : ℕ) (s : List ℕ) → are_bytes s ≡ true → ReadsSeries room s (series_in room s)
reads-series room s bytes = go (decode s) refl (reads-number s bytes)
  where
    energies : {n : ℕ} {r : List ℕ} → ReadsNumber s (got n r) → n ≤ 2980 → n ≤ room → (d : Read (List ℕ)) → ReadsNumbers n r d →
        ReadsSeries room s (onward d (λ (us q : List ℕ). got (map received us) q))
    energies h few roomy (got us q) w = filled h few roomy w
    energies h few roomy (refused x) w = energy h few roomy w

    counted : (n : ℕ) (r : List ℕ) → decode s ≡ got n r → ReadsNumber s (got n r) → Dec (2980 < n) → Dec (room < n) →
        ReadsSeries room s (onward (cond (ltb 2980 n) (refused TooLarge) (cond (ltb room n) (refused NoRoom) (got n r))) energies_in)
    counted n r e h (yes a) d = rw (lt-ltb 2980 n a) (many h refl a)
    counted n r e h (no a) (yes b) = rw (le-ltb 2980 n (omega arith), lt-ltb room n b) (room-short h refl (omega arith) b)
    counted n r e h (no a) (no b) =
        rw (le-ltb 2980 n (omega arith), le-ltb room n (omega arith))
        (energies h (omega arith) (omega arith) (numbers_in n r) (reads-numbers n r (bytes-behind s bytes (decode-behind s e))))

    go : (d : Read ℕ) → decode s ≡ d → ReadsNumber s d →
        ReadsSeries room s (onward (onward d (λ (n : ℕ) (r : List ℕ). cond (ltb 2980 n) (refused TooLarge) (cond (ltb room n) (refused NoRoom) (got n r)))) energies_in)
    go (got n r) e h = counted n r e h (dec_lt 2980 n) (dec_lt room n)
    go (refused x) e h = form h

-- the call at the head of any bytes, or 31 to 35
pub reads-call : (room : ℕ) (s : List ℕ) → are_bytes s ≡ true → ReadsCall room s (parse room s)
reads-call room s bytes = go (decode s) refl (reads-number s bytes)
  where
    Rest : (k : ℕ) (fs : List ℕ) → Read (List ℤ) → Read Sent
    Rest k fs d = onward d (λ (es : List ℤ) (t : List ℕ). got (record { kind = k; fields = fs; energies = es }) t)

    tail : {r fs q : List ℕ} → ReadsNumber s (got 4 r) → ReadsNumbers 3 r (got fs q) → (d : Read (List ℤ)) → ReadsSeries room q d → ReadsCall room s (Rest 4 fs d)
    tail h w (got es t) v = submission h w v
    tail h w (refused x) v = series h w v

    fields : (k : ℕ) (r : List ℕ) → is_kind k ≡ true → ReadsNumber s (got k r) → (d : Read (List ℕ)) → numbers_in (fields_of k) r ≡ d → are_bytes r ≡ true →
        ReadsNumbers (fields_of k) r d → ReadsCall room s (onward d (λ (fs q : List ℕ). Rest k fs (tail_in room k q)))
    fields k r known h (refused x) e b w = field h (has-fields k known) w
    fields k r known h (got fs q) e b w = by (ℕ_discrete k 4)
      where
        by : Dec (k ≡ 4) → ReadsCall room s (Rest k fs (tail_in room k q))
        by (no n) = rw (ne_eqb k 4 n) (call h (has-fields k known) n w)
        by (yes f) =
            rw f (tail (rw f at h) (rw f at w) (series_in room q) (reads-series room q (bytes-behind r b (numbers-read (fields_of k) r e).behind)))

    known-or : (k : ℕ) (r : List ℕ) → are_bytes r ≡ true → ReadsNumber s (got k r) → (t : Bool) → is_kind k ≡ t → ReadsCall room s (cond t (body_in room k r) (refused BadKind))
    known-or k r b h true e = fields k r e h (numbers_in (fields_of k) r) refl b (reads-numbers (fields_of k) r b)
    known-or k r b h false e = kind h refl (λ w. false≢true (sym e ∙ (eight-kinds k).1 w))

    go : (d : Read ℕ) → decode s ≡ d → ReadsNumber s d → ReadsCall room s (onward d (kind_in room))
    go (got k r) e h = known-or k r (bytes-behind s bytes (decode-behind s e)) h (is_kind k) refl
    go (refused x) e h = kind-form h

-- where and why a file's calls end
pub ends-file : (room : ℕ) (s : List ℕ) → are_bytes s ≡ true → EndsFile room (calls_in room s).left (calls_in room s).ending
ends-file room s =
    by-calls room (λ (s : List ℕ) (f : Found). are_bytes s ≡ true → EndsFile room f.left f.ending) (λ b. at-end) (λ s x e b. at-refusal (rw e at (reads-call room s b)))
    (λ s c r f w ih b. ih (bytes-behind s b w.behind)) s

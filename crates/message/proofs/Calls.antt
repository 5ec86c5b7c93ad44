-- Laws of calls: a call that a file can carry is read as it was written, and a call that is read can be carried and was written so. Assumes nothing.
use Prim.Native.Nat.{ℕ, ◌+◌, ◌^◌, ◌<◌, ◌≤◌}
use mathlib.Core.Path.{◌≡◌, refl, sym, ap, ◌∙◌}
use mathlib.Core.Bool.{Bool, true, false, cond}
use mathlib.Core.List.{List, [], ◌∷◌, ◌++◌, map, append_assoc}
use native.Mathlib.Omega.{arith}
use borrow.Author.Tests.{lt-ltb, le-ltb, le-leb, leb-true, ltb-false}
use lib.Dec.{leb, ltb, eqb}
use lib.IntN.{ℤ}
use lib.ListN.{length, length-map, get_or-eq_default}
use Rattle.quantity.specs.Limits.{most_quarters}
use Rattle.quantity.specs.Lists.{all}
use Rattle.quantity.proofs.Tests.{and-left, and-right, and-both, within-high}
use Rattle.message.specs.Read.{got, refused, onward}
use Rattle.message.specs.Number.{are_bytes, fits_number, decode, encode, numbers_in, encode_all}
use Rattle.message.specs.Energy.{sent, received, fits_energy}
use Rattle.message.specs.Call.{Sent, kinds, submission, field_counts, fields_of, most_fields, is_kind, tail_of, print, count_in, energies_in, series_in, tail_in, body_in, parse, Carried}
use Rattle.message.specs.declared.FileCause.TheVariants.{BadKind, TooLarge, NoRoom}
use Rattle.message.proofs.ByKind.{by-kind, each-kind}
use Rattle.message.proofs.Parsers.{refused-got, Came, came, comes, Behind, behind-none, behind-both, behind-less}
use Rattle.message.proofs.Numbers.{decode-encode, encode-decode, decode-behind, encode-append, numbers-encode, bytes-rest, numbers-read, numbers-written}
use Rattle.message.proofs.Energies.{series-back, series-forth, series-fits}

-- each kind has two fields or more, and none more than an opening
pub fields-some : (k : ℕ) → is_kind k ≡ true → 2 ≤ fields_of k
fields-some =
    each-kind (λ (k : ℕ). 2 ≤ fields_of k) (omega arith) (omega arith) (omega arith) (omega arith) (omega arith) (omega arith) (omega arith) (omega arith)

pub fields-none : (k : ℕ) → kinds < k → 0 ≡ fields_of k
fields-none k h = sym (get_or-eq_default field_counts 0 {n = k} h)

pub fields-other : (k : ℕ) → (k ≡ 1 → ⊥) → (k ≡ 2 → ⊥) → (k ≡ 3 → ⊥) → (k ≡ 4 → ⊥) → (k ≡ 5 → ⊥) → (k ≡ 6 → ⊥) → (k ≡ 7 → ⊥) → (k ≡ 8 → ⊥) → 0 ≡ fields_of k
fields-other =
    by-kind (λ (k : ℕ). (k ≡ 1 → ⊥) → (k ≡ 2 → ⊥) → (k ≡ 3 → ⊥) → (k ≡ 4 → ⊥) → (k ≡ 5 → ⊥) → (k ≡ 6 → ⊥) → (k ≡ 7 → ⊥) → (k ≡ 8 → ⊥) → 0 ≡ fields_of k) (λ a b c d e f g h. refl) (λ a b c d e f g h. absurd (a refl)) (λ a b c d e f g h. absurd (b refl)) (λ a b c d e f g h. absurd (c refl)) (λ a b c d e f g h. absurd (d refl)) (λ a b c d e f g h. absurd (e refl)) (λ a b c d e f g h. absurd (f refl)) (λ a b c d e f g h. absurd (g refl)) (λ a b c d e f g h. absurd (h refl))
    (λ k n a b c d e f g h. fields-none k n)

pub fields-few : (k : ℕ) → fields_of k ≤ most_fields
fields-few =
    by-kind (λ (k : ℕ). fields_of k ≤ most_fields) (omega arith) (omega arith) (omega arith) (omega arith) (omega arith) (omega arith) (omega arith) (omega arith) (omega arith)
    (λ k h. omega (arith, fields-none k h))

-- what was written is read
tail-encode : (room k : ℕ) (es : List ℤ) (t : List ℕ) → length es ≤ most_quarters → length es ≤ room → all fits_energy es ≡ true →
    (eqb k submission ≡ false → es ≡ []) → tail_in room k (encode_all (tail_of k es) ++ t) ≡ got es t
unfolding encode_all
tail-encode room k es t few roomy fits alone = go (eqb k submission) refl
  where
    go : (b : Bool) → eqb k submission ≡ b →
        cond b (series_in room (encode_all (cond b (length es ∷ map sent es) []) ++ t)) (got [] (encode_all (cond b (length es ∷ map sent es) []) ++ t)) ≡ got es t
    go true e =
        rw (append_assoc (encode (length es)) (encode_all (map sent es)) t, decode-encode (length es) (encode_all (map sent es) ++ t) (lt-ltb (length es) (2 ^ 63) (omega arith)), le-ltb most_quarters (length es) few, le-ltb room (length es) roomy, sym (length-map es sent), numbers-encode (map sent es) t (series-fits es ∙ fits), series-back es)
    go false e = rw (alone e)

print-split : (c : Sent) (t : List ℕ) → print c ++ t ≡ encode c.kind ++ (encode_all c.fields ++ (encode_all (tail_of c.kind c.energies) ++ t))
unfolding encode_all
print-split c t =
    rw (encode-append c.fields (tail_of c.kind c.energies), append_assoc (encode c.kind) (encode_all c.fields ++ encode_all (tail_of c.kind c.energies)) t, append_assoc (encode_all c.fields) (encode_all (tail_of c.kind c.energies)) t)

pub few-energies : (c : Sent) → Carried c → length c.energies ≤ most_quarters
few-energies c h =
    leb-true (length c.energies) most_quarters (and-left (leb (length c.energies) most_quarters) _ (and-right (all fits_number c.fields) _ h.fits))

pub parse-print : (room : ℕ) (c : Sent) (t : List ℕ) → Carried c → length c.energies ≤ room → parse room (print c ++ t) ≡ got c t
parse-print room c t h roomy =
    let k63 : fits_number c.kind ≡ true = lt-ltb c.kind (2 ^ 63) (omega (arith, within-high 1 kinds c.kind h.known)) in
    let fs : all fits_number c.fields ≡ true = and-left (all fits_number c.fields) _ h.fits in
    let es : all fits_energy c.energies ≡ true = and-right (leb (length c.energies) most_quarters) _ (and-right (all fits_number c.fields) _ h.fits) in
    let tail : List ℕ = encode_all (tail_of c.kind c.energies) ++ t in
    rw (print-split c t, decode-encode c.kind (encode_all c.fields ++ tail) k63, h.known, sym h.whole, numbers-encode c.fields tail fs, tail-encode room c.kind c.energies t (few-energies c h) roomy es h.alone)

-- what is read: the count, what follows the fields, the call
pub record CountRead (room : ℕ) (s : List ℕ) (n : ℕ) (r : List ℕ) : Type 0 where
  pub decoded : decode s ≡ got n r
  pub few : n ≤ most_quarters
  pub roomy : n ≤ room

pub count-read : (room : ℕ) (s : List ℕ) {n : ℕ} {r : List ℕ} → count_in room s ≡ got n r → CountRead room s n r
count-read room s {n} {r} e = go (comes (decode s) _ e)
  where
    test : (m : ℕ) (q : List ℕ) (a b : Bool) → ltb most_quarters m ≡ a → ltb room m ≡ b → decode s ≡ got m q →
        cond a (refused TooLarge) (cond b (refused NoRoom) (got m q)) ≡ got n r → CountRead room s n r
    test m q true b x y d e = absurd (refused-got e)
    test m q false true x y d e = absurd (refused-got e)
    test m q false false x y d e =
        let z : m ≡ n = cc in
        record { decoded = cc; few = omega (arith, ltb-false most_quarters m x); roomy = omega (arith, ltb-false room m y) }

    go : Came (decode s) (λ (m : ℕ) (q : List ℕ). cond (ltb most_quarters m) (refused TooLarge) (cond (ltb room m) (refused NoRoom) (got m q))) n r → CountRead room s n r
    go (came m q d e) = test m q (ltb most_quarters m) (ltb room m) refl refl d e

pub record TailRead (room k : ℕ) (s : List ℕ) (es : List ℤ) (r : List ℕ) : Type 0 where
  pub few : length es ≤ most_quarters
  pub roomy : length es ≤ room
  pub fits : all fits_energy es ≡ true
  pub alone : eqb k submission ≡ false → es ≡ []
  pub behind : Behind 0 s r
  pub written : are_bytes s ≡ true → s ≡ encode_all (tail_of k es) ++ r

pub record SeriesRead (room : ℕ) (s : List ℕ) (es : List ℤ) (r : List ℕ) : Type 0 where
  pub n : ℕ
  pub us : List ℕ
  pub from : List ℕ
  pub counted : CountRead room s n from
  pub numbers : numbers_in n from ≡ got us r
  pub same : es ≡ map received us

pub series-read : (room : ℕ) (s : List ℕ) {es : List ℤ} {r : List ℕ} → series_in room s ≡ got es r → SeriesRead room s es r
series-read room s {es} {r} e = go (comes (count_in room s) energies_in e)
  where
    second : (n : ℕ) (q : List ℕ) → count_in room s ≡ got n q → Came (numbers_in n q) (λ (us p : List ℕ). got (map received us) p) es r → SeriesRead room s es r
    second n q d (came us p m e) = record { n = n; us = us; from = q; counted = count-read room s d; numbers = cc; same = cc }

    go : Came (count_in room s) energies_in es r → SeriesRead room s es r
    go (came n q d e) = second n q d (comes (numbers_in n q) (λ (us p : List ℕ). got (map received us) p) e)

tail-read : (room k : ℕ) (s : List ℕ) {es : List ℤ} {r : List ℕ} → tail_in room k s ≡ got es r → TailRead room k s es r
unfolding encode_all all
tail-read room k s {es} {r} e = go (eqb k submission) refl e
  where
    Written : Bool → Type 0
    Written b = are_bytes s ≡ true → s ≡ encode_all (cond b (length es ∷ map sent es) []) ++ r

    series : SeriesRead room s es r → Written true
    series w bs =
        let d : s ≡ encode w.n ++ w.from = encode-decode s bs w.counted.decoded in
        let m = numbers-written w.n w.from (bytes-rest (encode w.n) w.from (rw d at bs)) w.numbers in
        let l : length es ≡ w.n = ap length w.same ∙ length-map w.us received ∙ (numbers-read w.n w.from w.numbers).count in
        d ∙ rw (l, w.same, series-forth w.us, append_assoc (encode w.n) (encode_all w.us) r) (ap (λ (x : List ℕ). encode w.n ++ x) m)

    yes-tail : eqb k submission ≡ true → SeriesRead room s es r → TailRead room k s es r
    yes-tail b w =
        let q = numbers-read w.n w.from w.numbers in
        let l : length es ≡ w.n = ap length w.same ∙ length-map w.us received ∙ q.count in
        record {
          few = omega (arith, w.counted.few, l);
          roomy = omega (arith, w.counted.roomy, l);
          fits = rw w.same (sym (series-fits (map received w.us)) ∙ ap (all fits_number) (series-forth w.us) ∙ q.fits);
          alone = λ f. absurd (let z : ◌≡◌ {A = Bool} true false = cc in let y : ◌≡◌ {A = ℕ} 0 1 = ap (λ (t : Bool). cond t 0 1) z in omega arith);
          behind = behind-less (1 + w.n) 0 (omega arith) (behind-both 1 w.n (decode-behind s w.counted.decoded) q.behind);
          written = rw b (series w);
        }

    go : (b : Bool) → eqb k submission ≡ b → cond b (series_in room s) (got [] s) ≡ got es r → TailRead room k s es r
    go true b e = yes-tail b (series-read room s e)
    go false b e =
        let z : es ≡ [] = cc in
        let q : s ≡ r = cc in
        rw (sym q, z) (record { few = omega arith; roomy = omega arith; fits = refl; alone = λ f. refl; behind = behind-none s; written = rw b (λ f. refl) })

pub record CallRead (room : ℕ) (s : List ℕ) (c : Sent) (r : List ℕ) : Type 0 where
  pub carried : Carried c
  pub roomy : length c.energies ≤ room
  pub behind : Behind 3 s r
  pub written : are_bytes s ≡ true → s ≡ print c ++ r

pub parse-read : (room : ℕ) (s : List ℕ) {c : Sent} {r : List ℕ} → parse room s ≡ got c r → CallRead room s c r
parse-read room s {c} {r} e = go (comes (decode s) _ e)
  where
    call : ℕ → List ℕ → List ℤ → Sent
    call k fs es = record { kind = k; fields = fs; energies = es }

    made : (k : ℕ) (q fs p : List ℕ) (es : List ℤ) → is_kind k ≡ true → decode s ≡ got k q → numbers_in (fields_of k) q ≡ got fs p → tail_in room k p ≡ got es r →
        c ≡ call k fs es → CallRead room s c r
    made k q fs p es y d m t e =
        let w = numbers-read (fields_of k) q m in
        let v = tail-read room k p t in
        rw e (record {
          carried = record {
            known = y;
            whole = w.count;
            fits = and-both (all fits_number fs) _ w.fits (and-both (leb (length es) most_quarters) _ (le-leb (length es) most_quarters v.few) v.fits);
            alone = v.alone;
          };
          roomy = v.roomy;
          behind = behind-less (1 + (fields_of k + 0)) 3 (omega (arith, fields-some k y)) (behind-both 1 (fields_of k + 0) (decode-behind s d) (behind-both (fields_of k) 0 w.behind v.behind));
          written = λ bs.
              let a : s ≡ encode k ++ q = encode-decode s bs d in
              let bq : are_bytes q ≡ true = bytes-rest (encode k) q (rw a at bs) in
              let b : q ≡ encode_all fs ++ p = numbers-written (fields_of k) q bq m in
              let g : p ≡ encode_all (tail_of k es) ++ r = v.written (bytes-rest (encode_all fs) p (rw b at bq)) in
              a ∙ ap (λ (x : List ℕ). encode k ++ x) (b ∙ ap (λ (x : List ℕ). encode_all fs ++ x) g) ∙ sym (print-split (call k fs es) r);
        })

    third : (k : ℕ) (q fs p : List ℕ) → is_kind k ≡ true → decode s ≡ got k q → numbers_in (fields_of k) q ≡ got fs p →
        Came (tail_in room k p) (λ (es : List ℤ) (r : List ℕ). got (call k fs es) r) c r → CallRead room s c r
    third k q fs p y d m (came es z t e) = made k q fs p es y d m (cc) (cc)

    second : (k : ℕ) (q : List ℕ) → is_kind k ≡ true → decode s ≡ got k q →
        Came (numbers_in (fields_of k) q) (λ (fs p : List ℕ). onward (tail_in room k p) (λ (es : List ℤ) (r : List ℕ). got (call k fs es) r)) c r → CallRead room s c r
    second k q y d (came fs p m e) = third k q fs p y d m (comes (tail_in room k p) _ e)

    kind : (k : ℕ) (q : List ℕ) (b : Bool) → is_kind k ≡ b → decode s ≡ got k q → cond b (body_in room k q) (refused BadKind) ≡ got c r → CallRead room s c r
    kind k q true y d e = second k q y d (comes (numbers_in (fields_of k) q) _ e)
    kind k q false y d e = absurd (refused-got e)

    go : Came (decode s) (λ (k : ℕ) (q : List ℕ). cond (is_kind k) (body_in room k q) (refused BadKind)) c r → CallRead room s c r
    go (came k q d e) = kind k q (is_kind k) refl d e

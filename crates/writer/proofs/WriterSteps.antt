-- The writer's steps: sizes and bytes of what follows the fields, and of the whole call. Assumes nothing.
use Prim.Native.Nat.{ℕ, ◌+◌, ◌*◌, ◌^◌, ◌<◌, ◌≤◌}
use mathlib.Core.Path.{◌≡◌, refl, sym, ap, ◌∙◌}
use mathlib.Core.Bool.{Bool, true, false, cond}
use mathlib.Core.List.{List, [], ◌∷◌, ◌++◌, map, map-map, map-id, append_assoc}
use native.Mathlib.Omega.{arith}
use borrow.Author.Tests.{le-leb, eq-eqb, ne_eqb, leb-true}
use lib.Dec.{leb, eqb}
use lib.IntN.{ℤ}
use Rattle.std.proofs.Common.{Result, Ok, Err}
use lib.ListN.{length, take, length-append, length-map, length-take}
use Rattle.quantity.specs.Limits.{most_quarters}
use Rattle.quantity.specs.Lists.{all}
use Rattle.quantity.specs.Word.{signed}
use Rattle.quantity.proofs.Tests.{and-left, and-right, within-high}
use Rattle.message.specs.Number.{fits_number, encode, encode_all}
use Rattle.message.specs.Energy.{sent, fits_energy}
use Rattle.message.specs.Call.{Sent, kinds, submission, fields_of, is_kind, tail_of, numbers_of, print, tail_small, small}
use Rattle.writer.specs.Writer.{energies_for, handed, sized, put_in}
use Rattle.message.specs.declared.FileCause.{FileCause}
use Rattle.message.specs.declared.FileCause.TheVariants.{TooLarge}
use Rattle.message.proofs.Numbers.{encode-append}
use Rattle.message.proofs.Energies.{series-fits}
use Rattle.message.proofs.Calls.{fields-few}
use Rattle.writer.proofs.Writing.{nine, put-none, put-put, put-length}

-- what a size says
pub sized-fits : (t : Bool) (l : List ℕ) {n : ℕ} → sized t l ≡ Ok n → t ≡ true
sized-fits true l e = refl
sized-fits false l e = absurd (cc)

pub sized-bytes : (t : Bool) (l : List ℕ) {n : ℕ} → sized t l ≡ Ok n → n ≡ length (encode_all l)
sized-bytes true l e = cc
sized-bytes false l e = absurd (cc)

pub sized-large : (t : Bool) (l : List ℕ) {x : FileCause} → sized t l ≡ Err x → (t ≡ false) × (x ≡ TooLarge)
sized-large true l e = absurd (cc)
sized-large false l e = (refl, cc)

row-nine : (l : List ℕ) → length (encode_all l) ≤ 9 * length l
unfolding encode_all
row-nine [] = omega arith
row-nine (x ∷ l) = omega (arith, length-append (encode x) (encode_all l), nine x, row-nine l)

row-cons : (x : ℕ) (l : List ℕ) → length (encode_all (x ∷ l)) ≡ length (encode x) + length (encode_all l)
unfolding encode_all
row-cons x l = length-append (encode x) (encode_all l)

-- the numbers that are sent for words
pub words-sent : (ws : List ℕ) → map (λ (w : ℕ). sent (signed w)) ws ≡ map sent (map signed ws)
words-sent ws = sym (map-map sent signed ws)

-- what their size says, and that of fields, which are sent as they are
pub words-sized : (ws : List ℕ) {r : Result ℕ FileCause} → r ≡ sized (all fits_number (map (λ (w : ℕ). sent (signed w)) ws)) (map (λ (w : ℕ). sent (signed w)) ws) →
    sized (all fits_number (map sent (map signed ws))) (map sent (map signed ws)) ≡ r
words-sized ws e = sym (rw (words-sent ws) at e)

pub fields-sized : (fields : List ℕ) {r : Result ℕ FileCause} → r ≡ sized (all fits_number (map (λ (n : ℕ). n) fields)) (map (λ (n : ℕ). n) fields) →
    sized (all fits_number fields) fields ≡ r
fields-sized fields e = sym (rw (map-id fields) at e)

-- what follows the fields
module _ (k : ℕ) (ws : List ℕ) where
  pub size-none : (k ≡ submission → ⊥) → Ok 0 ≡ sized (tail_small (energies_for k ws)) (tail_of k (energies_for k ws))
  unfolding all encode_all
  size-none n = rw (ne_eqb k submission n)

  module _ (e : k ≡ submission) where
    module _ (few : length ws ≤ most_quarters) where
      pub size-goes : {m n : ℕ} → m ≡ length (encode (length ws)) → sized (all fits_number (map sent (map signed ws))) (map sent (map signed ws)) ≡ Ok n →
          Ok (m + n) ≡ sized (tail_small (energies_for k ws)) (tail_of k (energies_for k ws))
      size-goes {m} {n} q s =
          let fit : all fits_energy (map signed ws) ≡ true = sym (series-fits (map signed ws)) ∙ sized-fits (all fits_number (map sent (map signed ws))) (map sent (map signed ws)) s in
          rw (eq-eqb k submission e, length-map ws signed, le-leb (length ws) most_quarters few, fit)
          (ap Ok (omega (arith, q, sized-bytes (all fits_number (map sent (map signed ws))) (map sent (map signed ws)) s, row-cons (length ws) (map sent (map signed ws)))))

      pub size-not : {x : FileCause} → sized (all fits_number (map sent (map signed ws))) (map sent (map signed ws)) ≡ Err x →
          Err x ≡ sized (tail_small (energies_for k ws)) (tail_of k (energies_for k ws))
      size-not s =
          let large = sized-large (all fits_number (map sent (map signed ws))) (map sent (map signed ws)) s in
          let unfit : all fits_energy (map signed ws) ≡ false = sym (series-fits (map signed ws)) ∙ large.0 in
          rw (eq-eqb k submission e, length-map ws signed, le-leb (length ws) most_quarters few, unfit) (ap Err large.1)

      pub series-few : {n : ℕ} → sized (all fits_number (map sent (map signed ws))) (map sent (map signed ws)) ≡ Ok n → n ≤ 26820
      series-few s =
          omega (arith, sized-bytes (all fits_number (map sent (map signed ws))) (map sent (map signed ws)) s, row-nine (map sent (map signed ws)), length-map (map signed ws) sent, length-map ws signed)

few-after : (es : List ℤ) → tail_small es ≡ true → length es ≤ most_quarters
few-after es h = leb-true (length es) most_quarters (and-left (leb (length es) most_quarters) (all fits_energy es) h)

tail-few : (k : ℕ) (es : List ℤ) → length es ≤ most_quarters → length (encode_all (tail_of k es)) ≤ 26829
unfolding encode_all
tail-few k es h = go (eqb k submission)
  where
    go : (b : Bool) → length (encode_all (cond b (length es ∷ map sent es) [])) ≤ 26829
    go true = omega (arith, row-cons (length es) (map sent es), nine (length es), row-nine (map sent es), length-map es sent)
    go false = omega arith

-- the whole call
module _ (k : ℕ) (fields ws : List ℕ) {n : ℕ} (count : n ≡ fields_of k) where
  abbrev call : Sent
  call = handed k fields ws

  pub call-size : {m h t : ℕ} → m ≡ length (encode k) → sized (all fits_number (take n fields)) (take n fields) ≡ Ok h →
      sized (tail_small call.energies) (tail_of k call.energies) ≡ Ok t → Ok (m + h + t) ≡ sized (small call) (numbers_of call)
  call-size {m} {h} {t} q a b =
      let fit : all fits_number call.fields ≡ true = ap (λ (i : ℕ). all fits_number (take i fields)) (sym count) ∙ sized-fits (all fits_number (take n fields)) (take n fields) a in
      let size : h ≡ length (encode_all call.fields) = sized-bytes (all fits_number (take n fields)) (take n fields) a ∙ ap (λ (i : ℕ). length (encode_all (take i fields))) count in
      rw (fit, sized-fits (tail_small call.energies) (tail_of k call.energies) b)
      (ap Ok (omega (arith, q, size, sized-bytes (tail_small call.energies) (tail_of k call.energies) b, row-cons k (call.fields ++ tail_of k call.energies), ap length (encode-append call.fields (tail_of k call.energies)) ∙ length-append (encode_all call.fields) (encode_all (tail_of k call.energies)))))

  pub head-few : {h : ℕ} → sized (all fits_number (take n fields)) (take n fields) ≡ Ok h → h ≤ 189
  head-few a =
      omega (arith, sized-bytes (all fits_number (take n fields)) (take n fields) a, row-nine (take n fields), length-take n fields, fields-few k)

  pub tail-small : {t : ℕ} → sized (tail_small call.energies) (tail_of k call.energies) ≡ Ok t → t ≤ 26829
  tail-small b =
      omega (arith, sized-bytes (tail_small call.energies) (tail_of k call.energies) b, tail-few k call.energies (few-after call.energies (sized-fits (tail_small call.energies) (tail_of k call.energies) b)))

pub kind-fits : (k : ℕ) → is_kind k ≡ true → k < 2 ^ 63
kind-fits k h = omega (arith, within-high 1 kinds k h)

-- bytes are written from `at` on, up to j
abbrev pub Put : List ℕ → ℕ → List ℕ → ℕ → List ℕ → Type 0
Put out at s j next = (j ≡ at + length s) × (next ≡ put_in out at s)

module _ (out : List ℕ) (at : ℕ) (a b : List ℕ) {j : ℕ} {next : List ℕ} (p : Put out at a j next) where
  pub put-room : at + length (a ++ b) ≤ length out → j + length b ≤ length next
  put-room h =
      let n = length-append a b in
      omega (arith, p.0, n, ap length p.1 ∙ put-length out at a (omega arith))

  pub put-both : {k : ℕ} {last : List ℕ} → at + length (a ++ b) ≤ length out → Put next j b k last → Put out at (a ++ b) k last
  put-both h q =
      let n = length-append a b in
      (omega (arith, p.0, n, q.0), q.1 ∙ rw (p.1, p.0) (put-put out at a b (omega arith)))

-- what follows the fields
module _ (k : ℕ) (ws out : List ℕ) (at : ℕ) where
  pub put-nothing : (k ≡ submission → ⊥) → Put out at (encode_all (tail_of k (energies_for k ws))) at out
  unfolding encode_all
  put-nothing n = rw (ne_eqb k submission n) (omega arith, put-none out at)

  module _ (e : k ≡ submission) (fits : tail_small (energies_for k ws) ≡ true) (room : at + length (encode_all (tail_of k (energies_for k ws))) ≤ length out) where
    energies-are : energies_for k ws ≡ map signed ws
    energies-are = rw (eq-eqb k submission e)

    tail-is : encode_all (tail_of k (energies_for k ws)) ≡ encode (length ws) ++ encode_all (map sent (map signed ws))
    unfolding encode_all
    tail-is = rw (eq-eqb k submission e, length-map ws signed)

    room-is : at + length (encode (length ws) ++ encode_all (map sent (map signed ws))) ≤ length out
    room-is = omega (arith, room, ap length tail-is)

    pub few-words : length ws ≤ most_quarters
    few-words = omega (arith, few-after (energies_for k ws) fits, ap length energies-are ∙ length-map ws signed)

    pub words-fit : all fits_number (map sent (map signed ws)) ≡ true
    words-fit = series-fits (map signed ws) ∙ ap (all fits_energy) (sym energies-are) ∙ and-right (leb (length (energies_for k ws)) most_quarters) (all fits_energy (energies_for k ws)) fits

    pub count-room : at + length (encode (length ws)) ≤ length out
    count-room = omega (arith, room-is, length-append (encode (length ws)) (encode_all (map sent (map signed ws))))

    pub series-room : {j : ℕ} {next : List ℕ} → Put out at (encode (length ws)) j next → j + length (encode_all (map sent (map signed ws))) ≤ length next
    series-room p = put-room out at (encode (length ws)) (encode_all (map sent (map signed ws))) p room-is

    pub put-series : {j m : ℕ} {next last : List ℕ} → Put out at (encode (length ws)) j next → Put next j (encode_all (map sent (map signed ws))) m last →
        Put out at (encode_all (tail_of k (energies_for k ws))) m last
    put-series p q = rw tail-is (put-both out at (encode (length ws)) (encode_all (map sent (map signed ws))) p room-is q)

-- the whole call
module _ (k : ℕ) (fields ws out : List ℕ) {n : ℕ} (count : n ≡ fields_of k) (fits : small (handed k fields ws) ≡ true) (room : length (print (handed k fields ws)) ≤ length out) where
  print-is : print (handed k fields ws) ≡ (encode k ++ encode_all (take n fields)) ++ encode_all (tail_of k (energies_for k ws))
  unfolding encode_all
  print-is =
      rw (count, encode-append (take (fields_of k) fields) (tail_of k (energies_for k ws)))
      (sym (append_assoc (encode k) (encode_all (take (fields_of k) fields)) (encode_all (tail_of k (energies_for k ws)))))

  all-room : 0 + length ((encode k ++ encode_all (take n fields)) ++ encode_all (tail_of k (energies_for k ws))) ≤ length out
  all-room = omega (arith, room, ap length print-is)

  head-room : 0 + length (encode k ++ encode_all (take n fields)) ≤ length out
  head-room = omega (arith, all-room, length-append (encode k ++ encode_all (take n fields)) (encode_all (tail_of k (energies_for k ws))))

  pub kind-room : 0 + length (encode k) ≤ length out
  kind-room = omega (arith, head-room, length-append (encode k) (encode_all (take n fields)))

  pub fields-fit : all fits_number (take n fields) ≡ true
  fields-fit = ap (λ (i : ℕ). all fits_number (take i fields)) count ∙ and-left (all fits_number (take (fields_of k) fields)) (tail_small (energies_for k ws)) fits

  pub tail-fits : tail_small (energies_for k ws) ≡ true
  tail-fits = and-right (all fits_number (take (fields_of k) fields)) (tail_small (energies_for k ws)) fits

  module _ {j : ℕ} {next : List ℕ} (p : Put out 0 (encode k) j next) where
    pub fields-room : j + length (encode_all (take n fields)) ≤ length next
    fields-room = put-room out 0 (encode k) (encode_all (take n fields)) p head-room

    module _ {m : ℕ} {then : List ℕ} (q : Put next j (encode_all (take n fields)) m then) where
      both : Put out 0 (encode k ++ encode_all (take n fields)) m then
      both = put-both out 0 (encode k) (encode_all (take n fields)) p head-room q

      pub tail-room : m + length (encode_all (tail_of k (energies_for k ws))) ≤ length then
      tail-room = put-room out 0 (encode k ++ encode_all (take n fields)) (encode_all (tail_of k (energies_for k ws))) both all-room

      pub put-whole : {r : ℕ} {last : List ℕ} → Put then m (encode_all (tail_of k (energies_for k ws))) r last →
          (r ≡ length (print (handed k fields ws))) × (last ≡ put_in out 0 (print (handed k fields ws)))
      put-whole t =
          let w = put-both out 0 (encode k ++ encode_all (take n fields)) (encode_all (tail_of k (energies_for k ws))) both all-room t in
          (omega (arith, w.0, ap length print-is), w.1 ∙ rw print-is)

-- From a file's bytes to the calls of the papers that the plain desk is told, for any file, room and stores. Assumes nothing.
use Prim.Native.Nat.{ℕ, zero, suc, ◌+◌, ◌-◌}
use mathlib.Core.Path.{◌≡◌, refl, sym, ap, ◌∙◌}
use mathlib.Core.Bool.{true, false, false≢true}
use mathlib.Core.List.{List, [], ◌∷◌, ◌++◌, map, append-nil}
use native.Mathlib.Omega.{arith}
use borrow.Author.Tests.{le-leb}
use lib.Dec.{leb, eqb}
use lib.IntN.{ℤ}
use lib.ListN.{length, take, replicate, length-replicate}
use Rattle.quantity.specs.Limits.{most_quarters}
use Rattle.quantity.specs.Lists.{all}
use Rattle.quantity.proofs.Tests.{and-left, and-right, and-both}
use Rattle.book.proofs.Numbers.{yes-in}
use Rattle.message.specs.Call.{Sent, Carried, submission as submitting, most_fields, is_kind, fields_of, print}
use Rattle.message.specs.Energy.{fits_energy}
use Rattle.message.specs.File.{Found, calls_in}
use Rattle.message.specs.Number.{are_bytes, fits_number}
use Rattle.message.proofs.ByKind.{each-kind}
use Rattle.message.proofs.Calls.{CallRead, parse-print, few-energies, fields-few}
use Rattle.message.proofs.Carrying.{means-numbers, means-energies, follows, follows-are}
use Rattle.message.proofs.Files.{calls-next, by-calls}
use Rattle.message.proofs.Numbers.{bytes-rest}
use Rattle.reader.proofs.Theorems.{carried-known}
use Rattle.model.specs.Call.{Call, Lengths, Stores, lengths_of, Told}
use Rattle.model.specs.Plain.{plain_replies}
use Rattle.dispatch.specs.Laws.{Says, opening, activation, deactivation, submission, noticing, assignment, closing, issuing}
use Rattle.dispatch.proofs.Meant.{asked-says}
use Rattle.replay.specs.Feeding.{tells}
use Rattle.replay.specs.Given.{given, given_in}
use Rattle.replay.specs.Replay.{calls_for, told_of, numbers_of, over, Replays}
use Rattle.replay.specs.Said.{SaysAll, none, one}
use Rattle.replay.specs.declared.Replayed.{Replayed}

-- a call that the papers name has as many fields as its kind, and energies only where it is a submission
record Whole (kind : ℕ) (fields : List ℕ) (energies : List ℤ) : Type 0 where
  known : is_kind kind ≡ true
  count : length fields ≡ fields_of kind
  alone : eqb kind submitting ≡ false → energies ≡ []

whole-call : {kind : ℕ} {fields : List ℕ} {energies : List ℤ} {c : Call} → Says kind fields energies c → Whole kind fields energies
whole-call (opening q f c k groups n) = record { known = refl; count = omega arith; alone = λ e. refl }
whole-call (activation point kind area partner day) = record { known = refl; count = refl; alone = λ e. refl }
whole-call (deactivation point day) = record { known = refl; count = refl; alone = λ e. refl }
whole-call (submission point version day energies) = record { known = refl; count = refl; alone = λ e. absurd (false≢true (sym e)) }
whole-call (noticing point version verdict day) = record { known = refl; count = refl; alone = λ e. refl }
whole-call (assignment area group day) = record { known = refl; count = refl; alone = λ e. refl }
whole-call (closing run day) = record { known = refl; count = refl; alone = λ e. refl }
whole-call (issuing run day) = record { known = refl; count = refl; alone = λ e. refl }

-- a list by its elements
by-first : (P : List ℕ → Type 0) (n : ℕ) → ((x : ℕ) (l : List ℕ) → length l ≡ n → P (x ∷ l)) → (l : List ℕ) → length l ≡ suc n → P l
by-first P n h [] e = absurd (omega arith)
by-first P n h (x ∷ l) e = h x l (omega arith)

by-none : (P : List ℕ → Type 0) → P [] → (l : List ℕ) → length l ≡ 0 → P l
by-none P h [] e = h
by-none P h (x ∷ l) e = absurd (omega arith)

two : (P : List ℕ → Type 0) → ((a b : ℕ) → P (a ∷ b ∷ [])) → (l : List ℕ) → length l ≡ 2 → P l
two P h = by-first P 1 (λ a. by-first (λ (l : List ℕ). P (a ∷ l)) 0 (λ b. by-none (λ (l : List ℕ). P (a ∷ b ∷ l)) (h a b)))

three : (P : List ℕ → Type 0) → ((a b c : ℕ) → P (a ∷ b ∷ c ∷ [])) → (l : List ℕ) → length l ≡ 3 → P l
three P h = by-first P 2 (λ a. two (λ (l : List ℕ). P (a ∷ l)) (h a))

four : (P : List ℕ → Type 0) → ((a b c d : ℕ) → P (a ∷ b ∷ c ∷ d ∷ [])) → (l : List ℕ) → length l ≡ 4 → P l
four P h = by-first P 3 (λ a. three (λ (l : List ℕ). P (a ∷ l)) (h a))

five : (P : List ℕ → Type 0) → ((a b c d e : ℕ) → P (a ∷ b ∷ c ∷ d ∷ e ∷ [])) → (l : List ℕ) → length l ≡ 5 → P l
five P h = by-first P 4 (λ a. four (λ (l : List ℕ). P (a ∷ l)) (h a))

many : (P : List ℕ → Type 0) → ((a b c d : ℕ) (l : List ℕ) → length l ≡ 17 → P (a ∷ b ∷ c ∷ d ∷ l)) → (l : List ℕ) → length l ≡ 21 → P l
many P h =
    by-first P 20
    (λ a. by-first (λ (l : List ℕ). P (a ∷ l)) 19
    (λ b. by-first (λ (l : List ℕ). P (a ∷ b ∷ l)) 18
    (λ c. by-first (λ (l : List ℕ). P (a ∷ b ∷ c ∷ l)) 17 (h a b c))))

-- and each call that a file carries is named by the papers
abbrev Named : (kind : ℕ) (fields : List ℕ) (energies : List ℤ) → Type 0
Named kind fields energies = (c : Call) × Says kind fields energies c

named : (k : ℕ) → is_kind k ≡ true → (fields : List ℕ) (es : List ℤ) → length fields ≡ fields_of k → (eqb k submitting ≡ false → es ≡ []) → Named k fields es
named =
    each-kind (λ (k : ℕ). (fields : List ℕ) (es : List ℤ) → length fields ≡ fields_of k → (eqb k submitting ≡ false → es ≡ []) → Named k fields es)
    (λ fields es n alone. rw (alone refl) (many (λ (l : List ℕ). Named 1 l []) (λ q f c k groups m. (_, opening q f c k groups m)) fields n))
    (λ fields es n alone. rw (alone refl) (five (λ (l : List ℕ). Named 2 l []) (λ point kind area partner day. (_, activation point kind area partner day)) fields n))
    (λ fields es n alone. rw (alone refl) (two (λ (l : List ℕ). Named 3 l []) (λ point day. (_, deactivation point day)) fields n))
    (λ fields es n alone. three (λ (l : List ℕ). Named 4 l es) (λ point version day. (_, submission point version day es)) fields n)
    (λ fields es n alone. rw (alone refl) (four (λ (l : List ℕ). Named 5 l []) (λ point version verdict day. (_, noticing point version verdict day)) fields n))
    (λ fields es n alone. rw (alone refl) (three (λ (l : List ℕ). Named 6 l []) (λ area group day. (_, assignment area group day)) fields n))
    (λ fields es n alone. rw (alone refl) (two (λ (l : List ℕ). Named 7 l []) (λ run day. (_, closing run day)) fields n))
    (λ fields es n alone. rw (alone refl) (two (λ (l : List ℕ). Named 8 l []) (λ run day. (_, issuing run day)) fields n))

-- the call that the plain desk is told is the one that is said
given-said : (s : Sent) {c : Call} → Carried s → Says s.kind s.fields s.energies c → (l : List Sent) → map given (given_in (s ∷ l)) ≡ c ∷ map given (given_in l)
unfolding given_in
given-said s w h l =
    let d = carried-known w in
    let zeros : List ℕ = replicate (most_fields - length s.fields) 0 in
    let size : length s.fields + length zeros ≡ 21 = omega (arith, w.whole, fields-few s.kind, length-replicate {A = ℕ} (most_fields - length s.fields) 0) in
    rw (d.1, asked-says h zeros size d.1)

module _ (room : ℕ) where
  -- the calls that bytes say, wherever they stand in a file, are those that the plain desk is told, then those of the bytes that are left
  pub said-told : {file left : List ℕ} {calls : List Call} → SaysAll room file calls left →
      map given (given_in (calls_in room file).calls) ≡ calls ++ map given (given_in (calls_in room left).calls)
  said-told none = refl
  said-told (one {kind} {fields} {energies} {tail} {c} {file} {calls} {left} h follow below inside few roomy more) =
      let s : Sent = record { kind = kind; fields = fields; energies = energies } in
      let w = whole-call h in
      let fits = and-both (all fits_number fields) _ (yes-in (all fits_number fields) (means-numbers fields) below) (and-both (leb (length energies) most_quarters) _ (le-leb (length energies) most_quarters few) (yes-in (all fits_energy energies) (means-energies energies) inside)) in
      let carried : Carried s = record { known = w.known; whole = w.count; fits = fits; alone = w.alone } in
      rw (follows-are follow, calls-next room (print s ++ file) (parse-print room s file carried roomy), given-said s carried h (calls_in room file).calls, said-told more)

  -- and of any file the plain desk is told the calls that its bytes say, up to its end or its first refusal
  pub told-said : (file : List ℕ) → are_bytes file ≡ true → SaysAll room file (map given (given_in (calls_in room file).calls)) (calls_in room file).left
  unfolding given_in
  told-said file =
      by-calls room (λ (s : List ℕ) (f : Found). are_bytes s ≡ true → SaysAll room s (map given (given_in f.calls)) f.left) (λ b. none) (λ s x e b. none) step file
    where
      step : (s : List ℕ) (c : Sent) (r : List ℕ) (f : Found) → CallRead room s c r → (are_bytes r ≡ true → SaysAll room r (map given (given_in f.calls)) f.left) → are_bytes s ≡ true →
          SaysAll room s (map given (given_in (c ∷ f.calls))) f.left
      step s c r f w ih b =
          let n = named c.kind w.carried.known c.fields c.energies w.carried.whole w.carried.alone in
          let tail-small = and-right (all fits_number c.fields) _ w.carried.fits in
          let later = ih (bytes-rest (print c) r (rw (w.written b) at b)) in
          rw (w.written b, given-said c w.carried n.1 f.calls)
          (one n.1 (follows c.kind c.energies) ((means-numbers c.fields).holds (and-left (all fits_number c.fields) _ w.carried.fits)) ((means-energies c.energies).holds (and-right (leb (length c.energies) most_quarters) _ tail-small)) (few-energies c w.carried) w.roomy later)

map-take : {A B : Type 0} (f : A → B) (n : ℕ) (l : List A) → map f (take n l) ≡ take n (map f l)
map-take f zero l = refl
map-take f (suc n) [] = refl
map-take f (suc n) (x ∷ l) = ap (λ r. f x ∷ r) (map-take f n l)

-- a file whose calls end where the bytes say them: with the file, or with a refusal
module _ (room : ℕ) {file left : List ℕ} {calls : List Call} (said : SaysAll room file calls left) (ended : (calls_in room left).calls ≡ []) where
  all-said : map given (given_in (calls_in room file).calls) ≡ calls
  unfolding given_in
  all-said = said-told room said ∙ rw ended (append-nil calls)

  -- what the plain desk is told by the program, and by whoever lends stores of these lengths
  pub file-told : (n : Lengths) → tells n [] (map given (given_in (calls_in room file).calls)) ≡ tells n [] calls
  file-told n = rw all-said

  -- what it is told by a replay: as many calls as there is room for answers
  pub replay-told : (s : Stores) (answers : ℕ) → told_of s (calls_for file room answers) ≡ tells (lengths_of s) [] (take answers calls)
  replay-told s answers = ap (tells (lengths_of s) []) (map-take given answers (given_in (calls_in room file).calls) ∙ ap (take answers) all-said)

-- so the answers of a replay are the plain desk's to the calls that the file's bytes say
pub replay-answers : {file left buffer output buffer' output' : List ℕ} {s after : Stores} {r : Replayed} {calls : List Call} → SaysAll (length buffer) file calls left → (calls_in (length buffer) left).calls ≡ [] →
    Replays file s buffer output r after buffer' output' → output' ≡ over (numbers_of (plain_replies [] (tells (lengths_of s) [] (take (length output) calls)))) output
replay-answers {buffer = buffer} {output = output} {s = s} said ended R =
    R.gives.answers ∙ ap (λ (t : List Told). over (numbers_of (plain_replies [] t)) output) (replay-told (length buffer) said ended s (length output))

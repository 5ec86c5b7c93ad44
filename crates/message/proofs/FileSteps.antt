-- The steps of the check of a whole file: what is passed over is what the reader reads. Assumes nothing.
use Prim.Native.Nat.{ℕ, ◌+◌, ◌<◌, ◌≤◌}
use mathlib.Core.Path.{◌≡◌, refl, sym, ap, ◌∙◌}
use mathlib.Core.Bool.{true, false}
use mathlib.Core.List.{List, map}
use native.Mathlib.Omega.{arith}
use borrow.Author.Tests.{eq-eqb, ne_eqb, leb-true}
use lib.Dec.{leb}
use lib.IntN.{ℤ}
use lib.ListN.{length, drop, get_or, length-drop, drop_of_length-le}
use Rattle.std.specs.Prelude.{Result, Ok, Err}
use Rattle.quantity.specs.Limits.{most_quarters}
use Rattle.quantity.proofs.Tests.{and-right}
use Rattle.message.specs.Read.{Read, got, refused, onward}
use Rattle.message.specs.Number.{numbers_in}
use Rattle.message.specs.Energy.{received}
use Rattle.message.specs.Call.{submission, kinds, fields_of, is_kind, count_in, tail_in, kind_in, parse}
use Rattle.message.specs.File.{Found, calls_in, verdict_at, verdict_of}
use Rattle.message.specs.Offset.{itself, number_of, number_at, passed_of, number_to}
use Rattle.message.specs.declared.FileCause.{FileCause}
use Rattle.message.specs.declared.FileRefusal.{FileRefusal}
use Rattle.message.specs.declared.FileCause.TheVariants.{BadKind}
use Rattle.message.proofs.Numbers.{numbers-read}
use Rattle.message.proofs.NumberSteps.{only-at}
use Rattle.message.proofs.Calls.{parse-read}
use Rattle.message.proofs.Files.{calls-none, calls-next, calls-stop}
use Rattle.message.proofs.Placed.{offset-is, Placed, passed-to, passed-not, number-not, found, found-not}
use Rattle.message.proofs.CountSteps.{Counted}

-- where a value goes does not move what follows it
pass-map : {A B : Type 0} (n : ℕ) (f : A → B) (d : Read A) → passed_of n d ≡ passed_of n (onward d (λ (a : A) (r : List ℕ). got (f a) r))
pass-map n f (got a r) = refl
pass-map n f (refused x) = refl

-- what follows the fields
module _ (room : ℕ) (s : List ℕ) (at k : ℕ) where
  pub tail-not : at ≤ length s → (k ≡ submission → ⊥) → Ok at ≡ passed_of (length s) (tail_in room k (drop at s))
  tail-not h n = rw (ne_eqb k submission n, offset-is s at h)

  pub tail-count : {x : FileCause} → k ≡ submission → number_of itself (length s) (count_in room (drop at s)) ≡ Err x →
      Err x ≡ passed_of (length s) (tail_in room k (drop at s))
  tail-count e c = rw (eq-eqb k submission e, number-not (length s) (count_in room (drop at s)) itself c)

  pub tail-numbers : {v n : ℕ} {r : Result ℕ FileCause} → k ≡ submission → Counted s at room v n → r ≡ passed_of (length s) (numbers_in v (drop n s)) →
      r ≡ passed_of (length s) (tail_in room k (drop at s))
  tail-numbers {v} {n} e w p = rw (eq-eqb k submission e, w.is) (p ∙ pass-map (length s) (map received) (numbers_in v (drop n s)))

-- a call behind its kind
pub kind-bad : (room : ℕ) (s : List ℕ) («from» k : ℕ) → is_kind k ≡ false → Err BadKind ≡ passed_of (length s) (kind_in room k (drop «from» s))
kind-bad room s «from» k e = rw e

-- the fields that were passed
pub fields-placed : (s : List ℕ) («from» m : ℕ) {after : ℕ} → «from» ≤ length s → passed_of (length s) (numbers_in m (drop «from» s)) ≡ Ok after → Placed m s «from» (numbers_in m (drop «from» s)) after
fields-placed s «from» m h e = passed-to m s «from» (numbers_in m (drop «from» s)) h (λ a r p. (numbers-read m (drop «from» s) p).behind) e

module _ (room : ℕ) (s : List ℕ) («from» k : ℕ) (known : is_kind k ≡ true) {m : ℕ} (count : m ≡ fields_of k) where
  pub kind-not : {x : FileCause} → passed_of (length s) (numbers_in m (drop «from» s)) ≡ Err x → Err x ≡ passed_of (length s) (kind_in room k (drop «from» s))
  kind-not e = rw (known, sym count, passed-not (length s) (numbers_in m (drop «from» s)) e)

  pub kind-goes : {after : ℕ} {r : Result ℕ FileCause} → Placed m s «from» (numbers_in m (drop «from» s)) after → r ≡ passed_of (length s) (tail_in room k (drop after s)) →
      r ≡ passed_of (length s) (kind_in room k (drop «from» s))
  kind-goes {after} w p =
      rw (known, sym count, w.is)
      (p ∙ pass-map (length s) (λ (es : List ℤ). record { kind = k; fields = w.value; energies = es }) (tail_in room k (drop after s)))

-- a call
pub call-goes : (room : ℕ) (s : List ℕ) (at : ℕ) {k n : ℕ} {r : Result ℕ FileCause} → number_at s at ≡ number_to k n → r ≡ passed_of (length s) (kind_in room k (drop n s)) →
    r ≡ passed_of (length s) (parse room (drop at s))
call-goes room s at e p = rw (found s at e).decoded p

-- a kind of one byte
pub kind-at : (s : List ℕ) (at : ℕ) {k : ℕ} → at < length s → k ≡ get_or s at 0 → is_kind k ≡ true → number_at s at ≡ number_to k (at + 1)
kind-at s at {k} h q e = sym (only-at s at h q (omega (arith, leb-true k kinds (and-right (leb 1 k) (leb k kinds) e))))

pub call-not : (room : ℕ) (s : List ℕ) (at : ℕ) {x : FileCause} → number_at s at ≡ Err x → Err x ≡ passed_of (length s) (parse room (drop at s))
call-not room s at e = rw (found-not s at e)

-- the calls before `at` are read: the verdict is that on the bytes from there on
abbrev on : (length : ℕ) → Found → Result ℕ FileRefusal
on n f = verdict_at n (length f.left) f.ending

pub record Checking (s : List ℕ) (at : ℕ) : Type 0 where
  pub inside : at ≤ length s
  pub same : verdict_of s ≡ on (length s) (calls_in most_quarters (drop at s))

pub checking : (s : List ℕ) → Checking s 0
checking s = record { inside = omega arith; same = refl }

module _ {s : List ℕ} {at : ℕ} (w : Checking s at) where
  pub call-placed : {n : ℕ} → passed_of (length s) (parse most_quarters (drop at s)) ≡ Ok n → Placed 3 s at (parse most_quarters (drop at s)) n
  call-placed e = passed-to 3 s at (parse most_quarters (drop at s)) w.inside (λ c r p. (parse-read most_quarters (drop at s) p).behind) e

  pub check-more : {n : ℕ} → passed_of (length s) (parse most_quarters (drop at s)) ≡ Ok n → Checking s n
  check-more {n} e =
      let p = call-placed e in
      record { inside = p.within; same = w.same ∙ ap (on (length s)) (calls-next most_quarters (drop at s) p.is) }

  pub check-stop : {x : FileCause} → at < length s → passed_of (length s) (parse most_quarters (drop at s)) ≡ Err x → Err (record { cause = x; offset = at }) ≡ verdict_of s
  check-stop {x} h e =
      let p = passed-not (length s) (parse most_quarters (drop at s)) e in
      let some : 0 < length (drop at s) = rw length-drop (omega arith) in
      sym (w.same ∙ ap (on (length s)) (calls-stop most_quarters (drop at s) some p) ∙ ap (λ (n : ℕ). Err (record { cause = x; offset = n })) (offset-is s at w.inside))

  pub check-end : length s ≤ at → Ok (length s) ≡ verdict_of s
  check-end h = sym (w.same ∙ ap (on (length s)) (ap (calls_in most_quarters) (drop_of_length-le s h) ∙ calls-none most_quarters))

-- What holds of the verdict on a file, for any bytes. Assumes nothing.
use Prim.Native.Nat.{ℕ, zero, suc, ◌+◌, ◌-◌, ◌*◌, ◌%◌}
use mathlib.Core.Path.{◌≡◌, refl, sym, ap, ◌∙◌}
use mathlib.Core.Logic.{◌↔◌}
use mathlib.Core.Bool.{Bool, true, false, cond, not, ◌&&◌}
use mathlib.Core.List.{List, [], ◌∷◌}
use native.Mathlib.Omega.{arith}
use lib.Dec.{ltb, eqb}
use lib.IntN.{pos, negsuc}
use lib.ListN.{length, replicate}
use Rattle.quantity.specs.Limits.{most_quarters, within}
use Rattle.message.specs.Cause.{cause_number}
use Rattle.message.specs.Read.{Read, got, refused, onward}
use Rattle.message.specs.Number.{are_bytes, last_byte, above, decode_in, decode, numbers_in}
use Rattle.message.specs.Energy.{sent}
use Rattle.message.specs.Call.{Sent, submission, fields_of, is_kind, count_in, energies_in, series_in, tail_in, body_in, kind_in, parse}
use Rattle.message.specs.File.{print_all, Ending, whole, stopped, Found, calls_within, calls_in, CarriedAll, verdict_at, verdict_of, refusal_of, offset_of}
use Rattle.message.specs.declared.FileCause.{FileCause}
use Rattle.message.specs.declared.FileCause.TheVariants.{Cut, NotShortest, BadKind, TooLarge, NoRoom}
use Rattle.message.proofs.Files.{by-calls, read-written, written-read, read-carried}

-- every refusal's number is in the table
pub answers : (x : FileCause) → within 31 35 (cause_number x) ≡ true
answers Cut = refl
answers NotShortest = refl
answers BadKind = refl
answers TooLarge = refl
answers NoRoom = refl

-- with room for 2,980 energies 35 is never answered
abbrev Never : {A : Type 0} → Read A → Type 0
Never d = d ≡ refused NoRoom → ⊥

never-onward : {A B : Type 0} (d : Read A) (k : A → List ℕ → Read B) → Never d → ((a : A) (r : List ℕ) → Never (k a r)) → Never (onward d k)
never-onward (got a r) k h f e = f a r e
never-onward (refused x) k h f e = h (cc)

never-got : {A : Type 0} {a : A} {r : List ℕ} → Never (got a r)
never-got e = let z : ◌≡◌ {A = ℕ} 0 1 = cc in omega arith

never-cause : {A : Type 0} (x : FileCause) → (cause_number x ≡ 35 → ⊥) → Never {A = A} (refused x)
never-cause x n e = let y : x ≡ NoRoom = cc in n (ap cause_number y)

never-cond : {A : Type 0} (b : Bool) (x y : Read A) → Never x → Never y → Never (cond b x y)
never-cond true x y f g = f
never-cond false x y f g = g

never-decode : (k : ℕ) (first : Bool) (s : List ℕ) → Never (decode_in k first s)
unfolding decode_in
never-decode zero first s = never-cause NotShortest (λ e. omega arith)
never-decode (suc k) first [] = never-cause Cut (λ e. omega arith)
never-decode (suc k) first (b ∷ s) =
    never-cond (ltb b 128) (last_byte first b s) (above (b % 128) 128 (decode_in k false s))
    (never-cond (not first && eqb b 0) (refused NotShortest) (got b s) (never-cause NotShortest (λ e. omega arith)) never-got)
    (never-onward (decode_in k false s) _ (never-decode k false s) (λ v r. never-got))

never-numbers : (n : ℕ) (s : List ℕ) → Never (numbers_in n s)
unfolding numbers_in
never-numbers zero s = never-got
never-numbers (suc n) s = never-onward (decode s) _ (never-decode 9 true s) (λ v r. never-onward (numbers_in n r) _ (never-numbers n r) (λ vs q. never-got))

never-count : (s : List ℕ) → Never (count_in most_quarters s)
never-count s = never-onward (decode s) _ (never-decode 9 true s) (λ n r. go n r (ltb most_quarters n))
  where
    go : (n : ℕ) (r : List ℕ) (b : Bool) → Never (cond b (refused TooLarge) (cond b (refused NoRoom) (got n r)))
    go n r true = never-cause TooLarge (λ e. omega arith)
    go n r false = never-got

never-parse : (s : List ℕ) → Never (parse most_quarters s)
never-parse s = never-onward (decode s) _ (never-decode 9 true s) kind
  where
    series : (k : ℕ) (q : List ℕ) → Never (tail_in most_quarters k q)
    series k q =
        never-cond (eqb k submission) (series_in most_quarters q) (got [] q)
        (never-onward (count_in most_quarters q) energies_in (never-count q) (λ n r. never-onward (numbers_in n r) _ (never-numbers n r) (λ us p. never-got))) never-got

    kind : (k : ℕ) (r : List ℕ) → Never (kind_in most_quarters k r)
    kind k r =
        never-cond (is_kind k) (body_in most_quarters k r) (refused BadKind)
        (never-onward (numbers_in (fields_of k) r) _ (never-numbers (fields_of k) r) (λ fs q. never-onward (tail_in most_quarters k q) _ (series k q) (λ es p. never-got)))
        (never-cause BadKind (λ e. omega arith))

pub never-35 : (s : List ℕ) → (calls_in most_quarters s).ending ≡ stopped NoRoom → ⊥
never-35 s =
    by-calls most_quarters (λ (s : List ℕ) (f : Found). f.ending ≡ stopped NoRoom → ⊥) (λ e. let z : ◌≡◌ {A = ℕ} 0 1 = cc in omega arith)
    (λ s x q e. never-parse s (q ∙ ap refused (same x e))) (λ s c r f w ih. ih) s
  where
    same : (x : FileCause) → stopped x ≡ stopped NoRoom → x ≡ NoRoom
    same x e = cc

-- the verdict's number is 0 exactly when the reader accepts the whole file
pub whole-file : (s : List ℕ) → (refusal_of (verdict_of s) ≡ 0) ↔ ((calls_in most_quarters s).ending ≡ whole)
whole-file s = (go (calls_in most_quarters s).ending, λ e. rw e)
  where
    large : (x : FileCause) → cause_number x ≡ 0 → ⊥
    large Cut e = omega arith
    large NotShortest e = omega arith
    large BadKind e = omega arith
    large TooLarge e = omega arith
    large NoRoom e = omega arith

    go : (e : Ending) → refusal_of (verdict_at (length s) (length (calls_in most_quarters s).left) e) ≡ 0 → e ≡ whole
    go whole h = refl
    go (stopped x) h = absurd (large x h)

-- and so exactly when the file is the written form of calls that a file can carry
pub accepted-file : (s : List ℕ) → are_bytes s ≡ true → (refusal_of (verdict_of s) ≡ 0) ↔ ((cs : List Sent) × CarriedAll cs × (s ≡ print_all cs))
accepted-file s b = (
  λ e. ((calls_in most_quarters s).calls, read-carried most_quarters s, written-read most_quarters s b ((whole-file s).0 e)),
  λ w. (whole-file s).1 (ap (λ (x : List ℕ). (calls_in most_quarters x).ending) w.2 ∙ ap (λ (f : Found). f.ending) (read-written most_quarters w.0 (omega arith) w.1)),
)

-- "P12 a file `80 00` is 32 at offset 0."
pub p12 : (refusal_of (verdict_of (128 ∷ 0 ∷ [])) ≡ 32) × (offset_of (verdict_of (128 ∷ 0 ∷ [])) ≡ 0)
unfolding calls_within decode_in
p12 = (refl, refl)

-- each cause's number, by a file that has it
pub record CauseNumbers : Type 0 where
  -- "file ends inside a call": behind the kind, and behind a count that is not too large
  pub cut : (refusal_of (verdict_of (7 ∷ [])) ≡ 31) × (refusal_of (verdict_of (4 ∷ 1 ∷ 7 ∷ 2 ∷ 164 ∷ 23 ∷ [])) ≡ 31)
  -- "file number not shortest" (P12), "or its ninth byte has the top bit set"
  pub form : refusal_of (verdict_of (replicate 9 128)) ≡ 32
  -- "call kind not 1..7"; document 02: "byte 8 no longer meets 33", so that a file of an issue alone is whole
  pub kind : (refusal_of (verdict_of (0 ∷ [])) ≡ 33) × (refusal_of (verdict_of (9 ∷ [])) ≡ 33) × (refusal_of (verdict_of (8 ∷ 1 ∷ 2 ∷ [])) ≡ 0)
  -- "series count above 2,980"
  pub count : refusal_of (verdict_of (4 ∷ 1 ∷ 7 ∷ 2 ∷ 165 ∷ 23 ∷ [])) ≡ 34
  -- "reader: series count above the length of the lent series buffer"
  pub room : (x : FileCause) → parse 1 (4 ∷ 1 ∷ 7 ∷ 2 ∷ 2 ∷ []) ≡ refused x → cause_number x ≡ 35

pub cause-numbers : CauseNumbers
unfolding calls_within decode_in numbers_in
cause-numbers =
    record { cut = (refl, refl); form = refl; kind = (refl, refl, refl); count = refl; room = λ x e. let y : NoRoom ≡ x = cc in ap cause_number (sym y) }

-- "An energy v is sent as 2v if v ≥ 0, else -2v-1.": of -n-1 it is 2(n+1)-1
pub sent-number : (n : ℕ) → (sent (pos n) ≡ 2 * n) × (sent (negsuc n) ≡ 2 * (n + 1) - 1)
unfolding sent
sent-number n = (refl, omega arith)

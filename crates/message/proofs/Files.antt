-- Whole files: a list of calls that is written is read again; an accepted file is the written form of its calls, so each list has one file;
-- each call takes three bytes or more; a refusal is in the table. Assumes nothing.
use Prim.Native.Nat.{ℕ, zero, suc, ◌+◌, ◌-◌, ◌*◌, ◌<◌, ◌≤◌}
use mathlib.Core.Path.{◌≡◌, refl, sym, ap, ◌∙◌}
use mathlib.Core.Bool.{true}
use mathlib.Core.List.{List, [], ◌∷◌, ◌++◌, append_assoc, append-nil}
use native.Mathlib.Omega.{arith}
use lib.ListN.{length}
use Rattle.quantity.specs.Limits.{most_quarters}
use Rattle.message.specs.Read.{Read, got, refused}
use Rattle.message.specs.Number.{are_bytes}
use Rattle.message.specs.Call.{Sent, print, parse}
use Rattle.message.specs.File.{print_all, whole, Found, stop, or_end, before, further, calls_within, calls_in, CarriedAll, none, one}
use Rattle.message.specs.declared.FileCause.{FileCause}
use Rattle.message.proofs.Parsers.{behind-shorter}
use Rattle.message.proofs.Numbers.{bytes-rest}
use Rattle.message.proofs.Calls.{CallRead, parse-read, parse-print, few-energies}

pub or-end : (s : List ℕ) (f : Found) → 0 < length s → or_end s f ≡ f
or-end [] f h = absurd (omega arith)
or-end (b ∷ s) f h = refl

-- a call that is read leaves three bytes less
pub parse-shorter : (room : ℕ) (s : List ℕ) {c : Sent} {r : List ℕ} → parse room s ≡ got c r → length r + 3 ≤ length s
parse-shorter room s e = behind-shorter 3 (parse-read room s e).behind

-- enough is enough: how many calls may be looked at does not matter, from the number of bytes on
pub enough : (j k room : ℕ) (s : List ℕ) → length s ≤ j → length s ≤ k → calls_within j room s ≡ calls_within k room s
unfolding calls_within
enough zero zero room s a b = refl
enough zero (suc k) room [] a b = refl
enough zero (suc k) room (x ∷ s) a b = absurd (omega arith)
enough (suc j) zero room [] a b = refl
enough (suc j) zero room (x ∷ s) a b = absurd (omega arith)
enough (suc j) (suc k) room s a b = go (parse room s) refl (λ r. enough j k room r)
  where
    go : (d : Read Sent) → parse room s ≡ d → ((r : List ℕ) → length r ≤ j → length r ≤ k → calls_within j room r ≡ calls_within k room r) →
        or_end s (further s d (λ (r : List ℕ). calls_within j room r)) ≡ or_end s (further s d (λ (r : List ℕ). calls_within k room r))
    go (got c r) e ih =
        let l = parse-shorter room s e in
        ap (λ (f : Found). or_end s (before c f)) (ih r (omega arith) (omega arith))
    go (refused x) e ih = refl

-- a file's calls, a step at a time
pub calls-none : (room : ℕ) → calls_in room [] ≡ record { calls = []; left = []; ending = whole }
unfolding calls_within
calls-none room = refl

step : (room : ℕ) (s : List ℕ) → 0 < length s → calls_in room s ≡ further s (parse room s) (λ (r : List ℕ). calls_within (length s - 1) room r)
unfolding calls_within
step room s h =
    let n : length s ≡ suc (length s - 1) = omega arith in
    let same : calls_within (length s) room s ≡ calls_within (suc (length s - 1)) room s = ap (λ (k : ℕ). calls_within k room s) n in
    same ∙ or-end s _ h

pub calls-next : (room : ℕ) (s : List ℕ) {c : Sent} {r : List ℕ} → parse room s ≡ got c r → calls_in room s ≡ before c (calls_in room r)
calls-next room s {c} {r} e =
    let l = parse-shorter room s e in
    step room s (omega arith) ∙ rw e (ap (before c) (enough (length s - 1) (length r) room r (omega arith) (omega arith)))

pub calls-stop : (room : ℕ) (s : List ℕ) {x : FileCause} → 0 < length s → parse room s ≡ refused x → calls_in room s ≡ stop s x
calls-stop room s h e = step room s h ∙ rw e

-- what the steps keep, the whole file keeps
pub by-calls : (room : ℕ) (P : List ℕ → Found → Type 0) → P [] (record { calls = []; left = []; ending = whole }) →
    ((s : List ℕ) (x : FileCause) → parse room s ≡ refused x → P s (stop s x)) →
    ((s : List ℕ) (c : Sent) (r : List ℕ) (f : Found) → CallRead room s c r → P r f → P s (before c f)) → (s : List ℕ) → P s (calls_in room s)
by-calls room P none_left stops goes-on s = go (length s) s (omega arith)
  where
    one-step : (k : ℕ) → ((r : List ℕ) → length r ≤ k → P r (calls_in room r)) → (s : List ℕ) → length s ≤ suc k → (d : Read Sent) → parse room s ≡ d → P s (calls_in room s)
    one-step k ih [] h d e = rw (calls-none room) none_left
    one-step k ih (b ∷ s) h (got c r) e =
        let l = parse-shorter room (b ∷ s) e in
        rw (calls-next room (b ∷ s) e) (goes-on (b ∷ s) c r (calls_in room r) (parse-read room (b ∷ s) e) (ih r (omega arith)))
    one-step k ih (b ∷ s) h (refused x) e = rw (calls-stop room (b ∷ s) (omega arith) e) (stops (b ∷ s) x e)

    go : (k : ℕ) (s : List ℕ) → length s ≤ k → P s (calls_in room s)
    go zero [] h = rw (calls-none room) none_left
    go zero (b ∷ s) h = absurd (omega arith)
    go (suc k) s h = one-step k (go k) s h (parse room s) refl

-- calls that are written are read again, whole
pub read-written : (room : ℕ) (cs : List Sent) → most_quarters ≤ room → CarriedAll cs → calls_in room (print_all cs) ≡ record { calls = cs; left = []; ending = whole }
unfolding print_all
read-written room [] h none = calls-none room
read-written room (c ∷ cs) h (one p ps) =
    calls-next room (print c ++ print_all cs) (parse-print room c (print_all cs) p (omega (arith, few-energies c p))) ∙ ap (before c) (read-written room cs h ps)

-- what is read can be carried
pub read-carried : (room : ℕ) (s : List ℕ) → CarriedAll (calls_in room s).calls
read-carried room s = by-calls room (λ (s : List ℕ) (f : Found). CarriedAll f.calls) none (λ s x e. none) (λ s c r f w ih. one w.carried ih) s

-- and was written so, up to where the file is refused
pub read-splits : (room : ℕ) (s : List ℕ) → are_bytes s ≡ true → s ≡ print_all (calls_in room s).calls ++ (calls_in room s).left
unfolding print_all
read-splits room s =
    by-calls room (λ (s : List ℕ) (f : Found). are_bytes s ≡ true → s ≡ print_all f.calls ++ f.left) (λ b. refl) (λ s x e b. refl)
    (λ s c r f w ih b. goes s c r f (w.written b) b ih) s
  where
    goes : (s : List ℕ) (c : Sent) (r : List ℕ) (f : Found) → s ≡ print c ++ r → are_bytes s ≡ true → (are_bytes r ≡ true → r ≡ print_all f.calls ++ f.left) →
        s ≡ (print c ++ print_all f.calls) ++ f.left
    goes s c r f e b ih =
        e ∙ ap (λ (x : List ℕ). print c ++ x) (ih (bytes-rest (print c) r (rw e at b))) ∙ sym (append_assoc (print c) (print_all f.calls) f.left)

whole-left : (room : ℕ) (s : List ℕ) → (calls_in room s).ending ≡ whole → (calls_in room s).left ≡ []
whole-left room s =
    by-calls room (λ (s : List ℕ) (f : Found). f.ending ≡ whole → f.left ≡ []) (λ e. refl)
    (λ s x q e. absurd (let z : ◌≡◌ {A = ℕ} 0 1 = cc in omega arith)) (λ s c r f w ih. ih) s

-- an accepted file is the written form of its calls
pub written-read : (room : ℕ) (s : List ℕ) → are_bytes s ≡ true → (calls_in room s).ending ≡ whole → s ≡ print_all (calls_in room s).calls
written-read room s b e =
    read-splits room s b ∙ ap (λ (x : List ℕ). print_all (calls_in room s).calls ++ x) (whole-left room s e) ∙ append-nil (print_all (calls_in room s).calls)

-- two accepted files with the same calls are one file
pub only-one-file : (room : ℕ) (s t : List ℕ) → are_bytes s ≡ true → are_bytes t ≡ true → (calls_in room s).ending ≡ whole → (calls_in room t).ending ≡ whole →
    (calls_in room s).calls ≡ (calls_in room t).calls → s ≡ t
only-one-file room s t a b x y e = written-read room s a x ∙ ap print_all e ∙ sym (written-read room t b y)

-- each call takes three bytes or more
pub three-bytes : (room : ℕ) (s : List ℕ) → 3 * length (calls_in room s).calls + length (calls_in room s).left ≤ length s
three-bytes room s =
    by-calls room (λ (s : List ℕ) (f : Found). 3 * length f.calls + length f.left ≤ length s) (omega arith) (λ s x e. omega arith)
    (λ s c r f w ih. omega (arith, behind-shorter 3 w.behind)) s

-- so 65,536 bytes hold at most 21,845 calls
pub few-calls : (room : ℕ) (s : List ℕ) → length s ≤ 65536 → length (calls_in room s).calls ≤ 21845
few-calls room s h = omega (arith, three-bytes room s)

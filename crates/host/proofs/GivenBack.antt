-- The kind and the numbers that are given back of a call are those that the file has of it. Assumes nothing.
use Prim.Native.Nat.{ℕ, ◌+◌}
use mathlib.Core.Path.{◌≡◌, refl, ap, subst, ◌∙◌}
use mathlib.Core.Bool.{true}
use mathlib.Core.List.{List, [], ◌∷◌, ◌++◌}
use native.Mathlib.Omega.{arith}
use lib.ListN.{length, drop}
use Rattle.message.specs.Read.{got}
use Rattle.message.specs.Call.{Sent, Carried, fields_of, is_kind, parse}
use Rattle.message.specs.Named.{call_of, later_call_of, groups_of}
use Rattle.message.specs.declared.DeskCall.{DeskCall}
use Rattle.std.specs.Prelude.{Some, Ok}
use Rattle.reader.specs.Reader.{padded, read_at}
use Rattle.reader.specs.declared.CallRead.{CallRead}
use Rattle.host.specs.Call.{kind_of, head_of, written, read_out}
use Rattle.message.proofs.ByKind.{each-kind}
use Rattle.message.proofs.Calls.{parse-read}
use Rattle.reader.proofs.Theorems.{reader-call}

-- lists of a length
none_left : (P : List ℕ → Type 0) → P [] → (l : List ℕ) → length l ≡ 0 → P l
none_left P p [] e = p
none_left P p (x ∷ l) e = absurd (omega arith)

one-more : (P : List ℕ → Type 0) (n : ℕ) → ((x : ℕ) (l : List ℕ) → length l ≡ n → P (x ∷ l)) → (l : List ℕ) → length l ≡ n + 1 → P l
one-more P n p [] e = absurd (omega arith)
one-more P n p (x ∷ l) e = p x l (omega arith)

-- the call of a kind with these fields gives them back
abbrev Back : ℕ → List ℕ → Type 0
Back k fields = (d : DeskCall) → call_of k (padded fields) ≡ Some d → (kind_of d ≡ k) × (head_of d ++ groups_of (padded fields) ≡ padded fields)

back : (k : ℕ) (fields : List ℕ) (e : DeskCall) → call_of k (padded fields) ≡ Some e → (kind_of e ≡ k) × (head_of e ++ groups_of (padded fields) ≡ padded fields) → Back k fields
back k fields e q p d r =
    let same : e ≡ d = cc in
    subst (λ (x : DeskCall). (kind_of x ≡ k) × (head_of x ++ groups_of (padded fields) ≡ padded fields)) same p

by-fields : (k : ℕ) → is_kind k ≡ true → (fields : List ℕ) → length fields ≡ fields_of k → Back k fields
unfolding call_of later_call_of
by-fields =
    each-kind (λ (k : ℕ). (fields : List ℕ) → length fields ≡ fields_of k → Back k fields)
    (four 1 17 (λ a b c d l h. back 1 (a ∷ b ∷ c ∷ d ∷ l) _ refl (refl, refl)))
    (four 2 1 (λ a b c d l h. back 2 (a ∷ b ∷ c ∷ d ∷ l) _ refl (refl, refl)))
    (two 3 0 (λ a b. none_left (λ (l : List ℕ). Back 3 (a ∷ b ∷ l)) (back 3 (a ∷ b ∷ []) _ refl (refl, refl))))
    (two 4 1 (λ a b. one-more (λ (l : List ℕ). Back 4 (a ∷ b ∷ l)) 0 (λ c. none_left (λ (l : List ℕ). Back 4 (a ∷ b ∷ c ∷ l)) (back 4 (a ∷ b ∷ c ∷ []) _ refl (refl, refl)))))
    (four 5 0 (λ a b c d. none_left (λ (l : List ℕ). Back 5 (a ∷ b ∷ c ∷ d ∷ l)) (back 5 (a ∷ b ∷ c ∷ d ∷ []) _ refl (refl, refl))))
    (two 6 1 (λ a b. one-more (λ (l : List ℕ). Back 6 (a ∷ b ∷ l)) 0 (λ c. none_left (λ (l : List ℕ). Back 6 (a ∷ b ∷ c ∷ l)) (back 6 (a ∷ b ∷ c ∷ []) _ refl (refl, refl)))))
    (two 7 0 (λ a b. none_left (λ (l : List ℕ). Back 7 (a ∷ b ∷ l)) (back 7 (a ∷ b ∷ []) _ refl (refl, refl))))
    (two 8 0 (λ a b. none_left (λ (l : List ℕ). Back 8 (a ∷ b ∷ l)) (back 8 (a ∷ b ∷ []) _ refl (refl, refl))))
  where
    two : (k n : ℕ) → ((a b : ℕ) (l : List ℕ) → length l ≡ n → Back k (a ∷ b ∷ l)) → (fields : List ℕ) → length fields ≡ n + 1 + 1 → Back k fields
    two k n f = one-more (Back k) (n + 1) (λ a. one-more (λ (l : List ℕ). Back k (a ∷ l)) n (f a))

    four : (k n : ℕ) → ((a b c d : ℕ) (l : List ℕ) → length l ≡ n → Back k (a ∷ b ∷ c ∷ d ∷ l)) → (fields : List ℕ) → length fields ≡ n + 1 + 1 + 1 + 1 → Back k fields
    four k n f = two k (n + 1 + 1) (λ a b. one-more (λ (l : List ℕ). Back k (a ∷ b ∷ l)) (n + 1) (λ c. one-more (λ (l : List ℕ). Back k (a ∷ b ∷ c ∷ l)) n (f a b c)))

-- what a file carries is given back
pub given-back : {c : Sent} {d : DeskCall} → Carried c → call_of c.kind (padded c.fields) ≡ Some d →
    (kind_of d ≡ c.kind) × (head_of d ++ groups_of (padded c.fields) ≡ padded c.fields)
given-back {c} {d} h e = by-fields c.kind h.known c.fields h.whole d e

same-places : (m : ℕ) {k k' n n' : ℕ} {fields fields' : List ℕ} (out : List ℕ) → k ≡ k' → fields ≡ fields' → n ≡ n' → written m k fields n out ≡ written m k' fields' n' out
same-places m out a b c = rw (a, b, c)

-- so the places of a call that was read hold the kind, the fields and the count that stand in the file, and the offset behind them
pub places-read : (s : List ℕ) (at room : ℕ) (out : List ℕ) {read : CallRead} → read_at s at room ≡ Ok (Some read) →
    (c : Sent) × (parse room (drop at s) ≡ got c (drop read.next s)) × (read_out (read_at s at room) out ≡ written read.next c.kind (padded c.fields) (length c.energies) out)
places-read s at room out {read} e =
    let w = reader-call s at room e in
    let b = given-back (parse-read room (drop at s) w.parsed).carried w.named in
    (w.call, w.parsed, rw e (same-places read.next out b.0 (ap (λ (l : List ℕ). head_of read.call ++ l) w.beside ∙ b.1) w.count))

-- The cases of the writer's answers exclude one another: of any call and output there is one answer, and one output after it. Assumes nothing.
use Prim.Native.Nat.{ℕ}
use mathlib.Core.Path.{◌≡◌, refl, sym, ap, ◌∙◌, subst}
use mathlib.Core.List.{List, ◌++◌}
use native.Mathlib.Omega.{arith}
use lib.ListN.{length, drop}
use Rattle.std.proofs.Common.{Result, Ok, Err}
use Rattle.quantity.specs.Meaning.{Between}
use Rattle.message.specs.Cause.{cause_number}
use Rattle.message.specs.Laws.{HasFields}
use Rattle.message.specs.declared.FileCause.{FileCause}
use Rattle.message.specs.declared.FileRefusal.{FileRefusal}
use Rattle.message.proofs.Carrying.{fields-are, follows-are}
use Rattle.message.proofs.Exactly.{same-cause}
use Rattle.message.proofs.Fields.{eight-kinds}
use Rattle.writer.specs.Laws.{Large, Bytes, bytes, Writes, unknown, large, short, written}

a-kind : {k n : ℕ} → HasFields k n → Between 1 8 k
a-kind {k} f = (eight-kinds k).0 (fields-are f).0

same-count : {k m n : ℕ} → HasFields k m → HasFields k n → m ≡ n
same-count f g = sym (fields-are f).1 ∙ (fields-are g).1

same-bytes : {k m n : ℕ} {fields series s t : List ℕ} → m ≡ n → Bytes k m fields series s → Bytes k n fields series t → s ≡ t
same-bytes e (bytes f) (bytes g) = rw (e, follows-are f, follows-are g)

-- a refusal with the offset 0
abbrev refused_with : FileCause → Result ℕ FileRefusal
refused_with x = Err (record { cause = x; offset = 0 })

refuses : {x y : FileCause} {output : List ℕ} {n : ℕ} → cause_number x ≡ n → cause_number y ≡ n → (refused_with x ≡ refused_with y) × (output ≡ output)
refuses p q = (ap refused_with (same-cause (p ∙ sym q)), refl)

-- too large by one count of fields, by another one not
differ : {k m n : ℕ} {fields series : List ℕ} → HasFields k m → HasFields k n → Large k m fields series → (Large k n fields series → ⊥) → ⊥
differ {k} {fields = fields} {series = series} f g l n = n (subst (λ (i : ℕ). Large k i fields series) (same-count f g) l)

pub one-answer : {k : ℕ} {fields series output : List ℕ} {v w : Result ℕ FileRefusal} {a b : List ℕ} → Writes k fields series output v a → Writes k fields series output w b → (v ≡ w) × (a ≡ b)
one-answer (unknown p n) (unknown q m) = refuses p q
one-answer (unknown p n) (large q g l) = absurd (n (a-kind g))
one-answer (unknown p n) (short q g l s h) = absurd (n (a-kind g))
one-answer (unknown p n) (written g l s h) = absurd (n (a-kind g))
one-answer (large p f l) (unknown q m) = absurd (m (a-kind f))
one-answer (large p f l) (large q g j) = refuses p q
one-answer (large p f l) (short q g n s h) = absurd (differ f g l n)
one-answer (large p f l) (written g n s h) = absurd (differ f g l n)
one-answer (short p f n s h) (unknown q m) = absurd (m (a-kind f))
one-answer (short p f n s h) (large q g l) = absurd (differ g f l n)
one-answer (short p f n s h) (short q g m t i) = refuses p q
one-answer (short p f n s h) (written g m t i) = absurd (omega (arith, h, i, ap length (same-bytes (same-count f g) s t)))
one-answer (written f n s h) (unknown q m) = absurd (m (a-kind f))
one-answer (written f n s h) (large q g l) = absurd (differ g f l n)
one-answer (written f n s h) (short q g m t i) = absurd (omega (arith, h, i, ap length (same-bytes (same-count f g) s t)))
one-answer {output = output} (written f n s h) (written g m t i) =
    let e = same-bytes (same-count f g) s t in
    (ap (λ (l : List ℕ). Ok (length l)) e, ap (λ (l : List ℕ). l ++ drop (length l) output) e)

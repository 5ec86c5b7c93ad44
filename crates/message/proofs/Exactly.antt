-- What the papers say of bytes is what is read of them: with the laws of Answers, each answer is given exactly where its case says. Assumes nothing.
use Prim.Native.Nat.{ℕ, zero, suc, ◌+◌, ◌-◌, ◌*◌, ◌%◌, ◌^◌, ◌<◌, ◌≤◌}
use mathlib.Core.Path.{◌≡◌, refl, sym, ap, ◌∙◌}
use mathlib.Core.Logic.{◌↔◌}
use mathlib.Core.Bool.{Bool, true, false, cond, true≢false, false≢true}
use mathlib.Core.List.{List, [], ◌∷◌, ◌++◌}
use native.Mathlib.Omega.{arith}
use native.Mathlib.Nat.{pow-succ'}
use borrow.Author.Tests.{lt-ltb, le-ltb, ne_eqb}
use lib.Dec.{eqb}
use lib.IntN.{ℤ}
use lib.ListN.{length, get_or}
use Rattle.quantity.proofs.Tests.{same-test}
use Rattle.message.specs.Call.{Sent, is_kind, series_in, parse}
use Rattle.message.specs.Cause.{cause_number}
use Rattle.message.specs.Laws.{Groups, last, more, GoOn, ReadsNumber, number, cut, padded, ninth, ReadsNumbers, none, one, stops, later, ReadsSeries, form, many, room-short, energy, filled, ReadsCall, form as kind-form, kind, field, call, series, submission}
use Rattle.message.specs.Number.{are_bytes, decode_in, decode, numbers_in}
use Rattle.message.specs.Read.{Read, got, refused}
use Rattle.message.specs.declared.FileCause.{FileCause}
use Rattle.message.specs.declared.FileCause.TheVariants.{Cut, NotShortest, BadKind, TooLarge, NoRoom}
use Rattle.message.proofs.Answers.{reads-call}
use Rattle.message.proofs.Carrying.{fields-are}
use Rattle.message.proofs.Fields.{eight-kinds}
use Rattle.message.proofs.Numbers.{decode-none, decode-out, decode-only, decode-zero, decode-last, decode-more}

-- each number of the table has one cause
abbrev cause-of : ℕ → FileCause
cause-of n = cond (eqb n 31) Cut (cond (eqb n 32) NotShortest (cond (eqb n 33) BadKind (cond (eqb n 34) TooLarge NoRoom)))

cause-back : (x : FileCause) → cause-of (cause_number x) ≡ x
cause-back Cut = refl
cause-back NotShortest = refl
cause-back BadKind = refl
cause-back TooLarge = refl
cause-back NoRoom = refl

pub same-cause : {x y : FileCause} → cause_number x ≡ cause_number y → x ≡ y
same-cause {x} {y} e = sym (cause-back x) ∙ ap cause-of e ∙ cause-back y

-- a number in so many bytes
groups-read : (k : ℕ) (first : Bool) {bytes : List ℕ} {v : ℕ} → Groups bytes v → v < 128 ^ suc k → (first ≡ false → 0 < v) → (t : List ℕ) → decode_in (suc k) first (bytes ++ t) ≡ got v t
groups-read k true (last b h) l f t = decode-only k b t h
groups-read k false (last b h) l f t = decode-last k b t h (λ e. omega (arith, f refl))
groups-read zero first (more b h g p) l f t = absurd (omega arith)
groups-read (suc k) first (more b {s} {v} h g p) l f t =
    let low : b % 128 + 128 * v ≡ b - 128 + 128 * v = omega (arith, h.0, h.1) in
    let less : v < 128 ^ suc k = omega (arith, rw (pow-succ' 128 (suc k)) at l) in
    rw (decode-more (suc k) first b (s ++ t) h.0, groups-read k false g less (λ z. p) t, low)

-- bytes that go on
ends-in : (k : ℕ) (first : Bool) (s : List ℕ) → length s < k → GoOn (length s) s → decode_in k first s ≡ refused Cut
ends-in zero first s h g = absurd (omega arith)
ends-in (suc k) first [] h g = decode-none k first
ends-in (suc k) first (b ∷ s) h g = rw (decode-more k first b s (g 0 (omega arith)), ends-in k false s (omega arith) (λ i l. g (suc i) (omega arith)))

zero-in : (k : ℕ) (first : Bool) (s : List ℕ) (n : ℕ) → n < k → n < length s → GoOn n s → get_or s n 0 ≡ 0 → (first ≡ true → 1 ≤ n) → decode_in k first s ≡ refused NotShortest
zero-in zero first s n h m g z f = absurd (omega arith)
zero-in (suc k) first [] n h m g z f = absurd (omega arith)
zero-in (suc k) true (b ∷ s) zero h m g z f = absurd (omega (arith, f refl))
zero-in (suc k) false (b ∷ s) zero h m g z f = rw (z, decode-zero k s)
zero-in (suc k) first (b ∷ s) (suc n) h m g z f =
    rw (decode-more k first b s (g 0 (omega arith)), zero-in k false s n (omega arith) (omega arith) (λ i l. g (suc i) (omega arith)) z (λ e. absurd (false≢true e)))

long-in : (k : ℕ) (first : Bool) (s : List ℕ) → k ≤ length s → GoOn k s → decode_in k first s ≡ refused NotShortest
long-in zero first s h g = decode-out first s
long-in (suc k) first [] h g = absurd (omega arith)
long-in (suc k) first (b ∷ s) h g = rw (decode-more k first b s (g 0 (omega arith)), long-in k false s (omega arith) (λ i l. g (suc i) (omega arith)))

-- the number at the head of bytes, or its refusal
number-so : {s : List ℕ} {d : Read ℕ} → ReadsNumber s d → decode s ≡ d
number-so (number bytes left e g h) = rw e (groups-read 8 true g h (λ z. absurd (true≢false z)) left)
number-so {s} (cut p l g) = ends-in 9 true s l g ∙ ap refused (same-cause (sym p))
number-so {s} (padded n p w l g z) = zero-in 9 true s n (omega (arith, w.1)) l g z (λ e. w.0) ∙ ap refused (same-cause (sym p))
number-so {s} (ninth p l g) = long-in 9 true s l g ∙ ap refused (same-cause (sym p))

numbers-so : {n : ℕ} {s : List ℕ} {d : Read (List ℕ)} → ReadsNumbers n s d → numbers_in n s ≡ d
unfolding numbers_in
numbers-so none = refl
numbers-so (one h w) = rw (number-so h, numbers-so w)
numbers-so (stops h) = rw (number-so h)
numbers-so (later h w) = rw (number-so h, numbers-so w)

series-so : {room : ℕ} {s : List ℕ} {d : Read (List ℤ)} → ReadsSeries room s d → series_in room s ≡ d
series-so (form h) = rw (number-so h)
series-so (many {n = n} h p l) = rw (number-so h, lt-ltb 2980 n l) (ap refused (same-cause (sym p)))
series-so {room} (room-short {n = n} h p few l) = rw (number-so h, le-ltb 2980 n few, lt-ltb room n l) (ap refused (same-cause (sym p)))
series-so {room} (energy {n = n} h few roomy w) = rw (number-so h, le-ltb 2980 n few, le-ltb room n roomy, numbers-so w)
series-so {room} (filled {n = n} h few roomy w) = rw (number-so h, le-ltb 2980 n few, le-ltb room n roomy, numbers-so w)

no-kind-of : (k : ℕ) → ((1 ≤ k) × (k ≤ 8) → ⊥) → is_kind k ≡ false
no-kind-of k n = same-test (is_kind k) false (λ e. absurd (n ((eight-kinds k).0 e))) (λ e. absurd (false≢true e))

call-so : {room : ℕ} {s : List ℕ} {d : Read Sent} → ReadsCall room s d → parse room s ≡ d
call-so (kind-form h) = rw (number-so h)
call-so (kind {k = k} h p n) = rw (number-so h, no-kind-of k n) (ap refused (same-cause (sym p)))
call-so (field h f w) = rw (number-so h, (fields-are f).0, (fields-are f).1, numbers-so w)
call-so (call {k = k} h f n w) = rw (number-so h, (fields-are f).0, (fields-are f).1, numbers-so w, ne_eqb k 4 n)
call-so (series h w v) = rw (number-so h, numbers-so w, series-so v)
call-so (submission h w v) = rw (number-so h, numbers-so w, series-so v)

-- of any bytes: a number, a call or a refusal is read exactly where the papers say so
pub call-exactly : (room : ℕ) (s : List ℕ) (d : Read Sent) → are_bytes s ≡ true → (parse room s ≡ d) ↔ ReadsCall room s d
call-exactly room s d bytes = (λ e. rw e at (reads-call room s bytes), call-so)

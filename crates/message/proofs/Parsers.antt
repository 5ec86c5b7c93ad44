-- Laws of parsers: how a value that was read came about, and that what follows it is a part of the bytes. Assumes nothing.
use Prim.Native.Nat.{ℕ, ◌+◌, ◌-◌, ◌≤◌}
use mathlib.Core.Path.{◌≡◌, refl, sym, ap, ◌∙◌}
use mathlib.Core.List.{List}
use native.Mathlib.Omega.{arith}
use lib.ListN.{length, drop, length-drop}
use lib.Seq.{drop-drop}
use Rattle.message.specs.Read.{Read, got, refused, onward}
use Rattle.message.specs.declared.FileCause.{FileCause}

pub refused-got : {A : Type 0} {c : FileCause} {a : A} {r : List ℕ} → refused c ≡ got a r → ⊥
refused-got e = let z : ◌≡◌ {A = ℕ} 0 1 = cc in omega arith

-- what stood before a value that was read
pub data Came {A B : Type 0} (d : Read A) (k : A → List ℕ → Read B) (b : B) (r : List ℕ) : Type 0 where
  came : (a : A) (q : List ℕ) → d ≡ got a q → k a q ≡ got b r → Came d k b r

pub comes : {A B : Type 0} (d : Read A) (k : A → List ℕ → Read B) {b : B} {r : List ℕ} → onward d k ≡ got b r → Came d k b r
comes (got a q) k e = came a q refl e
comes (refused c) k e = absurd (refused-got e)

-- what follows is a part of the bytes, behind at least so many
pub record Behind (least : ℕ) (s r : List ℕ) : Type 0 where
  pub used : ℕ
  pub rest : r ≡ drop used s
  pub some : least ≤ used
  pub inside : used ≤ length s

pub behind-none : (s : List ℕ) → Behind 0 s s
behind-none s = record { used = 0; rest = refl; some = omega arith; inside = omega arith }

pub behind-both : (m n : ℕ) {s q r : List ℕ} → Behind m s q → Behind n q r → Behind (m + n) s r
behind-both m n {s} {q} {r} a b =
    let l : length q ≡ length s - a.used = ap length a.rest ∙ length-drop a.used s in
    record {
      used = a.used + b.used;
      rest = b.rest ∙ ap (λ (x : List ℕ). drop b.used x) a.rest ∙ drop-drop b.used a.used s;
      some = omega (arith, a.some, b.some);
      inside = omega (arith, a.inside, b.inside, l);
    }

pub behind-less : (m n : ℕ) {s r : List ℕ} → n ≤ m → Behind m s r → Behind n s r
behind-less m n h a = record { used = a.used; rest = a.rest; some = omega (arith, a.some); inside = a.inside }

pub behind-shorter : (n : ℕ) {s r : List ℕ} → Behind n s r → length r + n ≤ length s
behind-shorter n {s} {r} a = omega (arith, a.some, a.inside, ap length a.rest ∙ length-drop a.used s)

-- the same at an offset of a file: where what follows begins
pub record Next (least : ℕ) (s : List ℕ) (at : ℕ) (r : List ℕ) : Type 0 where
  pub there : r ≡ drop (length s - length r) s
  pub later : at + least ≤ length s - length r
  pub within : length s - length r ≤ length s

pub next-of : (least : ℕ) (s : List ℕ) (at : ℕ) {r : List ℕ} → at ≤ length s → Behind least (drop at s) r → Next least s at r
next-of least s at {r} h b = from b.used b.rest b.some b.inside
  where
    from : (used : ℕ) → r ≡ drop used (drop at s) → least ≤ used → used ≤ length (drop at s) → Next least s at r
    from used e some i =
        let there : r ≡ drop (at + used) s = e ∙ drop-drop used at s in
        let l : length r ≡ length s - (at + used) = ap length there ∙ length-drop (at + used) s in
        let l2 : length (drop at s) ≡ length s - at = length-drop at s in
        let k : length s - length r ≡ at + used = omega arith in
        record { there = there ∙ ap (λ (x : ℕ). drop x s) (sym k); later = omega arith; within = omega arith }

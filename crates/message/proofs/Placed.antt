-- What the answer of a step of the reader says: what was read, and where what follows begins. Assumes nothing.
use Prim.Native.Nat.{ℕ, ◌+◌, ◌-◌, ◌<◌, ◌≤◌}
use mathlib.Core.Path.{◌≡◌, refl, ap, ◌∙◌}
use mathlib.Core.List.{List}
use native.Mathlib.Omega.{arith}
use lib.ListN.{length, drop, length-drop}
use Rattle.std.specs.Prelude.{Result, Ok, Err}
use Rattle.message.specs.Read.{Read, got, refused}
use Rattle.message.specs.Number.{decode}
use Rattle.message.specs.Offset.{itself, number_of, number_at, passed_of, number_to}
use Rattle.message.specs.declared.FileCause.{FileCause}
use Rattle.message.specs.declared.NumberRead.{NumberRead}
use Rattle.message.proofs.Parsers.{Behind, next-of}
use Rattle.message.proofs.Numbers.{decode-behind}

-- what was read from an offset on ends at n
pub record Placed {A : Type 0} (least : ℕ) (s : List ℕ) (at : ℕ) (d : Read A) (n : ℕ) : Type 0 where
  pub value : A
  pub is : d ≡ got value (drop n s)
  pub later : at + least ≤ n
  pub within : n ≤ length s

-- the length of what follows gives its offset back
pub offset-is : (s : List ℕ) (n : ℕ) → n ≤ length s → length s - length (drop n s) ≡ n
offset-is s n h = rw length-drop (omega arith)

module _ {A : Type 0} (least : ℕ) (s : List ℕ) (at : ℕ) (d : Read A) (h : at ≤ length s) (behind : (a : A) (r : List ℕ) → d ≡ got a r → Behind least (drop at s) r) where
  placed : (a : A) (r : List ℕ) (n : ℕ) → d ≡ got a r → length s - length r ≡ n → Placed least s at d n
  placed a r n q e =
      let w = next-of least s at h (behind a r q) in
      record { value = a; is = q ∙ cc w.there; later = omega (arith, w.later); within = omega (arith, w.within) }

  pub passed-to : {n : ℕ} → passed_of (length s) d ≡ Ok n → Placed least s at d n
  passed-to {n} e = go d refl e
    where
      go : (t : Read A) → d ≡ t → passed_of (length s) t ≡ Ok n → Placed least s at d n
      go (got a r) q e = placed a r n q (cc)
      go (refused x) q e = absurd (let z : ◌≡◌ {A = ℕ} 0 1 = cc in omega arith)

-- what a number that was read gives
abbrev value-of : Result NumberRead FileCause → ℕ
value-of (Ok r) = r.value
value-of (Err x) = 0

abbrev next-place : Result NumberRead FileCause → ℕ
next-place (Ok r) = r.next
next-place (Err x) = 0

module _ {A : Type 0} (n : ℕ) (d : Read A) where
  pub passed-not : {x : FileCause} → passed_of n d ≡ Err x → d ≡ refused x
  passed-not {x} e = go d refl e
    where
      go : (t : Read A) → d ≡ t → passed_of n t ≡ Err x → d ≡ refused x
      go (got a r) q e = absurd (let z : ◌≡◌ {A = ℕ} 0 1 = cc in omega arith)
      go (refused y) q e = cc

  pub number-not : (f : A → ℕ) {x : FileCause} → number_of f n d ≡ Err x → d ≡ refused x
  number-not f {x} e = go d refl e
    where
      go : (t : Read A) → d ≡ t → number_of f n t ≡ Err x → d ≡ refused x
      go (got a r) q e = absurd (let z : ◌≡◌ {A = ℕ} 0 1 = cc in omega arith)
      go (refused y) q e = cc

-- two numbers that were read are the same
module _ {v w m n : ℕ} (e : number_to v m ≡ number_to w n) where
  pub same-value : v ≡ w
  same-value = ap value-of e

  pub same-next : m ≡ n
  same-next = ap next-place e

-- the number at an offset, wherever that is
pub record NumberFound (s : List ℕ) (at v n : ℕ) : Type 0 where
  pub decoded : decode (drop at s) ≡ got v (drop n s)
  pub later : at < n
  pub within : n ≤ length s

pub found : (s : List ℕ) (at : ℕ) {v n : ℕ} → number_at s at ≡ number_to v n → NumberFound s at v n
found s at {v} {n} e = go (decode (drop at s)) refl e
  where
    go : (d : Read ℕ) → decode (drop at s) ≡ d → number_of itself (length s) d ≡ number_to v n → NumberFound s at v n
    go (got u r) q e =
        let b = decode-behind (drop at s) q in
        let w = next-of 1 s at (omega (arith, b.some, b.inside, length-drop at s)) b in
        let next : length s - length r ≡ n = same-next e in
        let value : u ≡ v = same-value e in
        record { decoded = q ∙ cc w.there; later = omega (arith, w.later); within = omega (arith, w.within) }
    go (refused x) q e = absurd (let z : ◌≡◌ {A = ℕ} 0 1 = cc in omega arith)

pub found-not : (s : List ℕ) (at : ℕ) {x : FileCause} → number_at s at ≡ Err x → decode (drop at s) ≡ refused x
found-not s at e = number-not (length s) (decode (drop at s)) itself e

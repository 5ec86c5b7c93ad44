-- A cause that gets the offset of the refused call by `map_err`: what was answered before. Assumes nothing.
use Prim.Native.Nat.{ℕ}
use mathlib.Core.Path.{◌≡◌, refl}
use native.Mathlib.Omega.{arith}
use Rattle.std.specs.Prelude.{Result, Ok, Err, MatchResult, IsErrAnd}
use Rattle.message.specs.declared.FileCause.{FileCause}
use Rattle.message.specs.declared.FileRefusal.{FileRefusal}

module _ {A : Type 0} (r : Result A FileCause) (q : Result A FileRefusal) (P : FileCause → FileRefusal → Type 0)
    (w : MatchResult r (λ (k : A). q ≡ Ok k) (λ (x : FileCause). IsErrAnd q (P x))) where
  pub goes-on : {n : A} → q ≡ Ok n → r ≡ Ok n
  goes-on {n} e = go r w
    where
      go : (t : Result A FileCause) → MatchResult t (λ (k : A). q ≡ Ok k) (λ (x : FileCause). IsErrAnd q (P x)) → t ≡ Ok n
      go (Ok k) v = cc (v, e)
      go (Err x) v = absurd (rw e at v)

  pub stands-at : {at : ℕ} {y : FileRefusal} → ((x : FileCause) (y : FileRefusal) → P x y → y ≡ record { cause = x; offset = at }) → q ≡ Err y →
      (x : FileCause) × (r ≡ Err x) × (y ≡ record { cause = x; offset = at })
  stands-at {at} {y} f e = go r w
    where
      go : (t : Result A FileCause) → MatchResult t (λ (k : A). q ≡ Ok k) (λ (x : FileCause). IsErrAnd q (P x)) →
          (x : FileCause) × (t ≡ Err x) × (y ≡ record { cause = x; offset = at })
      go (Ok k) v = absurd (let z : ◌≡◌ {A = ℕ} 0 1 = cc (e, v) in omega arith)
      go (Err x) v = (x, refl, f x y (rw e at v))

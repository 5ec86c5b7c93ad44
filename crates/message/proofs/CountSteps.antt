-- A count of energies at an offset. Assumes nothing.
use Prim.Native.Nat.{ℕ, ◌<◌, ◌≤◌}
use mathlib.Core.Path.{◌≡◌, refl}
use mathlib.Core.List.{List}
use native.Mathlib.Omega.{arith}
use borrow.Author.Tests.{lt-ltb, le-ltb}
use lib.ListN.{length, drop}
use Rattle.std.specs.Prelude.{Err}
use Rattle.quantity.specs.Limits.{most_quarters}
use Rattle.message.specs.Read.{Read, got, refused}
use Rattle.message.specs.Call.{count_in}
use Rattle.message.specs.Offset.{itself, number_of, number_at, number_to}
use Rattle.message.specs.declared.FileCause.{FileCause}
use Rattle.message.specs.declared.FileCause.TheVariants.{TooLarge, NoRoom}
use Rattle.message.proofs.Calls.{count-read}
use Rattle.message.proofs.Placed.{offset-is, found, found-not, same-value}

-- a count
module _ (s : List ℕ) (at room : ℕ) {v n : ℕ} (e : number_at s at ≡ number_to v n) where
  pub count-34 : most_quarters < v → Err TooLarge ≡ number_of itself (length s) (count_in room (drop at s))
  count-34 l = rw ((found s at e).decoded, lt-ltb most_quarters v l)

  pub count-35 : v ≤ most_quarters → room < v → Err NoRoom ≡ number_of itself (length s) (count_in room (drop at s))
  count-35 few l = rw ((found s at e).decoded, le-ltb most_quarters v few, lt-ltb room v l)

  pub count-ok : v ≤ most_quarters → v ≤ room → number_to v n ≡ number_of itself (length s) (count_in room (drop at s))
  count-ok few roomy = rw ((found s at e).decoded, le-ltb most_quarters v few, le-ltb room v roomy, offset-is s n (found s at e).within)

pub count-not : (s : List ℕ) (at room : ℕ) {x : FileCause} → number_at s at ≡ Err x → Err x ≡ number_of itself (length s) (count_in room (drop at s))
count-not s at room e = rw (found-not s at e)

pub record Counted (s : List ℕ) (at room v n : ℕ) : Type 0 where
  pub is : count_in room (drop at s) ≡ got v (drop n s)
  pub few : v ≤ most_quarters
  pub roomy : v ≤ room
  pub within : n ≤ length s

pub counted : (s : List ℕ) (at room : ℕ) {v n : ℕ} → number_of itself (length s) (count_in room (drop at s)) ≡ number_to v n → Counted s at room v n
counted s at room {v} {n} e = go (count_in room (drop at s)) refl e
  where
    go : (d : Read ℕ) → count_in room (drop at s) ≡ d → number_of itself (length s) d ≡ number_to v n → Counted s at room v n
    go (got u r) q e =
        let w = count-read room (drop at s) q in
        let same : u ≡ v = same-value e in
        let number : number_at s at ≡ number_to v n = rw w.decoded e in
        let f = found s at number in
        let rest : r ≡ drop n s = cc (w.decoded, f.decoded) in
        record { is = cc; few = omega (arith, w.few); roomy = omega (arith, w.roomy); within = f.within }
    go (refused x) q e = absurd (let z : ◌≡◌ {A = ℕ} 0 1 = cc in omega arith)

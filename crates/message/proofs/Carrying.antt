-- The tests and tables of a call by the papers' numbers: what a file can carry, how many fields a kind has, what follows them. Assumes nothing.
use Prim.Native.Nat.{ℕ, ◌^◌}
use mathlib.Core.Path.{◌≡◌, refl}
use mathlib.Core.Bool.{Bool, true, false, cond}
use mathlib.Core.List.{List, [], ◌∷◌, map}
use native.Mathlib.Omega.{arith}
use borrow.Author.Tests.{eqb-true, eqb-false, ne_eqb}
use lib.Dec.{eqb}
use lib.IntN.{ℤ, pos, negsuc}
use lib.ListN.{length}
use Rattle.quantity.specs.Lists.{all}
use Rattle.quantity.specs.Meaning.{Means, Each}
use Rattle.quantity.proofs.Meanings.{means-lt, means-so, means-all}
use Rattle.message.specs.Call.{submission, is_kind, fields_of, tail_of}
use Rattle.message.specs.Energy.{sent, fits_energy}
use Rattle.message.specs.Laws.{Below, Sendable, HasFields, opening, activation, deactivation, submission as submitting, noticing, assignment, closing, issuing, Follows, series, nothing}
use Rattle.message.specs.Number.{fits_number}
use Rattle.message.proofs.ByKind.{each-kind}

-- "below 2^63"
pub means-numbers : (l : List ℕ) → Means (all fits_number l) (Each 0 Below l)
means-numbers l = means-all fits_number Below 0 (λ n. means-lt n (2 ^ 63)) l

-- "-2^62..2^62-1"
pub means-energy : (z : ℤ) → Means (fits_energy z) (Sendable z)
means-energy (pos n) = means-lt n (2 ^ 62)
means-energy (negsuc n) = means-so (means-lt n (2 ^ 62)) (λ h. omega arith) (λ h. omega arith)

pub means-energies : (l : List ℤ) → Means (all fits_energy l) (Each (pos 0) Sendable l)
means-energies l = means-all fits_energy Sendable (pos 0) means-energy l

-- each kind has its fields
pub has-fields : (k : ℕ) → is_kind k ≡ true → HasFields k (fields_of k)
has-fields = each-kind (λ (k : ℕ). HasFields k (fields_of k)) opening activation deactivation submitting noticing assignment closing issuing

-- and only a kind has them, and no other number of them
pub fields-are : {k n : ℕ} → HasFields k n → (is_kind k ≡ true) × (fields_of k ≡ n)
fields-are opening = (refl, refl)
fields-are activation = (refl, refl)
fields-are deactivation = (refl, refl)
fields-are submitting = (refl, refl)
fields-are noticing = (refl, refl)
fields-are assignment = (refl, refl)
fields-are closing = (refl, refl)
fields-are issuing = (refl, refl)

-- what follows the fields
pub follows : (k : ℕ) (es : List ℤ) → Follows k es (tail_of k es)
follows k es = go (eqb k submission) refl
  where
    go : (b : Bool) → eqb k submission ≡ b → Follows k es (cond b (length es ∷ map sent es) [])
    go true e = rw (eqb-true k submission e) (series es)
    go false e = nothing (eqb-false k submission e)

pub follows-are : {k : ℕ} {es : List ℤ} {tail : List ℕ} → Follows k es tail → tail ≡ tail_of k es
follows-are (series es) = refl
follows-are {k} (nothing n) = rw (ne_eqb k submission n)

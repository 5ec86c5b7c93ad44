-- Document 01's ranges by their numbers, both ways. Assumes nothing.
use Rattle.std.proofs.Common.{◌≡◌, ℕ, ◌<◌, ◌≤◌, ltb, leb, ◌⊎◌, ℤ, nat_abs, inl, inr, arith}
use native.Mathlib.Decide.{ℕ_discrete}
use Rattle.quantity.specs.Limits.{within, quarters_ok, day_ok, deadlines_ok, version_ok, point_ok, area_ok, delta_ok, group_ok, run_ok, energy_ok}
use Rattle.quantity.specs.Meaning.{Means, Between}
use Rattle.quantity.proofs.Meanings.{means-le, means-lt, means-and, means-so}

means-within : (low high n : ℕ) → Means (within low high n) (Between low high n)
means-within low high n = means-and (leb low n) (leb n high) (means-le low n) (λ _. means-le n high)

-- "Q from 1 to 2,980"
pub means-quarters : (q : ℕ) → Means (quarters_ok q) (Between 1 2980 q)
means-quarters q = means-within 1 2980 q

-- "working-day number 0 to 400"
pub means-day : (d : ℕ) → Means (day_ok d) (d ≤ 400)
means-day d = means-le d 400

-- "1 ≤ F < C < K ≤ 399"
pub means-deadlines : (f c k : ℕ) → Means (deadlines_ok f c k) ((1 ≤ f) × ((f < c) × ((c < k) × (k ≤ 399))))
means-deadlines f c k =
    means-and (leb 1 f) _ (means-le 1 f)
    (λ _. means-and (ltb f c) _ (means-lt f c)
    (λ _. means-and (ltb c k) (leb k 399) (means-lt c k)
    (λ _. means-le k 399)))

-- "Version: 1 to 99,999,999,999,999."
pub means-version : (x : ℕ) → Means (version_ok x) (Between 1 99999999999999 x)
means-version x = means-within 1 99999999999999 x

-- "Points are 1 to 256"
pub means-point : (p : ℕ) → Means (point_ok p) (Between 1 256 p)
means-point p = means-within 1 256 p

-- "Areas 1 to 16"
pub means-area : (a : ℕ) → Means (area_ok a) (Between 1 16 a)
means-area a = means-within 1 16 a

-- "area (0 for T)"
pub means-delta : (a : ℕ) → Means (delta_ok a) (a ≤ 16)
means-delta a = means-le a 16

-- "Balance groups 1 to 64."
pub means-group : (g : ℕ) → Means (group_ok g) (Between 1 64 g)
means-group g = means-within 1 64 g

-- "runs 1 or 2"
pub means-run : (r : ℕ) → Means (run_ok r) ((r ≡ 1) ⊎ (r ≡ 2))
means-run r = means-so (means-within 1 2 r) (λ b. go (ℕ_discrete r 1) b) back
  where
    go : Dec (r ≡ 1) → Between 1 2 r → (r ≡ 1) ⊎ (r ≡ 2)
    go (yes e) b = inl e
    go (no ne) b = inr (omega (arith, b.0, b.1, ne))

    back : (r ≡ 1) ⊎ (r ≡ 2) → Between 1 2 r
    back (inl e) = (omega arith, omega arith)
    back (inr e) = (omega arith, omega arith)

-- "each from -10^12 to 10^12"
pub means-energy : (e : ℤ) → Means (energy_ok e) (nat_abs e ≤ 1000000000000)
means-energy e = means-le (nat_abs e) 1000000000000

-- The steps of a series: its count, its numbers, the buffer filled. Assumes nothing.
use Prim.Native.Nat.{ℕ}
use mathlib.Core.Path.{◌≡◌, refl, ◌∙◌}
use mathlib.Core.Bool.{true}
use mathlib.Core.List.{List, map}
use native.Mathlib.Omega.{arith}
use lib.IntN.{ℤ}
use lib.ListN.{length, drop, length-map}
use Rattle.std.specs.Prelude.{Result, Ok, Err}
use Rattle.message.specs.Read.{Read, got, refused, accepted}
use Rattle.message.specs.Number.{numbers_in}
use Rattle.message.specs.Energy.{received}
use Rattle.message.specs.Call.{count_in, series_in}
use Rattle.message.specs.Offset.{itself, number_of, passed_of, number_to}
use Rattle.message.specs.Series.{list_of, filled}
use Rattle.message.specs.declared.FileCause.{FileCause}
use Rattle.message.specs.declared.NumberRead.{NumberRead}
use Rattle.message.proofs.Numbers.{numbers-read}
use Rattle.message.proofs.Placed.{offset-is, Placed, passed-to, passed-not, number-not}
use Rattle.message.proofs.CountSteps.{Counted}

module _ {A : Type 0} (n : ℕ) (d : Read A) where
  pub is-accepted : {k : ℕ} → passed_of n d ≡ Ok k → accepted d ≡ true
  is-accepted {k} e = go d e
    where
      go : (t : Read A) → passed_of n t ≡ Ok k → accepted t ≡ true
      go (got a r) e = refl
      go (refused y) e = absurd (let z : ◌≡◌ {A = ℕ} 0 1 = cc in omega arith)

-- what is answered of a list of energies: its length, and the buffer with the energies in its first places
abbrev pub SeriesPost : List ℕ → Read (List ℤ) → List ℕ → Result NumberRead FileCause → List ℕ → Type 0
SeriesPost s d series₀ r series = (r ≡ number_of length (length s) d) × (series ≡ filled (list_of d) series₀)

pub series-refused : (s : List ℕ) (d : Read (List ℤ)) (series₀ : List ℕ) {x : FileCause} → d ≡ refused x → SeriesPost s d series₀ (Err x) series₀
series-refused s d series₀ e = rw e (refl, refl)

pub count-refused : (s : List ℕ) (at room : ℕ) {x : FileCause} → number_of itself (length s) (count_in room (drop at s)) ≡ Err x → series_in room (drop at s) ≡ refused x
count-refused s at room e = rw (number-not (length s) (count_in room (drop at s)) itself e)

module _ (s : List ℕ) (at room : ℕ) {v n : ℕ} (w : Counted s at room v n) where
  pub all-there : {m : ℕ} → passed_of (length s) (numbers_in v (drop n s)) ≡ Ok m → accepted (numbers_in v (drop n s)) ≡ true
  all-there e = is-accepted (length s) (numbers_in v (drop n s)) e

  pub numbers-refused : {x : FileCause} → passed_of (length s) (numbers_in v (drop n s)) ≡ Err x → series_in room (drop at s) ≡ refused x
  numbers-refused e = rw (w.is, passed-not (length s) (numbers_in v (drop n s)) e)

  pub series-ok : {m : ℕ} (series₀ : List ℕ) {series : List ℕ} → passed_of (length s) (numbers_in v (drop n s)) ≡ Ok m →
      series ≡ filled (map received (list_of (numbers_in v (drop n s)))) series₀ → SeriesPost s (series_in room (drop at s)) series₀ (number_to v m) series
  series-ok {m} series₀ {series} e q = go (passed-to v s n (numbers_in v (drop n s)) w.within (λ a r p. (numbers-read v (drop n s) p).behind) e)
    where
      go : Placed v s n (numbers_in v (drop n s)) m → SeriesPost s (series_in room (drop at s)) series₀ (number_to v m) series
      go p =
          let size : length (map received p.value) ≡ v = length-map p.value received ∙ (numbers-read v (drop n s) p.is).count in
          (rw (w.is, p.is, offset-is s m p.within, size), q ∙ rw (w.is, p.is))

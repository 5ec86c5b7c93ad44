-- How far numbers have been read into fields, and each step of it. Assumes nothing.
use Prim.Native.Nat.{ℕ, zero, suc, ◌+◌, ◌-◌, ◌<◌, ◌≤◌}
use mathlib.Core.Path.{◌≡◌, refl, sym, ap, ◌∙◌}
use mathlib.Core.List.{List}
use native.Mathlib.Omega.{arith}
use lib.ListN.{length, drop, take, set, replicate, length-set, take-append-drop}
use Rattle.message.specs.Number.{numbers_in}
use Rattle.std.specs.Prelude.{Ok, Err}
use Rattle.message.specs.Offset.{number_at, number_to}
use Rattle.reader.specs.Reader.{padded, fields_read}
use Rattle.message.specs.Call.{most_fields}
use Rattle.message.specs.declared.FileCause.{FileCause}
use Rattle.message.proofs.Placed.{offset-is}
use Rattle.message.proofs.Pouring.{front-more, back-more}
use Rattle.message.proofs.Passing.{Passing, started, one-more, stopped, done}

-- the fields that were read stand at the front, and 0 behind them
pub record Filling (s : List ℕ) (at n : ℕ) (fields : List ℕ) (j i : ℕ) : Type 0 where
  pub pass : Passing s at n j i (take i fields)
  pub long : length fields ≡ most_fields
  pub zeros : drop i fields ≡ replicate (most_fields - i) 0

pub filling : (s : List ℕ) (at n : ℕ) → at ≤ length s → Filling s at n (replicate most_fields 0) at 0
filling s at n h = record { pass = started s at n h; long = refl; zeros = refl }

drop-zeros : (k : ℕ) → drop {A = ℕ} 1 (replicate k 0) ≡ replicate (k - 1) 0
drop-zeros zero = refl
drop-zeros (suc k) = let e : suc k - 1 ≡ k = omega arith in rw e

module _ {s : List ℕ} {at n : ℕ} {fields : List ℕ} {j i : ℕ} (w : Filling s at n fields j i) where
  pub filled-more : {v m : ℕ} → i < n → n ≤ most_fields → number_at s j ≡ number_to v m → Filling s at n (set fields i v) m (i + 1)
  filled-more {v} {m} h few e =
      let inside : i < length fields = omega (arith, w.long) in
      let fewer : most_fields - i - 1 ≡ most_fields - (i + 1) = omega arith in
      record {
        pass = rw (front-more fields i v inside refl) (one-more w.pass h e);
        long = length-set fields i v ∙ w.long;
        zeros = back-more fields i v inside ∙ ap (λ (x : List ℕ). drop 1 x) w.zeros ∙ drop-zeros (most_fields - i) ∙ ap (λ (k : ℕ). replicate k 0) fewer;
      }

  pub all-filled : n ≤ i → Ok (record { fields = fields; next = j }) ≡ fields_read (length s) (numbers_in n (drop at s))
  all-filled h = rw (done w.pass h, offset-is s j w.pass.inside) (ap (λ (l : List ℕ). Ok (record { fields = l; next = j })) back)
    where
      back : fields ≡ padded (take i fields)
      back = sym (rw (w.pass.size, sym w.zeros) (take-append-drop i fields))

  pub not-filled : {x : FileCause} → i < n → number_at s j ≡ Err x → Err x ≡ fields_read (length s) (numbers_in n (drop at s))
  not-filled h e = rw (stopped w.pass h e)

-- How many numbers of a list have been copied into another of its length. Assumes nothing.
use Prim.Native.Nat.{ℕ, ◌+◌, ◌<◌, ◌≤◌}
use mathlib.Core.Path.{◌≡◌, refl, sym, ◌∙◌}
use mathlib.Core.List.{List}
use native.Mathlib.Omega.{arith}
use native.Mathlib.Numerals.{add-one}
use lib.ListN.{length, take, set, get_or, length-set}
use lib.Seq.{take-suc, take-suc-set, take_all}

pub record Copying (n : ℕ) (from to : List ℕ) (i : ℕ) : Type 0 where
  pub inside : i ≤ n
  pub all : length from ≡ n
  pub long : length to ≡ n
  pub same : take i to ≡ take i from

pub copying : (n : ℕ) (from to : List ℕ) → length from ≡ n → length to ≡ n → Copying n from to 0
copying n from to a b = record { inside = omega arith; all = a; long = b; same = refl }

module _ {n : ℕ} {from to : List ℕ} {i : ℕ} (w : Copying n from to i) where
  pub copied-more : {x : ℕ} → i < n → x ≡ get_or from i 0 → Copying n from (set to i x) (i + 1)
  copied-more {x} h e =
      let there : i < length to = omega (arith, w.long) in
      let here : i < length from = omega (arith, w.all) in
      record {
        inside = omega arith;
        all = w.all;
        long = length-set to i x ∙ w.long;
        same = rw (add-one i, take-suc-set to i x there, take-suc from i 0 here, w.same, e);
      }

  pub copied : n ≤ i → to ≡ from
  copied h = sym (take_all i to (omega (arith, w.long))) ∙ w.same ∙ take_all i from (omega (arith, w.all))

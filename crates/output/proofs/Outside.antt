-- T is the outside exchange. Assumes nothing.
use Prim.Native.Nat.{ℕ, ◌≤◌, ◌<◌}
use mathlib.Core.Path.{◌≡◌, sym, ◌∙◌}
use mathlib.Core.List.{List, []}
use native.Mathlib.Omega.{arith}
use lib.ListN.{length, replicate, length-replicate}
use Rattle.quantity.specs.Limits.{runs, groups}
use Rattle.quantity.specs.Sum.{sum_to}
use Rattle.quantity.proofs.Sums.{sum-same}
use Rattle.book.specs.Place.{group_row}
use Rattle.model.specs.Call.{Stores, lengths_of, Told}
use Rattle.model.specs.Plain.{opening_of, figure, outside, plain_end}
use Rattle.replay.specs.Given.{given_in}
use Rattle.replay.specs.Replay.{Leaving}
use Rattle.replay.proofs.Main.{gives}
use Rattle.output.specs.Output.{lent, found_in, told_in}

-- in any stores that are left with the plain desk's figures the groups add up to it
leaves : (h : List Told) (s after : Stores) → Leaving h s after → (run q : ℕ) → 1 ≤ run → run ≤ runs → q < (opening_of h).quarters
    → sum_to groups (λ (g : ℕ). figure h run (group_row g) q) ≡ outside h run q
leaves h s after L run q lo hi less =
    sum-same groups (λ (g : ℕ). figure h run (group_row g) q) _ (λ i a b. sym (L.figures run (group_row i) q lo hi (omega arith) less)) ∙ L.sum run q lo hi less

-- "the 64 group figures add up to the outside exchange": the sum of a T line
pub total-outside : (file : List ℕ) (run q : ℕ) → 1 ≤ run → run ≤ runs → q < (opening_of (plain_end [] (told_in file))).quarters
    → sum_to groups (λ (g : ℕ). figure (plain_end [] (told_in file)) run (group_row g) q) ≡ outside (plain_end [] (told_in file)) run q
total-outside file run q lo hi less =
    let cs = given_in (found_in file).calls in
    let s : Stores = record { values = replicate 4096 0; book = replicate 1296 0; log = replicate 2048 0; schedules = replicate 512 0 } in
    let n : lengths_of s ≡ lent = λ i. record { values = length-replicate {A = ℕ} 4096 0 i; book = length-replicate {A = ℕ} 1296 0 i; log = length-replicate {A = ℕ} 2048 0 i; schedules = length-replicate {A = ℕ} 512 0 i } in
    leaves (plain_end [] (told_in file)) s _ (rw n at (gives s [] (replicate (length cs) 0) cs (omega (arith, length-replicate {A = ℕ} (length cs) 0))).stores) run q lo hi less

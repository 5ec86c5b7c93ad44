-- The table put together, entry by entry.
use Rattle.std.proofs.lemmas.Grind.{common_steps}
use Prim.Native.Nat.{ℕ, ◌+◌, ◌<◌}
use mathlib.Core.Path.{◌≡◌, ◌∙◌, ap}
use mathlib.Core.List.{List}
use native.Mathlib.Omega.{arith}
use lib.ListN.{length, get_or, set}
use Rattle.workdays.specs.declared.Month.{Month}
use Rattle.workdays.specs.Date.{length_of, month_at}
use Rattle.workdays.specs.Count.{worked, before}
use Rattle.workdays.proofs.Counts.{month-more}

-- an entry more, put at its place
pub entry-put : (l : List ℕ) (i w : ℕ) → i < length l → w ≡ before i → ((k : ℕ) → k < i → get_or l k 0 ≡ before k) → (k : ℕ) → k < i + 1 → get_or (set l i w) k 0 ≡ before k
entry-put l i w h e f k s = grind (arith, common_steps)

-- a month's working days added
pub month-added : (i w r d : ℕ) (m : Month) → w ≡ before i → m ≡ month_at i → d ≡ length_of m → r ≡ worked m d → w + r ≡ before (i + 1)
month-added i w r d m p q s t =
    let a : r ≡ worked m (length_of m) = t ∙ ap (worked m) s in
    let b : r ≡ worked (month_at i) (length_of (month_at i)) = a ∙ ap (λ (k : Month). worked k (length_of k)) q in
    omega (arith, month-more i)

-- Laws of the log: four stores, one after another, are one row. Assumes nothing.
use mathlib.Core.Path.{◌≡◌, refl, ap}
use mathlib.Core.List.{List, [], ◌∷◌}
use Prim.Native.Nat.{ℕ, zero, suc, ◌+◌, ◌*◌, ◌^◌, ◌≤◌, ◌<◌}
use native.Mathlib.Omega.{arith}
use mathlib.Core.Bool.{false}
use borrow.Author.Tests.{ltb-false}
use lib.ListN.{length, set}
use Rattle.std.specs.Prelude.{Option, Some, None}
use Rattle.book.specs.Row.{splice}
use Rattle.model.specs.Causes.{log_full}
use Rattle.model.specs.declared.LogRow.{LogRow}
use Rattle.amend.specs.Lent.{RoomIn, MoreIn}

module _ {A : Type 0} (a b c d : A) where
  pub four-stored : (l : List A) (i : ℕ) → i + 4 ≤ length l → set (set (set (set l i a) (i + 1) b) (i + 2) c) (i + 3) d ≡ splice l i 4 (a ∷ b ∷ c ∷ d ∷ [])
  unfolding splice
  four-stored [] i h = absurd (omega arith)
  four-stored (x ∷ []) zero h = absurd (omega arith)
  four-stored (x ∷ y ∷ []) zero h = absurd (omega arith)
  four-stored (x ∷ y ∷ z ∷ []) zero h = absurd (omega arith)
  four-stored (x ∷ y ∷ z ∷ w ∷ l) zero h = refl
  four-stored (x ∷ l) (suc i) h =
      let e1 : suc i + 1 ≡ suc (i + 1) = omega arith in
      let e2 : suc i + 2 ≡ suc (i + 2) = omega arith in
      let e3 : suc i + 3 ≡ suc (i + 3) = omega arith in
      rw (e1, e2, e3) (ap (λ (m : List A). x ∷ m) (four-stored l i (omega arith)))

-- a row that the log has room for can be counted
pub room-counted : (n : ℕ) (log : List ℕ) (due : Option LogRow) → length log < 2 ^ 64 → RoomIn n log due → MoreIn n due
room-counted n log None h r = tt
room-counted n log (Some x) h r = omega arith

-- a log that is not full has room for the row that is due
pub room-left : (used opening : ℕ) (log : List ℕ) (x : Option LogRow) → length log ≡ opening → log_full used opening x ≡ false → RoomIn used log x
room-left used opening log None h e = tt
room-left used opening log (Some r) h e = omega (arith, ltb-false opening (4 * (used + 1)) e)

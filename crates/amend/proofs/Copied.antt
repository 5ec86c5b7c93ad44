-- Laws of copies, and of a posting from one. Assumes nothing.
use mathlib.Core.Path.{◌≡◌, refl, ap}
use mathlib.Core.List.{List, [], ◌∷◌, ◌++◌}
use Prim.Native.Nat.{ℕ, ◌+◌, ◌≤◌}
use native.Mathlib.Omega.{arith}
use lib.ListN.{length}
use lib.Seq.{take_at}
use Rattle.book.specs.Row.{zip, part}
use Rattle.book.specs.Posting.{posted}
use Rattle.book.specs.declared.Way.{Way}
use Rattle.book.proofs.Rows.{length-part}

-- what is copied, and not what stood there
abbrev pub second : ℕ → ℕ → ℕ
second a b = b

pub all-second : (r s : List ℕ) → length s ≡ length r → zip second r s ≡ s
unfolding zip
all-second [] [] e = refl
all-second [] (y ∷ s) e = absurd (omega arith)
all-second (x ∷ r) [] e = absurd (omega arith)
all-second (x ∷ r) (y ∷ s) e = ap (λ (l : List ℕ). y ∷ l) (all-second r s (omega arith))

-- a posting from a copy of a part is one from the part
pub post-copied : (way : Way) (book source rest : List ℕ) (start q from : ℕ) → from + q ≤ length source
    → posted way book start q (part source from q ++ rest) 0 ≡ posted way book start q source from
unfolding posted part
post-copied way book source rest start q from fits = rw (take_at (part source from q) rest q (length-part source from q fits))

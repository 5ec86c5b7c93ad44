-- Laws of a series in its row: it fills the row, and its words are those that it is read from. Assumes nothing.
use mathlib.Core.Path.{◌≡◌, refl}
use mathlib.Core.List.{List, [], ◌∷◌, map}
use Prim.Native.Nat.{ℕ, suc, ◌^◌, ◌<◌}
use lib.ListN.{get_or}
use Rattle.quantity.specs.Word.{word, signed}
use Rattle.quantity.proofs.Words.{word-signed}

-- the words of what a series is read as
pub words-signed : (l : List ℕ) → ((i : ℕ) → get_or l i 0 < 2 ^ 64) → map word (map signed l) ≡ l
words-signed [] h = refl
words-signed (x ∷ l) h =
    let e : word (signed x) ≡ x = word-signed x (h 0) in
    let r : map word (map signed l) ≡ l = words-signed l (λ i. h (suc i)) in
    cc

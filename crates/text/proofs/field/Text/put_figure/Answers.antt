-- `put_figure` meets its contract. Assumes nothing.
use Prim.Native.Nat.{ℕ}
use mathlib.Core.Path.{ap}
use mathlib.Core.List.{List, ◌∷◌}
use Rattle.text.specs.Text.{blank}
use Rattle.text.proofs.Texts.{puts-as, puts-then, text-up, text-down}
use borrow.Author.Rules.{rules}
use Rattle.text.proofs.field.Text.put_figure.Goals as goal

pub returns-then-not-is_negative : goal.returns-then-not-is_negative
returns-then-not-is_negative c =
    puts-as c.put_field.ensures (search rules) (ap (λ (t : List ℕ). blank ∷ t) (text-up _ (search rules)))

pub returns : goal.returns
returns c =
    puts-as
    (puts-then (puts-then c.put_byte.ensures c.put_byte-2.ensures) c.put_number.ensures)
    (search rules)
    (ap (λ (t : List ℕ). blank ∷ t) (text-down _ (search rules) (search rules)))

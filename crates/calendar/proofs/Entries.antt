-- The table by the rule, in one pass: the count is carried from entry to entry.
use Prim.Native.Nat.{ℕ, zero, suc, ◌+◌, ◌<◌}
use mathlib.Core.Path.{◌≡◌, refl, sym, ◌∙◌, ap}
use mathlib.Core.List.{List, [], ◌∷◌}
use native.Mathlib.Nat.{add-zero, zero-add, add-suc, suc-add, le_of_suc-le-suc, not-suc-le-zero}
use lib.ListN.{get_or}
use Rattle.workdays.specs.Date.{months, length_of, month_at}
use Rattle.workdays.specs.Count.{worked, before}

-- so many entries from place i on, where n working days lie before it
unfoldable pub entries_from : (count i n : ℕ) → List ℕ
entries_from zero i n = []
entries_from (suc c) i n = n ∷ entries_from c (suc i) (n + worked (month_at i) (length_of (month_at i)))

from : (c i n : ℕ) → n ≡ before i → (k : ℕ) → k < c → get_or (entries_from c i n) k 0 ≡ before (i + k)
unfolding entries_from before
from zero i n e k h = absurd (not-suc-le-zero h)
from (suc c) i n e zero h = e ∙ ap before (sym (add-zero i))
from (suc c) i n e (suc k) h =
    from c (suc i) (n + worked (month_at i) (length_of (month_at i))) (ap (λ (a : ℕ). a + worked (month_at i) (length_of (month_at i))) e) k
    (le_of_suc-le-suc h)
    ∙ ap before (suc-add i k ∙ sym (add-suc i k))

-- "The table must equal the generator's rule at every entry": the list of all entries, worked out by the rule
pub every-entry : (k : ℕ) → k < months → get_or (entries_from months 0 0) k 0 ≡ before k
unfolding before
every-entry k h = from months 0 0 refl k h ∙ ap before (zero-add k)

-- Laws of the sum over the groups. Assumes nothing.
use Prim.Native.Nat.{ℕ, zero, suc, ◌+◌, ◌-◌, ◌^◌, ◌≤◌, ◌<◌}
use mathlib.Core.Path.{◌≡◌, refl, sym, ap₂, ◌∙◌}
use mathlib.Core.List.{List}
use native.Mathlib.Omega.{arith}
use lib.ListN.{get_or}
use Rattle.quantity.specs.Sum.{sum_to}
use Rattle.quantity.specs.Word.{word, signed, plus}
use Rattle.quantity.proofs.Words.{word-plus, word-signed}
use Rattle.book.specs.Place.{figure_at, group_row}
use Rattle.output.specs.Figures.{word_of, read_of, total_of}

module _ (s : List ℕ) (q r n : ℕ) where
  pub total-none : 0 ≡ total_of s q r n 0
  unfolding total_of
  total-none = λ i. 0

  -- one group more
  pub total-more : (g : ℕ) {sum figure next : ℕ} → 1 ≤ g → sum ≡ total_of s q r n (g - 1) → figure ≡ word_of s q r n g → next ≡ plus sum figure
      → next ≡ total_of s q r n (g + 1 - 1)
  unfolding total_of
  total-more g k e f h =
      let less : suc (g - 1) ≡ g = omega arith in
      let same : g + 1 - 1 ≡ suc (g - 1) = omega arith in
      rw same (h ∙ (λ i. plus (e i) ((rw (← less) at f) i)))

  -- it is the word of the exact sum
  pub total-word : ((i : ℕ) → get_or s i 0 < 2 ^ 64) → (g : ℕ) → total_of s q r n g ≡ word (sum_to g (read_of s q r n))
  unfolding total_of sum_to word
  total-word fits zero = refl
  total-word fits (suc g) =
      let w = word_of s q r n (suc g) in
      ap₂ plus (total-word fits g) (sym (word-signed w (fits (figure_at q r (group_row (suc g)) n))))
      ∙ sym (word-plus (sum_to g (read_of s q r n)) (signed w))

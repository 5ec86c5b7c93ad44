-- `energies_ok` meets its contract. The loop's invariant: the flag is the test of the energies passed. Assumes nothing.
use Rattle.std.proofs.Common.{◌≡◌, ℕ, Bool, take}
use Rattle.quantity.specs.Limits.{energy_ok}
use Rattle.quantity.specs.Lists.{all}
use Rattle.quantity.specs.Word.{signed}
use Rattle.checks.proofs.series.energies_ok.Given as goal

-- the range of an energy, by its word
abbrev pub energy_word : ℕ → Bool
energy_word w = energy_ok (signed w)

abbrev pub invariant-loop-energy : goal.invariant-loop-energy
invariant-loop-energy l = l.ok ≡ all energy_word (take l.energy-index l.series)

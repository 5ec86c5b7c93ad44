-- `other_lengths` meets its contract. Assumes nothing.
use mathlib.Core.Path.{refl}
use Rattle.model.specs.Causes.{other_lengths}
use Rattle.checks.proofs.stores.other_lengths.Goals as goal

pub returns : goal.returns
unfolding other_lengths
returns c = λ _. refl

-- `place-in` meets its contract. Assumes nothing.
use mathlib.Core.Path.{ap, ◌∙◌}
use Rattle.checks.specs.Survey.{place_of}
use Rattle.model.specs.declared.Asks.{Asks}
use Rattle.dispatch.proofs.asks.place_in.Goals as goal

pub returns : goal.returns
returns c gs es = c.place_of.ensures ∙ ap (λ (x : Asks). place_of x.point.0) (c.asks_of.ensures gs es)

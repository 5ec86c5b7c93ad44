-- `asks_of` meets its contract. Assumes nothing.
use mathlib.Core.Logic.{⊎_elim}
use Rattle.dispatch.specs.Asked.{asked}
use Rattle.dispatch.proofs.asks.asks_of.Goals as goal

pub returns-in-Activate : goal.returns-in-Activate
unfolding asked
returns-in-Activate c gs es = rw c.in-Activate.is c.asking_series.ensures

pub returns-in-Deactivate : goal.returns-in-Deactivate
unfolding asked
returns-in-Deactivate c gs es = rw c.in-Deactivate.is c.asking_versions.ensures

pub returns-in-Open : goal.returns-in-Open
unfolding asked
returns-in-Open c gs es =
    let e = c.asking_nothing.ensures in
    ⊎_elim (λ p. rw p.4 e) (⊎_elim (λ p. rw p.3 e) (⊎_elim (λ p. rw p.2 e) (λ p. rw p.2 e))) c.in-Open.is

pub returns-in-Submit : goal.returns-in-Submit
unfolding asked
returns-in-Submit c gs es =
    let e = c.asking_versions-in-Submit.ensures in
    ⊎_elim (λ p. rw p.1 e) (λ p. rw p.2 e) c.in-Submit.is

-- An effect carried out piece by piece is the effect. Assumes nothing.
use mathlib.Core.Path.{◌≡◌}
use Rattle.state.specs.Desk.{with_frame}
use Rattle.state.specs.declared.Desk.{Desk}
use Rattle.state.specs.Effect.{points_by, versions_by, changed_by}
use Rattle.state.specs.declared.Effect.{Effect}

-- a desk that has the tables, with the frame put beside them
pub applied : (d n : Desk) (e : Effect) → (n.points ≡ points_by d e.tables) × (n.versions ≡ versions_by d e.tables) → with_frame n e.frame ≡ changed_by d e
applied d n e h = rw (h.0, h.1)

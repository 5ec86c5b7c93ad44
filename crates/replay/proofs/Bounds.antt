-- After any calls of a file the month has at most 2,980 quarter hours, and "No figure exceeds 256 × 10^12 in size." Assumes nothing.
use Prim.Native.Nat.{ℕ, ◌*◌, ◌≤◌}
use mathlib.Core.Path.{refl, ap}
use mathlib.Core.List.{List, [], ◌∷◌, map}
use native.Mathlib.Omega.{arith}
use lib.IntN.{nat_abs}
use Rattle.quantity.specs.Limits.{points, most_quarters, most_energy, quarters_ok}
use Rattle.quantity.proofs.Tests.{and-left, within-high}
use Rattle.state.specs.Valid.{opening_ok}
use Rattle.model.specs.Agreement.{Running, Chained, fresh}
use Rattle.model.specs.Call.{Stores, lengths_of, Told}
use Rattle.model.specs.Plain.{Worked, worked_out, opening_of, figure, plain_next, plain_end}
use Rattle.model.proofs.Corollaries.{figure-small}
use Rattle.model.proofs.Ends.{small-figure}
use Rattle.replay.specs.Feeding.{told_as, tells}
use Rattle.replay.specs.Given.{Given, given}
use Rattle.replay.specs.Play.{handed}
use Rattle.replay.specs.Replay.{told_of}
use Rattle.replay.proofs.Going.{Going, unopened, opened}
use Rattle.replay.proofs.Opened.{own_of}
use Rattle.replay.proofs.Steps.{kept}

pub record Bounded (h : List Told) : Type 0 where
  pub few : (opening_of h).quarters ≤ most_quarters
  pub small : (run k q : ℕ) → nat_abs (figure h run k q) ≤ points * most_energy

none-bounded : Stores → Bounded []
unfolding worked_out plain_end Chained
none-bounded s = record { few = omega arith; small = figure-small s [] tt }

going-bounded : (s : Stores) (r : Running) (h : List Told) → Going s r h → Bounded h
unfolding opening_ok
going-bounded s r h (unopened a b) = rw b (none-bounded s)
going-bounded s r h (opened G) =
    let H = G.holds in
    let Q = r.desk.frame.opening.quarters in
    let few = within-high 1 2980 Q (and-left (quarters_ok Q) _ H.kept.framed.opening) in
    record { few = rw (← ap (λ (w : Worked). w.opening.quarters) H.works) few; small = small-figure r.desk (own_of r) h H }

-- one call after the other
goes-bounded : (s : Stores) (r : Running) (h : List Told) (cs : List Given) → Going s r h → Bounded (plain_end h (tells (lengths_of s) h (map given cs)))
unfolding plain_end tells
goes-bounded s r h [] G = going-bounded s r h G
goes-bounded s r h (c ∷ cs) G = goes-bounded s (handed r (given c)) (plain_next h (told_as (lengths_of s) h (given c))) cs (kept s r h c G)

pub replay-bounded : (s : Stores) (cs : List Given) → Bounded (plain_end [] (told_of s cs))
replay-bounded s cs = goes-bounded s (fresh s) [] cs (unopened refl refl)

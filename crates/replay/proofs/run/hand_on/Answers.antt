-- `hand_on` meets its contract: the record of the point that the call names stands in its own place. Assumes nothing.
use Prim.Native.Nat.{ℕ, ◌<◌}
use mathlib.Core.Path.{◌≡◌}
use mathlib.Core.List.{[]}
use native.Mathlib.Omega.{arith}
use Rattle.model.specs.Causes.{terms}
use Rattle.dispatch.specs.Asked.{asked}
use Rattle.checks.specs.Survey.{place_of}
use Rattle.checks.proofs.Found.{place-in}
use Rattle.replay.proofs.run.hand_on.Goals.{After-place_in}
use Rattle.replay.proofs.run.hand_on.Goals as goal

inside : (p : ℕ) {n : ℕ} → n ≡ place_of p → n < 256
inside p e = rw e (place-in p)

named : (c : After-place_in) → c.place_in.result < 256
named c = inside (terms (asked c.args.read.call [] [])).asks.point.0 (c.place_in.ensures [] [])

pub offset_bounds-desk-place_in : goal.offset_bounds-desk-place_in
offset_bounds-desk-place_in c = let h = named (goal.at.offset_bounds-desk-place_in c).After-place_in in omega (arith, h)

pub bounds-desk-place_in : goal.bounds-desk-place_in
bounds-desk-place_in c = named (goal.at.bounds-desk-place_in c).After-place_in

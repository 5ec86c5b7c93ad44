-- The desk that a replay holds, from a fresh one on: within its limits exactly where it is open, and fresh where it is not. Assumes nothing.
use mathlib.Core.Path.{◌≡◌, refl, sym, ap, ◌∙◌}
use mathlib.Core.Bool.{false, true≢false}
use mathlib.Core.List.{List, []}
use Rattle.state.specs.Desk.{is_open, fresh_desk}
use Rattle.state.specs.Valid.{opening_ok, frame_ok, valid_desk}
use Rattle.model.specs.Agreement.{Running, fresh}
use Rattle.model.specs.Call.{Stores, lengths_of, Told}
use Rattle.model.specs.Plain.{plain_next}
use Rattle.model.proofs.Invariant.{holds-open, holds-valid}
use Rattle.replay.specs.Feeding.{told_as}
use Rattle.replay.specs.Given.{Given, given}
use Rattle.replay.specs.Play.{handed}
use Rattle.replay.proofs.Going.{Going, unopened, opened}
use Rattle.replay.proofs.Opened.{own_of}
use Rattle.replay.proofs.Steps.{kept}

-- the invariant holds, with some list of accepted calls
pub data Reached (s : Stores) (r : Running) : Type 0 where
  reached : (h : List Told) → Going s r h → Reached s r

pub reached-first : (s : Stores) → Reached s (fresh s)
reached-first s = reached [] (unopened refl refl)

module _ (s : Stores) (r : Running) where
  pub reached-next : (c : Given) → Reached s r → Reached s (handed r (given c))
  reached-next c (reached h G) = reached (plain_next h (told_as (lengths_of s) h (given c))) (kept s r h c G)

  valid-open : (h : List Told) → Going s r h → valid_desk r.desk ≡ is_open r.desk.frame.opening
  unfolding valid_desk frame_ok opening_ok
  valid-open h (unopened a b) = rw a refl
  valid-open h (opened G) = holds-valid r.desk (own_of r) h G.holds ∙ sym (holds-open r.desk (own_of r) h G.holds)

  closed-fresh : (h : List Told) → Going s r h → is_open r.desk.frame.opening ≡ false → r.desk ≡ fresh_desk
  closed-fresh h (unopened a b) e = ap (λ (x : Running). x.desk) a
  closed-fresh h (opened G) e = absurd (true≢false (sym (holds-open r.desk (own_of r) h G.holds) ∙ e))

  -- cause 1 of such a desk is the missing opening alone
  pub within : Reached s r → valid_desk r.desk ≡ is_open r.desk.frame.opening
  within (reached h G) = valid-open h G

  -- and one that is not open has the tables of a fresh one
  pub still-fresh : Reached s r → is_open r.desk.frame.opening ≡ false → r.desk ≡ fresh_desk
  still-fresh (reached h G) e = closed-fresh h G e

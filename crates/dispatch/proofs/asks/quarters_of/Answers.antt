-- `quarters_of` meets its contract. Assumes nothing.
use Prim.Native.Nat.{ℕ}
use mathlib.Core.Path.{◌≡◌, refl}
use mathlib.Core.List.{List}
use lib.IntN.{ℤ}
use Rattle.quantity.specs.declared.Day.{Day}
use Rattle.message.specs.declared.DeskCall.{DeskCall}
use Rattle.message.specs.declared.DeskCall.TheVariants.{Open, Activate, Deactivate, Submit, Notice, Assign, Close, Issue}
use Rattle.model.specs.Causes.{terms}
use Rattle.dispatch.specs.Asked.{asked}
use Rattle.dispatch.proofs.asks.quarters_of.Goals as goal

pub returns-in-Open : goal.returns-in-Open
unfolding asked
returns-in-Open c gs es = rw c.in-Open.is

-- a call that is no opening
other : (d : DeskCall) (q : ℕ) (gs : List ℕ) (es : List ℤ) → ((n : ℕ) (x y z : Day) → d ≡ Open n x y z → ⊥) → q ≡ (terms (asked d gs es)).quarters q
unfolding asked
other (Open n x y z) q gs es none = absurd (none n x y z refl)
other (Activate x k a b d) q gs es none = refl
other (Deactivate x d) q gs es none = refl
other (Submit x v d) q gs es none = refl
other (Notice x v y d) q gs es none = refl
other (Assign a g d) q gs es none = refl
other (Close r d) q gs es none = refl
other (Issue r d) q gs es none = refl

pub returns-in_default : goal.returns-in_default
returns-in_default c gs es = other c.args.call c.args.q gs es c.in_default.not-Open

-- A call as the code has it, as a call of the papers.
use Rattle.std.specs.Prelude.{ℕ, List, ℤ}
use Rattle.message.specs.declared.DeskCall.{DeskCall}
use Rattle.message.specs.declared.DeskCall.TheVariants.{Open, Activate, Deactivate, Submit, Notice, Assign, Close, Issue}
use Rattle.model.specs.Call.{Call, opens, activates, deactivates, submits, notices, assigns, closes, issues}

-- with an opening's delta groups and a submission's energies, which stand beside it
unfoldable pub asked : DeskCall → (groups : List ℕ) (energies : List ℤ) → Call
asked (Open q f c k) gs es = opens q f.0 c.0 k.0 gs
asked (Activate p k a b d) gs es = activates p.0 k a b d.0
asked (Deactivate p d) gs es = deactivates p.0 d.0
asked (Submit p x d) gs es = submits p.0 x.0 d.0 es
asked (Notice p x y d) gs es = notices p.0 x.0 y d.0
asked (Assign a g d) gs es = assigns a g d.0
asked (Close r d) gs es = closes r d.0
asked (Issue r d) gs es = issues r d.0

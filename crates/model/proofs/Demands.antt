-- Demand 1 for any state and stores, demand 2, and the agreement after every prefix. Assumes nothing.
use Prim.Native.Nat.{ℕ}
use mathlib.Core.Path.{◌≡◌, refl, ap}
use mathlib.Core.List.{List, [], ◌∷◌, ◌++◌, map}
use Rattle.std.specs.Prelude.{Ok, Err, Option, Some, None}
use Rattle.model.specs.Causes.{Ruling}
use Rattle.state.specs.declared.Desk.{Desk}
use Rattle.state.specs.declared.HeldVersion.{HeldVersion}
use Rattle.state.specs.Desk.{versions_in}
use Rattle.state.specs.Version.{held}
use Rattle.model.specs.Agreement.{Running, Chained, next, replies, end, fresh, Agree}
use Rattle.model.specs.Call.{Call, opens, activates, deactivates, submits, notices, assigns, shows, asks, closes, issues, lodges, reports, Stores, Lent, told}
use Rattle.model.specs.Demands.{Granted, Untouched, DemandOne, DemandTwo}
use Rattle.model.specs.Plain.{plain_replies, plain_end}
use Rattle.model.specs.Step.{status_answer, granting, refusal_by, decided, step}
use Rattle.model.specs.declared.Answer.TheVariants.{Refused}
use Rattle.model.specs.declared.Cause.{Cause}
use Rattle.model.proofs.Main.{agree}
use Rattle.model.proofs.Rules.{not-refused}
use Rattle.model.proofs.TableLaw.{step-by-table}

-- ---- demand 1

status-granted : (p x : ℕ) (h : Option HeldVersion) → Granted (asks p x) (status_answer h)
unfolding status_answer
status-granted p x None = tt
status-granted p x (Some h) = refl

granted-so : (d : Desk) (s : Stores) (c : Call) → Granted c (granting d s c).answer
granted-so d s (opens q f c k gs) = refl
granted-so d s (activates p k a b e) = refl
granted-so d s (deactivates p e) = refl
granted-so d s (submits p x e es) = refl
granted-so d s (notices p x y e) = refl
granted-so d s (assigns a g e) = refl
granted-so d s (shows r g) = refl
granted-so d s (asks p x) = status-granted p x (held p x (versions_in d))
granted-so d s (closes r e) = refl
granted-so d s (issues r e) = refl
granted-so d s (lodges g e es) = refl
granted-so d s (reports r g) = refl

-- "A call accepted returns 0 (status: 1..5; show: the row)."
granted : (d : Desk) (l : Lent) → Granted l.call (step d l).answer
unfolding step decided
granted d l = go (refusal_by d (told l))
  where
    go : (v : Ruling) → Granted l.call (decided v d l.stores l.call).answer
    go (Ok tt) = granted-so d l.stores l.call
    go (Err x) = tt

granted-keeps : (d : Desk) (s : Stores) (c : Call) (x : Cause) → (granting d s c).answer ≡ Refused x → Untouched d s (granting d s c)
granted-keeps d s (opens q f c k gs) x e = not-refused x e
granted-keeps d s (activates p k a b day) x e = not-refused x e
granted-keeps d s (deactivates p day) x e = not-refused x e
granted-keeps d s (submits p n day es) x e = not-refused x e
granted-keeps d s (notices p n y day) x e = not-refused x e
granted-keeps d s (assigns a g day) x e = not-refused x e
granted-keeps d s (shows r g) x e = not-refused x e
granted-keeps d s (asks p n) x e = record { desk = refl; stores = refl; part = refl; surplus = refl; shortfall = refl }
granted-keeps d s (closes r day) x e = not-refused x e
granted-keeps d s (issues r day) x e = not-refused x e
granted-keeps d s (lodges g day es) x e = not-refused x e
granted-keeps d s (reports r g) x e = not-refused x e

-- "a refused call leaves the desk, value store, book, log and output as they were"
pub refused-keeps : (d : Desk) (l : Lent) (x : Cause) → (step d l).answer ≡ Refused x → Untouched d l.stores (step d l)
unfolding step decided
refused-keeps d l x e = go (refusal_by d (told l)) e
  where
    go : (v : Ruling) → (decided v d l.stores l.call).answer ≡ Refused x → Untouched d l.stores (decided v d l.stores l.call)
    go (Ok tt) e = granted-keeps d l.stores l.call x e
    go (Err y) e = record { desk = refl; stores = refl; part = refl; surplus = refl; shortfall = refl }

pub demand-one : (d : Desk) (l : Lent) → DemandOne d l
demand-one d l = record { answers = step-by-table d l.stores l.call; granted = granted d l; keeps = refused-keeps d l }

-- ---- demand 2, and every prefix

pub demand-two : (s : Stores) (l : List Lent) → Chained (fresh s) l → DemandTwo s l
demand-two s l c =
    let A = agree s l c in
    record { answers = A.answers; statuses = λ p x. ap (held p x) A.versions; log = A.log; figures = A.figures }

pub chained-front : (r : Running) (l m : List Lent) → Chained r (l ++ m) → Chained r l
unfolding Chained
chained-front r [] m c = tt
chained-front r (x ∷ l) m c = (c.0, chained-front (next r x) l m c.1)

-- after every prefix of a list
pub always : (s : Stores) (l m : List Lent) → Chained (fresh s) (l ++ m) → Agree (replies (fresh s) l) (end (fresh s) l) (plain_replies [] (map told l)) (plain_end [] (map told l))
always s l m c = agree s l (chained-front (fresh s) l m c)

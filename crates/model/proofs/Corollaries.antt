-- Beside the demands: no figure exceeds 256 × 10^12; from a fresh desk on cause 1 is only ever the missing opening; answers, statuses and
-- log rows never depend on what the stores hold. Assumes nothing.
use Prim.Native.Nat.{ℕ, ◌*◌, ◌≤◌, ◌<◌}
use mathlib.Core.Path.{◌≡◌, refl, ap, ◌∙◌, subst}
use mathlib.Core.Bool.{Bool, true, false, not, ◌||◌, false≢true}
use mathlib.Core.List.{List, [], map}
use native.Mathlib.Omega.{arith}
use lib.Dec.{eqb}
use lib.IntN.{nat_abs}
use Rattle.std.specs.Prelude.{Ok, Err, Option, Some, None}
use Rattle.quantity.specs.Limits.{points, runs, run_rows, most_energy}
use Rattle.quantity.specs.Lists.{all, fold}
use Rattle.state.specs.Change.{submitted, noticed}
use Rattle.state.specs.Desk.{is_open, open_desk, versions_in}
use Rattle.state.specs.Valid.{valid_desk}
use Rattle.state.specs.Version.{held}
use Rattle.state.specs.declared.Desk.{Desk}
use Rattle.state.specs.declared.HeldVersion.{HeldVersion}
use Rattle.model.specs.Agreement.{Running, Chained, end, fresh, book_figure}
use Rattle.model.specs.Call.{Call, opens, activates, deactivates, submits, notices, assigns, shows, asks, closes, issues, lodges, reports, Stores, Lengths, lengths_of, Lent, Told, told, telling, cause_number}
use Rattle.model.specs.Causes.{Rule, opening_by, Ruling}
use Rattle.model.specs.Demands.{Alike, Blind}
use Rattle.model.specs.Log.{due}
use Rattle.model.specs.Plain.{plain_end, figure, points_of, groups_of, worked_out, after}
use Rattle.model.specs.Step.{lines, status_answer, version_by, granting, refusal_by, decided, step}
use Rattle.model.specs.declared.Answer.{Answer}
use Rattle.model.specs.declared.Answer.TheVariants.{Refused}
use Rattle.model.specs.declared.Cause.{Cause}
use Rattle.model.specs.declared.Cause.TheVariants.{NotOpen, NoVersion}
use Rattle.model.proofs.Ends.{small-figure}
use Rattle.model.proofs.Figures.{figure-none}
use Rattle.model.proofs.Fresh.{State, early, holding}
use Rattle.model.proofs.Invariant.{Holds, holds-open, holds-valid}
use Rattle.model.proofs.Main.{agree, steps}
use Rattle.model.proofs.Points.{selected-none}
use Rattle.model.proofs.Rules.{not-refused, refused-among}

-- where a chained list leaves the desks
pub reached : (s : Stores) (l : List Lent) → Chained (fresh s) l → State (end (fresh s) l) (plain_end [] (map told l))
reached s l c = (steps (fresh s) [] l (early refl refl) c).1

-- ---- "No figure exceeds 256 × 10^12 in size."

state-small : (r : Running) (h : List Told) → State r h → (run k q : ℕ) → nat_abs (figure h run k q) ≤ points * most_energy
unfolding figure all worked_out after fold
state-small r h (early a b) run k q =
    rw b (omega (arith, ap nat_abs (figure-none (points_of []) (groups_of []) [] [] (λ x p. selected-none p [] refl x) run k q)))
state-small r h (holding H) run k q = small-figure r.desk r.stores h H run k q

pub figure-small : (s : Stores) (l : List Lent) → Chained (fresh s) l → (run k q : ℕ) → nat_abs (figure (plain_end [] (map told l)) run k q) ≤ 256 * 1000000000000
figure-small s l c run k q = state-small (end (fresh s) l) (plain_end [] (map told l)) (reached s l c) run k q

pub book_small : (s : Stores) (l : List Lent) → Chained (fresh s) l → (run k q : ℕ) → 1 ≤ run → run ≤ runs → k < run_rows → q < (end (fresh s) l).desk.frame.opening.quarters
    → nat_abs (book_figure (end (fresh s) l) run k q) ≤ 256 * 1000000000000
book_small s l c run k q a b d e = rw ((agree s l c).figures run k q a b d e) (figure-small s l c run k q)

-- ---- "of cause 1 only the missing opening"

other-cause : {A : Type 0} → ◌≡◌ {A = Answer} (Refused NoVersion) (Refused NotOpen) → A
other-cause e = let z : ◌≡◌ {A = ℕ} 0 1 = cc in absurd (omega arith)

status-else : {A : Type 0} (h : Option HeldVersion) → status_answer h ≡ Refused NotOpen → A
unfolding status_answer
status-else None e = other-cause e
status-else (Some h) e = let z : ◌≡◌ {A = ℕ} 0 1 = cc in absurd (omega arith)

granted-else : {A : Type 0} (d : Desk) (s : Stores) (c : Call) → (granting d s c).answer ≡ Refused NotOpen → A
granted-else d s (opens q f c k gs) e = not-refused NotOpen e
granted-else d s (activates p k a b day) e = not-refused NotOpen e
granted-else d s (deactivates p day) e = not-refused NotOpen e
granted-else d s (submits p x day es) e = not-refused NotOpen e
granted-else d s (notices p x y day) e = not-refused NotOpen e
granted-else d s (assigns a g day) e = not-refused NotOpen e
granted-else d s (shows r g) e = not-refused NotOpen e
granted-else d s (asks p x) e = status-else (held p x (versions_in d)) e
granted-else d s (closes r day) e = not-refused NotOpen e
granted-else d s (issues r day) e = not-refused NotOpen e
granted-else d s (lodges g day es) e = not-refused NotOpen e
granted-else d s (reports r g) e = not-refused NotOpen e

-- another cause than 1
abbrev other : Cause → Bool
other c = not (eqb (cause_number c) 1)

-- on a valid, open desk no rule of cause 1 holds
never-one : (d : Desk) (n : Lengths) (c : Call) → valid_desk d ≡ true → is_open d.frame.opening ≡ true
    → all (λ (r : Rule). other r.cause || not r.holds) (lines d (telling n c)) ≡ true
unfolding all
never-one d n (opens q f c k gs) v o = refl
never-one d n (activates p k a b e) v o = rw (v, o)
never-one d n (deactivates p e) v o = rw (v, o)
never-one d n (submits p x e es) v o = rw (v, o)
never-one d n (notices p x y e) v o = rw (v, o)
never-one d n (assigns a g e) v o = rw (v, o)
never-one d n (shows r g) v o = rw (v, o)
never-one d n (asks p x) v o = rw (v, o)
never-one d n (closes r e) v o = rw (v, o)
never-one d n (issues r e) v o = rw (v, o)
never-one d n (lodges g e es) v o = rw (v, o)
never-one d n (reports r g) v o = rw (v, o)

opened-else : {A : Type 0} (d : Desk) (s : Stores) (h : List Told) (x : Lent) → Holds d s h → (step d x).answer ≡ Refused NotOpen → A
unfolding step decided refusal_by
opened-else {A} d s h x H e = go (refusal_by d (told x)) refl e
  where
    go : (v : Ruling) → refusal_by d (told x) ≡ v → (decided v d x.stores x.call).answer ≡ Refused NotOpen → A
    go (Ok tt) z e = granted-else d x.stores x.call e
    go (Err y) z e =
        let same : y ≡ NotOpen = cc in
        absurd (false≢true (refused-among other _ (never-one d (lengths_of x.stores) x.call (holds-valid d s h H) (holds-open d s h H)) NotOpen (z ∙ ap Err same)))

state-one : (r : Running) (h : List Told) (x : Lent) → State r h → (step r.desk x).answer ≡ Refused NotOpen → is_open r.desk.frame.opening ≡ false
state-one r h x (early a b) e = rw a refl
state-one r h x (holding H) e = opened-else r.desk r.stores h x H e

pub only-not-open : (s : Stores) (l : List Lent) (x : Lent) → Chained (fresh s) l → (step (end (fresh s) l).desk x).answer ≡ Refused NotOpen → is_open (end (fresh s) l).desk.frame.opening ≡ false
only-not-open s l x c e = state-one (end (fresh s) l) (plain_end [] (map told l)) x (reached s l c) e

-- ---- "Answer numbers, statuses and log rows never depend on what the stores hold"

granted-blind : (d : Desk) (c : Call) (s t : Stores) → lengths_of s ≡ lengths_of t → Alike d s t (granting d s c) (granting d t c)
granted-blind d (opens q f c k gs) s t e = record { answer = refl; desk = ap (λ (n : Lengths). open_desk (opening_by q f c k n) gs) e; row = None; log = refl; other_log = refl }
granted-blind d (activates p k a b day) s t e = record { answer = refl; desk = refl; row = None; log = refl; other_log = refl }
granted-blind d (deactivates p day) s t e = record { answer = refl; desk = refl; row = None; log = refl; other_log = refl }
granted-blind d (submits p x day es) s t e =
    record { answer = refl; desk = refl; row = due (versions_in d) (submitted (version_by d p x day) (versions_in d)) p day; log = refl; other_log = refl }
granted-blind d (notices p x y day) s t e =
    record { answer = refl; desk = refl; row = due (versions_in d) (noticed d.frame.opening.clearing.0 p x y day (versions_in d)) p day; log = refl; other_log = refl }
granted-blind d (assigns a g day) s t e = record { answer = refl; desk = refl; row = None; log = refl; other_log = refl }
granted-blind d (shows r g) s t e = record { answer = refl; desk = refl; row = None; log = refl; other_log = refl }
granted-blind d (asks p x) s t e = record { answer = refl; desk = refl; row = None; log = refl; other_log = refl }
granted-blind d (closes r day) s t e = record { answer = refl; desk = refl; row = None; log = refl; other_log = refl }
granted-blind d (issues r day) s t e = record { answer = refl; desk = refl; row = None; log = refl; other_log = refl }
granted-blind d (lodges g day es) s t e = record { answer = refl; desk = refl; row = None; log = refl; other_log = refl }
granted-blind d (reports r g) s t e = record { answer = refl; desk = refl; row = None; log = refl; other_log = refl }

decided-blind : (v : Ruling) (d : Desk) (c : Call) (s t : Stores) → lengths_of s ≡ lengths_of t → Alike d s t (decided v d s c) (decided v d t c)
unfolding decided
decided-blind (Ok tt) d c s t e = granted-blind d c s t e
decided-blind (Err x) d c s t e = record { answer = refl; desk = refl; row = None; log = refl; other_log = refl }

pub step-blind : Blind
unfolding step
step-blind d c s t e =
    subst (λ (n : Lengths). Alike d s t (decided (refusal_by d (telling (lengths_of s) c)) d s c) (decided (refusal_by d (telling n c)) d t c)) e
    (decided-blind (refusal_by d (telling (lengths_of s) c)) d c s t e)

-- Demand 3, over the whole list: one step keeps the invariant, and so does every list of steps. Assumes nothing.
use mathlib.Core.Path.{◌≡◌, refl}
use mathlib.Core.List.{List, [], ◌∷◌, map}
use Rattle.std.specs.Prelude.{Ok, Err}
use Rattle.model.specs.Agreement.{Running, Own, next, Chained, replies, end, fresh, Agree, Agreement}
use Rattle.model.specs.Call.{Call, opens, activates, deactivates, submits, notices, assigns, shows, asks, closes, issues, lodges, reports, Stores, lengths_of, Lent, Told, told, Reply}
use Rattle.model.specs.Causes.{takes, rules, refusal, Ruling}
use Rattle.model.specs.Laws.{Passed}
use Rattle.model.specs.Plain.{view_in, answered, joined, plain_reply, plain_next, plain_replies, plain_end}
use Rattle.model.specs.Step.{refusal_by, decided, step, reply_of}
use Rattle.model.specs.View.{view_of}
use Rattle.model.proofs.Assign.{assign-granted}
use Rattle.model.proofs.Deviations.{lodge-granted, report-granted}
use Rattle.model.proofs.Ends.{holds-agree}
use Rattle.model.proofs.Fresh.{State, early, holding, open-granted, fresh-step, fresh-agree}
use Rattle.model.proofs.Invariant.{Holds, Done, Granted, same-refusal, holds-open, holds-view}
use Rattle.model.proofs.Lending.{left-own}
use Rattle.model.proofs.Notice.{notice-granted}
use Rattle.model.proofs.Points.{activate-granted, deactivate-granted}
use Rattle.model.proofs.Queries.{show-granted, status-granted}
use Rattle.model.proofs.Restating.{close-granted, issue-granted}
use Rattle.model.proofs.Rules.{passed}
use Rattle.model.proofs.Submit.{submit-granted}
use Rattle.state.specs.declared.Desk.{Desk}

-- every call, accepted
pub every : (c : Call) → Granted c
every (opens q f c k gs) = open-granted q f c k gs
every (activates p k a b d) = activate-granted p k a b d
every (deactivates p d) = deactivate-granted p d
every (submits p x d es) = submit-granted p x d es
every (notices p x y d) = notice-granted p x y d
every (assigns a g d) = assign-granted a g d
every (shows r g) = show-granted r g
every (asks p x) = status-granted p x
every (closes r d) = close-granted r d
every (issues r d) = issue-granted r d
every (lodges g d es) = lodge-granted g d es
every (reports r g) = report-granted r g

-- what the plain desk does not refuse has passed every rule
pub fine : (d : Desk) (s : Stores) (h : List Told) (l : Lent) → Holds d s h → refusal (view_in h) (told l) ≡ Ok tt → Passed (rules (view_of d) (lengths_of l.stores) l.call)
unfolding refusal
fine d s h l H e = passed (rules (view_of d) (lengths_of l.stores) l.call) (rw (holds-view d s h H) e)

-- one step of an opened desk
opened-step : (d : Desk) (s : Stores) (h : List Told) (l : Lent) → Holds d s h → Own d.frame.opening (takes l.call) s l.stores
    → (reply_of (step d l) ≡ plain_reply h (told l)) × State (next (record { desk = d; stores = s }) l) (plain_next h (told l))
unfolding step decided next plain_reply plain_next answered joined
opened-step d s h l H o = go (refusal (view_in h) (told l)) refl
  where
    same : refusal_by d (told l) ≡ refusal (view_in h) (told l)
    same = same-refusal d s h H (told l)

    go : (x : Ruling) → refusal (view_in h) (told l) ≡ x → (reply_of (step d l) ≡ plain_reply h (told l)) × State (next (record { desk = d; stores = s }) l) (plain_next h (told l))
    go (Err c) e = rw (same, e) (refl, holding (rw (left-own d.frame.opening s l.stores (holds-open d s h H) (takes l.call) o) H))
    go (Ok tt) e =
        let D : Done d s h l.call l.stores = every l.call d s h l.stores H o (fine d s h l H e) in
        rw (same, e) (D.reply, holding D.holds)

pub one-step : (r : Running) (h : List Told) (l : Lent) → State r h → Own r.desk.frame.opening (takes l.call) r.stores l.stores
    → (reply_of (step r.desk l) ≡ plain_reply h (told l)) × State (next r l) (plain_next h (told l))
one-step r h l (early a b) o = fresh-step r h l a b
one-step r h l (holding H) o = opened-step r.desk r.stores h l H o

-- every list
pub steps : (r : Running) (h : List Told) (l : List Lent) → State r h → Chained r l
    → (replies r l ≡ plain_replies h (map told l)) × State (end r l) (plain_end h (map told l))
unfolding Chained replies plain_replies end plain_end
steps r h [] S c = (refl, S)
steps r h (x ∷ l) S c =
    let one = one-step r h x S c.0 in
    let rest = steps (next r x) (plain_next h (told x)) l one.1 c.1 in
    ((λ i. one.0 i ∷ rest.0 i), rest.1)

state-agree : (given plain : List Reply) (r : Running) (h : List Told) → given ≡ plain → State r h → Agree given r plain h
state-agree given plain r h e (early a b) = fresh-agree given plain r h e a b
state-agree given plain r h e (holding H) = holds-agree given plain r h e H

-- demand 3
pub agree : Agreement
agree s l c =
    let whole = steps (fresh s) [] l (early refl refl) c in
    state-agree (replies (fresh s) l) (plain_replies [] (map told l)) (end (fresh s) l) (plain_end [] (map told l)) whole.0 whole.1

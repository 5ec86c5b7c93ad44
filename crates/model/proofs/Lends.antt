-- The premise of demand 3 can be met for every list of calls: each call is lent the stores as the last one left them, and their lengths
-- stay. Assumes nothing.
use Prim.Native.Nat.{ℕ, ◌*◌}
use mathlib.Core.Path.{◌≡◌, refl, sym, ap, ◌∙◌}
use mathlib.Core.Bool.{Bool, true, false, cond, ◌&&◌, true≢false}
use mathlib.Core.List.{List, [], ◌∷◌, map}
use lib.Dec.{eqb}
use lib.ListN.{length, length-replicate}
use Rattle.std.specs.Prelude.{Ok, Err}
use Rattle.quantity.specs.Limits.{book_rows, schedule_rows}
use Rattle.quantity.specs.Lists.{fold}
use Rattle.quantity.proofs.Tests.{and-left}
use Rattle.state.specs.Desk.{is_open, fresh_desk}
use Rattle.state.specs.Valid.{opening_ok, frame_ok, valid_desk}
use Rattle.state.specs.declared.Desk.{Desk}
use Rattle.state.specs.declared.Opening.{Opening}
use Rattle.model.specs.Agreement.{Running, Own, left, next, Chained, fresh, lend}
use Rattle.model.specs.Call.{Call, opens, activates, deactivates, submits, notices, assigns, shows, asks, closes, issues, lodges, reports, Taken, every_store, all_but_schedules, the_book, the_schedules, book_and_schedules, Stores, Lengths, lengths_of, Lent, Told, told, telling}
use Rattle.model.specs.Causes.{takes, or_if, first_of, opening_by, opens_ok, refusal, Ruling}
use Rattle.model.specs.Plain.{Worked, opening_of, view_in, joined, plain_next, worked_out, after}
use Rattle.model.specs.Step.{cleared, refusal_by, decided, step}
use Rattle.model.proofs.Fresh.{State, early, holding}
use Rattle.model.proofs.Invariant.{Holds, book-is, schedules-is, plain-open}
use Rattle.model.proofs.Lending.{left-every}
use Rattle.model.proofs.Main.{one-step}

-- the stores as the last call left them
abbrev own_lent : Running → Call → Lent
own_lent r c = record { call = c; stores = r.stores }

lent-own : (o : Opening) (t : Taken) (s : Stores) → Own o t s s
lent-own o t s = record { values = λ a b e. refl; book = λ a b e. refl; log = λ a b e. refl; schedules = λ a b e. refl }

-- so the premise is not vacuous
pub lend-chained : (r : Running) (l : List Call) → Chained r (lend r l)
unfolding Chained lend
lend-chained r [] = tt
lend-chained r (c ∷ l) = (lent-own r.desk.frame.opening (takes c) r.stores, lend-chained (next r (own_lent r c)) l)

-- a call that sets no opening, refused or not
unset : (v : Ruling) (h : List Told) (t : Told) → (after t (worked_out h)).opening ≡ opening_of h → opening_of (joined v h t) ≡ opening_of h
unfolding joined worked_out
unset (Ok tt) h t e = e
unset (Err x) h t e = refl

unset-next : (h : List Told) (t : Told) → (after t (worked_out h)).opening ≡ opening_of h → opening_of (plain_next h t) ≡ opening_of h
unfolding plain_next
unset-next h t e = unset (refusal (view_in h) t) h t e

-- an opening stays
pub opening-stays : (h : List Told) (n : Lengths) (c : Call) → is_open (opening_of h) ≡ true → opening_of (plain_next h (telling n c)) ≡ opening_of h
unfolding plain_next joined refusal first_of fold or_if view_in after
opening-stays h n (opens q f c k gs) e = rw e
opening-stays h n (activates p k a b d) e = unset-next h (telling n (activates p k a b d)) refl
opening-stays h n (deactivates p d) e = unset-next h (telling n (deactivates p d)) refl
opening-stays h n (submits p x d es) e = unset-next h (telling n (submits p x d es)) refl
opening-stays h n (notices p x y d) e = unset-next h (telling n (notices p x y d)) refl
opening-stays h n (assigns a g d) e = unset-next h (telling n (assigns a g d)) refl
opening-stays h n (shows r g) e = unset-next h (telling n (shows r g)) refl
opening-stays h n (asks p x) e = unset-next h (telling n (asks p x)) refl
opening-stays h n (closes r d) e = unset-next h (telling n (closes r d)) refl
opening-stays h n (issues r d) e = unset-next h (telling n (issues r d)) refl
opening-stays h n (lodges g d es) e = unset-next h (telling n (lodges g d es)) refl
opening-stays h n (reports r g) e = unset-next h (telling n (reports r g)) refl

-- the stores of an opened desk are of their opening lengths
opening-lengths : Opening → Lengths
opening-lengths o = record { values = o.values; book = o.book; log = o.log; schedules = o.schedules }

holds-lengths : (d : Desk) (s : Stores) (h : List Told) → Holds d s h → lengths_of s ≡ opening-lengths (opening_of h)
unfolding opening-lengths
holds-lengths d s h H =
    let K = H.kept in
    (λ i.
    record {
      values = K.values_long i;
      book = (K.booked.size ∙ sym (book-is d.frame.opening K.framed.opening)) i;
      log = K.log_long i;
      schedules = (K.scheduled.size ∙ sym (schedules-is d.frame.opening K.framed.opening)) i;
    })
    ∙ ap (λ (w : Worked). opening-lengths w.opening) H.works

-- a store that comes back as it was lent
left-self : (o : Opening) (t : Taken) (s : Stores) → left o t s s ≡ s
left-self o t s = λ i.
    record {
      values = same (t.values && eqb (length s.values) o.values) s.values i;
      book = same (t.book && eqb (length s.book) o.book) s.book i;
      log = same (t.log && eqb (length s.log) o.log) s.log i;
      schedules = same (t.schedules && eqb (length s.schedules) o.schedules) s.schedules i;
    }
  where
    same : (t : Bool) (l : List ℕ) → cond t l l ≡ l
    same true l = refl
    same false l = refl

-- the lengths after a call on an unopened desk
fresh-sized : (s : Stores) (c : Call) → lengths_of (next (fresh s) (own_lent (fresh s) c)).stores ≡ lengths_of s
unfolding next step decided refusal_by first_of fold or_if valid_desk frame_ok opening_ok opens_ok
fresh-sized s (opens q f c k gs) = go (opens_ok (opening_by q f c k (lengths_of s)) gs) refl
  where
    go : (t : Bool) → opens_ok (opening_by q f c k (lengths_of s)) gs ≡ t → lengths_of (next (fresh s) (own_lent (fresh s) (opens q f c k gs))).stores ≡ lengths_of s
    go true e =
        let o = opening_by q f c k (lengths_of s) in
        let a = cleared q s in
        let ok = and-left (opening_ok o) _ e in
        let book : length a.book ≡ o.book = length-replicate (book_rows * q) 0 ∙ sym (book-is o ok) in
        let planned : length a.schedules ≡ o.schedules = length-replicate (schedule_rows * q) 0 ∙ sym (schedules-is o ok) in
        rw e (ap lengths_of (left-every o s a refl book refl planned) ∙ (λ i. record { values = o.values; book = book i; log = o.log; schedules = planned i }))
    go false e = rw e (ap lengths_of (left-self fresh_desk.frame.opening every_store s))
fresh-sized s (activates p k a b d) = refl
fresh-sized s (deactivates p d) = refl
fresh-sized s (submits p x d es) = ap lengths_of (left-self fresh_desk.frame.opening all_but_schedules s)
fresh-sized s (notices p x y d) = ap lengths_of (left-self fresh_desk.frame.opening all_but_schedules s)
fresh-sized s (assigns a g d) = ap lengths_of (left-self fresh_desk.frame.opening the_book s)
fresh-sized s (shows r g) = ap lengths_of (left-self fresh_desk.frame.opening the_book s)
fresh-sized s (asks p x) = refl
fresh-sized s (closes r d) = refl
fresh-sized s (issues r d) = refl
fresh-sized s (lodges g d es) = ap lengths_of (left-self fresh_desk.frame.opening the_schedules s)
fresh-sized s (reports r g) = ap lengths_of (left-self fresh_desk.frame.opening book_and_schedules s)

-- and after any call, from a fresh desk on
sized : (r : Running) (h : List Told) (c : Call) → State r h → lengths_of (next r (own_lent r c)).stores ≡ lengths_of r.stores
unfolding worked_out after fold
sized r h c (early a b) = rw a (fresh-sized r.stores c)
sized r h c (holding H) = go (one-step r h (own_lent r c) (holding H) (lent-own r.desk.frame.opening (takes c) r.stores)).1
  where
    opened : is_open (opening_of h) ≡ true
    opened = plain-open r.desk r.stores h H

    stays : opening_of (plain_next h (told (own_lent r c))) ≡ opening_of h
    stays = opening-stays h (lengths_of r.stores) c opened

    go : State (next r (own_lent r c)) (plain_next h (told (own_lent r c))) → lengths_of (next r (own_lent r c)).stores ≡ lengths_of r.stores
    go (early a b) = absurd (true≢false (sym opened ∙ ap is_open (sym stays ∙ ap opening_of b)))
    go (holding K) = holds-lengths (next r (own_lent r c)).desk (next r (own_lent r c)).stores (plain_next h (told (own_lent r c))) K ∙ ap opening-lengths stays ∙ sym (holds-lengths r.desk r.stores h H)

-- so the plain desk is told the calls with the lengths of the stores
told-as : (r : Running) (h : List Told) (n : Lengths) → State r h → lengths_of r.stores ≡ n → (l : List Call) → map told (lend r l) ≡ map (telling n) l
unfolding lend
told-as r h n S e [] = refl
told-as r h n S e (c ∷ l) =
    let step = one-step r h (own_lent r c) S (lent-own r.desk.frame.opening (takes c) r.stores) in
    let rest = told-as (next r (own_lent r c)) (plain_next h (told (own_lent r c))) n step.1 (sized r h c S ∙ e) l in
    λ i. telling (e i) c ∷ rest i

pub lend-told : (s : Stores) (l : List Call) → map told (lend (fresh s) l) ≡ map (telling (lengths_of s)) l
lend-told s l = told-as (fresh s) [] (lengths_of s) (early refl refl) refl l

-- A run of the twelve calls of the code is the run that demand 3 speaks of. Assumes nothing.
use Prim.Native.Nat.{ℕ}
use mathlib.Core.Path.{◌≡◌, refl, sym, ap, ◌∙◌, subst}
use mathlib.Core.Bool.{Bool, true, false, false≢true}
use mathlib.Core.List.{List, [], ◌∷◌, map}
use lib.IntN.{ℤ}
use Rattle.std.specs.Prelude.{Ok, Err}
use Rattle.quantity.specs.Word.{signed}
use Rattle.message.specs.declared.DeskCall.{DeskCall}
use Rattle.message.specs.declared.DeskCall.TheVariants.{Open, Activate, Deactivate, Submit, Notice, Assign, Close, Issue}
use Rattle.state.specs.Desk.{fresh_desk}
use Rattle.state.specs.declared.Desk.{Desk}
use Rattle.state.specs.declared.Opening.{Opening}
use Rattle.model.specs.Agreement.{Running, IsOwn, Own, left_in, left, next, Chained, replies, end, fresh, Agree}
use Rattle.model.specs.Call.{Call, opens, shows, asks, lodges, reports, every_store, Stores, told, Reply, answer_number}
use Rattle.model.specs.Causes.{takes, Ruling}
use Rattle.model.specs.Plain.{plainly, plain_replies, plain_end}
use Rattle.model.specs.Step.{Outcome, answering, step, granting, decided, refusal_by, reply_of, with_schedules}
use Rattle.model.specs.declared.Answer.{Answer}
use Rattle.model.specs.declared.Answer.TheVariants.{Refused}
use Rattle.model.specs.declared.Cause.{Cause}
use Rattle.model.proofs.Lending.{left-in}
use Rattle.model.proofs.Main.{agree}
use Rattle.checks.specs.Stepped.{IsWholeStep, ScheduleStepped, Answered, lent, stores_of}
use Rattle.dispatch.specs.Asked.{asked}
use Rattle.entry.specs.Entered.{Entered, by_open, by_apply, by_show, by_status, by_lodge, by_report, call_of, lending_of, lent_of, reply_in, desk_after, stores_after, Meets, left_by, end_of, Run, LentOn, on_after, Onward}
use Rattle.calls.proofs.Parts.{empty-exactly}
use Rattle.checks.proofs.Untaken.{values-kept, book-kept, log-kept, schedules-kept, none-taken, unplanned, schedules-taken}

-- ---- one entry

-- what is so of a call where it is accepted and where it is refused
ruled : (P : Outcome → Type 0) (d : Desk) (s : Stores) (c : Call) → P (granting d s c) → ((x : Cause) → P (answering (Refused x) d s)) → P (step d (lent c s))
unfolding step decided
ruled P d s c e h = go (refusal_by d (told (lent c s)))
  where
    go : (v : Ruling) → P (decided v d s c)
    go (Ok tt) = e
    go (Err x) = h x

-- it shows and reports nothing
abbrev Bare : Outcome → Type 0
Bare o = reply_of o ≡ plainly o.answer

-- so do all that `apply` is asked, when they are accepted
asked-bare : (d : Desk) (s : Stores) (c : DeskCall) (groups : List ℕ) (energies : List ℤ) → Bare (granting d s (asked c groups energies))
unfolding asked
asked-bare d s (Open q f c k) gs es = refl
asked-bare d s (Activate p k a b day) gs es = refl
asked-bare d s (Deactivate p day) gs es = refl
asked-bare d s (Submit p x day) gs es = refl
asked-bare d s (Notice p x y day) gs es = refl
asked-bare d s (Assign a g day) gs es = refl
asked-bare d s (Close r day) gs es = refl
asked-bare d s (Issue r day) gs es = refl

-- the desk and the stores stay as they are
record Kept (d : Desk) (s : Stores) (o : Outcome) : Type 0 where
  desk : o.desk ≡ d
  stores : o.stores ≡ s

-- so they do where a call changes nothing when it is accepted
keeps : (d : Desk) (s : Stores) (c : Call) → Kept d s (granting d s c) → Kept d s (step d (lent c s))
keeps d s c k = ruled (Kept d s) d s c k (λ _. record { desk = refl; stores = refl })

-- "the part is empty exactly when the number is not 0", of the two entries over the same input
pub show-empty : (d : Desk) (run group : ℕ) (book : List ℕ) (a : Answer) (part : List ℕ) → Meets d (by_show run group book a part)
    → (part ≡ [] → answer_number a ≡ 0 → ⊥) × ((answer_number a ≡ 0 → ⊥) → part ≡ [])
show-empty d run group book a part m =
    let s = stores_of [] book [] [] in
    let e = empty-exactly d run group s in
    let same = ap answer_number (m.0 s) in
    (λ p z. e.0 (sym (m.1 s) ∙ p) (sym same ∙ z), λ n. m.1 s ∙ e.1 (λ z. n (same ∙ z)))

-- what an entry gave and left is the step's
record Steps (d : Desk) (e : Entered) : Type 0 where
  replied : reply_of (step d (lent_of e)) ≡ reply_in e
  desk : (step d (lent_of e)).desk ≡ desk_after d e
  stores : (step d (lent_of e)).stores ≡ stores_after e

-- one that shows and reports nothing
stepped : (d : Desk) (e : Entered) (a : Answer) → reply_in e ≡ plainly a → Bare (granting d (lending_of e) (call_of e))
    → IsWholeStep (step d (lent_of e)) a (desk_after d e) (stores_after e) → Steps d e
stepped d e a z p o =
    record {
      replied = ruled Bare d (lending_of e) (call_of e) p (λ _. refl) ∙ ap plainly (sym o.answered) ∙ sym z;
      desk = sym o.held;
      stores = sym o.left;
    }

-- a status takes no store
status-left : (d : Desk) (p x : ℕ) (s : Stores) {a : Answer} {desk : Desk} → Answered d (asks p x) a desk → IsWholeStep (step d (lent (asks p x) s)) a desk s
status-left d p x s m = unplanned d (asks p x) s refl (none-taken d (asks p x) s refl (m s))

meets : (d : Desk) (e : Entered) → Meets d e → Steps d e
meets d (by_open q f c k gs lending a desk book schedules) m = stepped d (by_open q f c k gs lending a desk book schedules) a refl refl m
meets d (by_apply call gs es lending a desk stores) m =
    stepped d (by_apply call gs es lending a desk stores) a refl (asked-bare d lending call gs (map signed es)) m
meets d (by_show run group book a part) m =
    let s = stores_of [] book [] [] in
    let kept = keeps d s (shows run group) (record { desk = refl; stores = refl }) in
    let sums = ruled (λ (o : Outcome). (o.surplus ≡ 0) × (o.shortfall ≡ 0)) d s (shows run group) (refl, refl) (λ _. (refl, refl)) in
    record {
      replied = λ i. record { answer = sym (m.0 s) i; row = map signed (sym (m.1 s) i); surplus = signed (sums.0 i); shortfall = signed (sums.1 i) };
      desk = kept.desk;
      stores = kept.stores;
    }
meets d (by_status p x a desk) m = stepped d (by_status p x a desk) a refl refl (status-left d p.0 x.0 (stores_of [] [] [] []) m)
meets d (by_lodge group day es schedules a desk schedules') m =
    let s = stores_of [] [] [] schedules in
    stepped d (by_lodge group day es schedules a desk schedules') a refl refl (schedules-taken d (lodges group day.0 (map signed es)) s refl (m s))
meets d (by_report run group book schedules a surplus shortfall) m =
    let s = stores_of [] book [] schedules in
    let kept = keeps d s (reports run group) (record { desk = refl; stores = refl }) in
    let part = ruled (λ (o : Outcome). o.part ≡ []) d s (reports run group) refl (λ _. refl) in
    record {
      replied = λ i.
          record { answer = sym (m s).answered i; row = map signed (part i); surplus = signed (sym (m s).over i); shortfall = signed (sym (m s).under i) };
      desk = kept.desk;
      stores = kept.stores;
    }

entry-next : (r : Running) (e : Entered) → Meets r.desk e → next r (lent_of e) ≡ left_by r e
unfolding next left_by
entry-next r e m =
    let o = meets r.desk e m in
    λ i. record { desk = o.desk i; stores = left (o.desk i).frame.opening (takes (call_of e)) r.stores (o.stores i) }

-- ---- a run

chained : (r : Running) (es : List Entered) → Run r es → Chained r (map lent_of es)
unfolding Run Chained
chained r [] R = tt
chained r (e ∷ es) R = (R.1, subst (λ (x : Running). Chained x (map lent_of es)) (sym (entry-next r e R.0)) (chained (left_by r e) es R.2))

answers : (r : Running) (es : List Entered) → Run r es → replies r (map lent_of es) ≡ map reply_in es
unfolding Run replies
answers r [] R = refl
answers r (e ∷ es) R =
    let rest = ap (λ (x : Running). replies x (map lent_of es)) (entry-next r e R.0) ∙ answers (left_by r e) es R.2 in
    λ i. (meets r.desk e R.0).replied i ∷ rest i

ends : (r : Running) (es : List Entered) → Run r es → end r (map lent_of es) ≡ end_of r es
unfolding Run end end_of
ends r [] R = refl
ends r (e ∷ es) R = ap (λ (x : Running). end x (map lent_of es)) (entry-next r e R.0) ∙ ends (left_by r e) es R.2

-- demand 3 for the code: in every run of its twelve calls, on a fresh desk and whatever the stores hold, the answers that they gave, show's row
-- and a report's sums included, agree with the plain desk, and so does the desk as the last one left it, with the stores of its opening
pub entries-agree : (s : Stores) (es : List Entered) → Run (fresh s) es
    → Agree (map reply_in es) (end_of (fresh s) es) (plain_replies [] (map told (map lent_of es))) (plain_end [] (map told (map lent_of es)))
entries-agree s es R =
    let ls = map lent_of es in
    subst (λ (x : List Reply). Agree x (end_of (fresh s) es) (plain_replies [] (map told ls)) (plain_end [] (map told ls))) (answers (fresh s) es R)
    (subst (λ (x : Running). Agree (replies (fresh s) ls) x (plain_replies [] (map told ls)) (plain_end [] (map told ls))) (ends (fresh s) es R)
    (agree s ls (chained (fresh s) es R)))

-- ---- each lent the stores as the last one left them

-- a store in its opening length is the opening's, before a call and after it
own-after : (t : Bool) (o o' : Opening) (n : Opening → ℕ) (own lending after : List ℕ) → (t ≡ false → (o' ≡ o) × (after ≡ lending))
    → IsOwn o true (n o) own lending → IsOwn o' true (n o') (left_in t (n o') own after) after
own-after true o o' n own lending after h w = λ _ _ z. sym (left-in (n o') own after z)
own-after false o o' n own lending after h w =
    subst (λ (x : Opening). IsOwn x true (n x) own after) (sym (h refl).0) (subst (λ (x : List ℕ). IsOwn o true (n o) own x) (sym (h refl).1) w)

-- after a step on all four stores
step-own : (d e : Desk) (c : Call) (own s after : Stores) {a : Answer} → IsWholeStep (step d (lent c s)) a e after
    → Own d.frame.opening every_store own s → Own e.frame.opening every_store (left e.frame.opening (takes c) own after) after
step-own d e c own s after o w =
    let same : (e.frame.opening ≡ (step d (lent c s)).desk.frame.opening) = ap (λ (x : Desk). x.frame.opening) o.held in
    let values = values-kept d c s in
    let book = book-kept d c s in
    let log = log-kept d c s in
    let schedules = schedules-kept d c s in
    let of : (f : Stores → List ℕ) → f after ≡ f (step d (lent c s)).stores = λ f. ap f o.left in
    record {
      values = own-after (takes c).values d.frame.opening e.frame.opening (λ (x : Opening). x.values) _ _ _ (λ z. (same ∙ (values z).0, of (λ (x : Stores). x.values) ∙ (values z).1)) w.values;
      book = own-after (takes c).book d.frame.opening e.frame.opening (λ (x : Opening). x.book) _ _ _ (λ z. (same ∙ (book z).0, of (λ (x : Stores). x.book) ∙ (book z).1)) w.book;
      log = own-after (takes c).log d.frame.opening e.frame.opening (λ (x : Opening). x.log) _ _ _ (λ z. (same ∙ (log z).0, of (λ (x : Stores). x.log) ∙ (log z).1)) w.log;
      schedules = own-after (takes c).schedules d.frame.opening e.frame.opening (λ (x : Opening). x.schedules) _ _ _ (λ z. (same ∙ (schedules z).0, of (λ (x : Stores). x.schedules) ∙ (schedules z).1)) w.schedules;
    }

-- a store that is lent as the last one left it and comes back as it was
read-own : (o : Opening) (n : ℕ) (own lending kept : List ℕ) → lending ≡ kept → IsOwn o true n (left_in true n own lending) kept
read-own o n own lending kept z = λ _ _ y. sym (ap (left_in true n own) z ∙ left-in n own kept y)

-- the stores that an entry leaves are the opening's
entry-own : (r : Running) (s : Stores) (e : Entered) → LentOn s e → Meets r.desk e → Own r.desk.frame.opening every_store r.stores s
    → Own (desk_after r.desk e).frame.opening every_store (left_by r e).stores (on_after s e)
unfolding left_by
entry-own r s (by_open q f c k gs lending a desk book schedules) z m w =
    step-own r.desk desk (opens q f.0 c.0 k.0 gs) r.stores lending _ m (subst (Own r.desk.frame.opening every_store r.stores) (sym z) w)
entry-own r s (by_apply call gs es lending a desk stores) z m w =
    step-own r.desk desk (asked call gs (map signed es)) r.stores lending stores m (subst (Own r.desk.frame.opening every_store r.stores) (sym z) w)
entry-own r s (by_show run group book a part) z m w =
    let o = r.desk.frame.opening in
    record { values = w.values; book = read-own o o.book r.stores.book book s.book z; log = w.log; schedules = w.schedules }
entry-own r s (by_status p x a desk) z m w = step-own r.desk desk (asks p.0 x.0) r.stores s s (status-left r.desk p.0 x.0 s m) w
entry-own r s (by_lodge group day es schedules a desk schedules') z m w =
    let c = lodges group day.0 (map signed es) in
    let n = subst (λ (l : List ℕ). ScheduleStepped r.desk c l a desk schedules') z m in
    step-own r.desk desk c r.stores s (with_schedules s schedules') (schedules-taken r.desk c s refl (n s)) w
entry-own r s (by_report run group book schedules a surplus shortfall) z m w =
    let o = r.desk.frame.opening in
    record {
      values = w.values;
      book = read-own o o.book r.stores.book book s.book z.0;
      log = w.log;
      schedules = read-own o o.schedules r.stores.schedules schedules s.schedules z.1;
    }

-- a store that is not taken
untaken : (o : Opening) (n : ℕ) (own lending : List ℕ) → IsOwn o false n own lending
untaken o n own lending = λ _ t. absurd (false≢true t)

-- and those that were lent to it were
lending-own : (o : Opening) (own s : Stores) (e : Entered) → LentOn s e → Own o every_store own s → Own o (takes (call_of e)) own (lending_of e)
lending-own o own s (by_open q f c k gs lending a desk book schedules) z w = subst (Own o every_store own) (sym z) w
lending-own o own s (by_apply call gs es lending a desk stores) z w =
    let v = subst (Own o every_store own) (sym z) w in
    record { values = λ t _ y. v.values t refl y; book = λ t _ y. v.book t refl y; log = λ t _ y. v.log t refl y; schedules = λ t _ y. v.schedules t refl y }
lending-own o own s (by_show run group book a part) z w =
    record {
      values = untaken o o.values own.values [];
      book = subst (IsOwn o true o.book own.book) (sym z) w.book;
      log = untaken o o.log own.log [];
      schedules = untaken o o.schedules own.schedules [];
    }
lending-own o own s (by_status p x a desk) z w =
    record {
      values = untaken o o.values own.values [];
      book = untaken o o.book own.book [];
      log = untaken o o.log own.log [];
      schedules = untaken o o.schedules own.schedules [];
    }
lending-own o own s (by_lodge group day es schedules a desk schedules') z w =
    record {
      values = untaken o o.values own.values [];
      book = untaken o o.book own.book [];
      log = untaken o o.log own.log [];
      schedules = subst (IsOwn o true o.schedules own.schedules) (sym z) w.schedules;
    }
lending-own o own s (by_report run group book schedules a surplus shortfall) z w =
    record {
      values = untaken o o.values own.values [];
      book = subst (IsOwn o true o.book own.book) (sym z.0) w.book;
      log = untaken o o.log own.log [];
      schedules = subst (IsOwn o true o.schedules own.schedules) (sym z.1) w.schedules;
    }

onward : (r : Running) (s : Stores) (es : List Entered) → Own r.desk.frame.opening every_store r.stores s → Onward r.desk s es → Run r es
unfolding Onward Run left_by
onward r s [] w R = tt
onward r s (e ∷ es) w R =
    (R.1, lending-own r.desk.frame.opening r.stores s e R.0 w, onward (left_by r e) (on_after s e) es (entry-own r s e R.0 R.1 w) R.2)

-- entries that are each lent the desk and the stores as the last one left them make such a run
pub onward-run : (s : Stores) (es : List Entered) → Onward fresh_desk s es → Run (fresh s) es
onward-run s es R = onward (fresh s) s es (record { values = λ _ _ _. refl; book = λ _ _ _. refl; log = λ _ _ _. refl; schedules = λ _ _ _. refl }) R

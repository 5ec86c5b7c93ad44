-- A store that a call does not take: it may have any length, is not looked at, and stays as it is. Assumes nothing.
use Prim.Native.Nat.{ℕ}
use mathlib.Core.Path.{◌≡◌, refl, sym, ap, ◌∙◌}
use mathlib.Core.Bool.{Bool, true, false, true≢false}
use mathlib.Core.List.{List}
use lib.ListN.{length}
use Rattle.std.specs.Prelude.{Ok, Err}
use Rattle.state.specs.Desk.{open_desk}
use Rattle.state.specs.declared.Desk.{Desk}
use Rattle.model.specs.Call.{Call, opens, activates, deactivates, submits, notices, assigns, shows, asks, closes, issues, lodges, reports, Taken, every_store, all_but_schedules, the_book, the_schedules, no_store, Stores, Lengths, lengths_of, told, telling}
use Rattle.model.specs.Causes.{takes, other_lengths, opening_by, Ruling}
use Rattle.model.specs.Step.{with_book, with_schedules, step, granting, decided, refusal_by}
use Rattle.model.specs.declared.Answer.{Answer}
use Rattle.checks.specs.Stepped.{IsStep, IsBookStep, IsScheduleStep, IsAnswer, IsWholeStep, lent, storing}

-- ---- it stays, and so does the opening

-- f is one of the stores, and t tells whether it is taken
module _ (f : Stores → List ℕ) (t : Taken → Bool) (full : t every_store ≡ true) (apart : t all_but_schedules ≡ false → (s : Stores) (v b l : List ℕ) → f (storing s v b l) ≡ f s)
    (beside : t the_book ≡ false → (s : Stores) (l : List ℕ) → f (with_book s l) ≡ f s) (behind : t the_schedules ≡ false → (s : Stores) (l : List ℕ) → f (with_schedules s l) ≡ f s) where
  granted-keeps : (d : Desk) (s : Stores) (c : Call) → t (takes c) ≡ false → ((granting d s c).desk.frame.opening ≡ d.frame.opening) × (f (granting d s c).stores ≡ f s)
  granted-keeps d s (opens q g c k gs) e = absurd (true≢false (sym full ∙ e))
  granted-keeps d s (activates p k a b day) e = (refl, refl)
  granted-keeps d s (deactivates p day) e = (refl, refl)
  granted-keeps d s (submits p x day es) e = (refl, apart e s _ _ _)
  granted-keeps d s (notices p x y day) e = (refl, apart e s _ _ _)
  granted-keeps d s (assigns a g day) e = (refl, beside e s _)
  granted-keeps d s (shows r g) e = (refl, refl)
  granted-keeps d s (asks p x) e = (refl, refl)
  granted-keeps d s (closes r day) e = (refl, refl)
  granted-keeps d s (issues r day) e = (refl, refl)
  granted-keeps d s (lodges g day es) e = (refl, behind e s _)
  granted-keeps d s (reports r g) e = (refl, refl)

  step-keeps : (d : Desk) (s : Stores) (c : Call) → t (takes c) ≡ false → ((step d (lent c s)).desk.frame.opening ≡ d.frame.opening) × (f (step d (lent c s)).stores ≡ f s)
  unfolding step decided
  step-keeps d s c e = go (refusal_by d (told (lent c s)))
    where
      go : (v : Ruling) → ((decided v d s c).desk.frame.opening ≡ d.frame.opening) × (f (decided v d s c).stores ≡ f s)
      go (Ok tt) = granted-keeps d s c e
      go (Err x) = (refl, refl)

module _ (d : Desk) (c : Call) (s : Stores) where
  pub values-kept : (takes c).values ≡ false → ((step d (lent c s)).desk.frame.opening ≡ d.frame.opening) × ((step d (lent c s)).stores.values ≡ s.values)
  values-kept = step-keeps (λ (x : Stores). x.values) (λ (x : Taken). x.values) refl (λ e _ _ _ _. absurd (true≢false e)) (λ _ _ _. refl) (λ _ _ _. refl) d s c

  pub book-kept : (takes c).book ≡ false → ((step d (lent c s)).desk.frame.opening ≡ d.frame.opening) × ((step d (lent c s)).stores.book ≡ s.book)
  book-kept = step-keeps (λ (x : Stores). x.book) (λ (x : Taken). x.book) refl (λ e _ _ _ _. absurd (true≢false e)) (λ e _ _. absurd (true≢false e)) (λ _ _ _. refl) d s c

  pub log-kept : (takes c).log ≡ false → ((step d (lent c s)).desk.frame.opening ≡ d.frame.opening) × ((step d (lent c s)).stores.log ≡ s.log)
  log-kept = step-keeps (λ (x : Stores). x.log) (λ (x : Taken). x.log) refl (λ e _ _ _ _. absurd (true≢false e)) (λ _ _ _. refl) (λ _ _ _. refl) d s c

  pub schedules-kept : (takes c).schedules ≡ false → ((step d (lent c s)).desk.frame.opening ≡ d.frame.opening) × ((step d (lent c s)).stores.schedules ≡ s.schedules)
  schedules-kept = step-keeps (λ (x : Stores). x.schedules) (λ (x : Taken). x.schedules) refl (λ _ _ _ _ _. refl) (λ _ _ _. refl) (λ e _ _. absurd (true≢false e)) d s c

  -- so a contract that is silent on it speaks of values, book and log
  pub none-taken : {answer : Answer} {desk : Desk} → takes c ≡ no_store → IsAnswer (step d (lent c s)) answer desk → IsStep (step d (lent c s)) answer desk s.values s.book s.log
  none-taken e w =
      record {
        answered = w.answered;
        held = w.held;
        valued = sym (values-kept (ap (λ (x : Taken). x.values) e)).1;
        booked = sym (book-kept (ap (λ (x : Taken). x.book) e)).1;
        noted = sym (log-kept (ap (λ (x : Taken). x.log) e)).1;
      }

  pub book-taken : {answer : Answer} {desk : Desk} {book : List ℕ} → takes c ≡ the_book → IsBookStep (step d (lent c s)) answer desk book
      → IsStep (step d (lent c s)) answer desk s.values book s.log
  book-taken e w =
      record {
        answered = w.answered;
        held = w.held;
        valued = sym (values-kept (ap (λ (x : Taken). x.values) e)).1;
        booked = w.booked;
        noted = sym (log-kept (ap (λ (x : Taken). x.log) e)).1;
      }

  -- and where the schedules are not taken, of every store
  pub unplanned : {answer : Answer} {desk : Desk} {values book log : List ℕ} → (takes c).schedules ≡ false → IsStep (step d (lent c s)) answer desk values book log
      → IsWholeStep (step d (lent c s)) answer desk (storing s values book log)
  unplanned e w =
      record {
        answered = w.answered;
        held = w.held;
        left = λ i. record { values = w.valued i; book = w.booked i; log = w.noted i; schedules = sym (schedules-kept e).1 i };
      }

  pub schedules-taken : {answer : Answer} {desk : Desk} {schedules : List ℕ} → takes c ≡ the_schedules → IsScheduleStep (step d (lent c s)) answer desk schedules
      → IsWholeStep (step d (lent c s)) answer desk (with_schedules s schedules)
  schedules-taken e w =
      record {
        answered = w.answered;
        held = w.held;
        left = λ i.
            record {
              values = sym (values-kept (ap (λ (x : Taken). x.values) e)).1 i;
              book = sym (book-kept (ap (λ (x : Taken). x.book) e)).1 i;
              log = sym (log-kept (ap (λ (x : Taken). x.log) e)).1 i;
              schedules = w.planned i;
            };
      }

-- ---- it is not looked at

-- the stores that are taken are the same
pub record Alike (t : Taken) (s u : Stores) : Type 0 where
  pub values : t.values ≡ true → s.values ≡ u.values
  pub book : t.book ≡ true → s.book ≡ u.book
  pub log : t.log ≡ true → s.log ≡ u.log
  pub schedules : t.schedules ≡ true → s.schedules ≡ u.schedules

-- so are the lengths, where all are taken
sized : (s u : Stores) → Alike every_store s u → lengths_of s ≡ lengths_of u
sized s u a = λ i.
    record { values = length (a.values refl i); book = length (a.book refl i); log = length (a.log refl i); schedules = length (a.schedules refl i) }

module _ (d : Desk) (s u : Stores) where
  same-refusal : (c : Call) → Alike (takes c) s u → refusal_by d (told (lent c s)) ≡ refusal_by d (told (lent c u))
  unfolding refusal_by other_lengths
  same-refusal (opens q f c k gs) a = ap (λ (n : Lengths). refusal_by d (telling n (opens q f c k gs))) (sized s u a)
  same-refusal (activates p k a b day) _ = refl
  same-refusal (deactivates p day) _ = refl
  same-refusal (submits p v day es) a = λ i. refusal_by d (told (lent (submits p v day es) (storing s (a.values refl i) (a.book refl i) (a.log refl i))))
  same-refusal (notices p v w day) a = λ i. refusal_by d (told (lent (notices p v w day) (storing s (a.values refl i) (a.book refl i) (a.log refl i))))
  same-refusal (assigns a g day) x = ap (λ (l : List ℕ). refusal_by d (told (lent (assigns a g day) (with_book s l)))) (x.book refl)
  same-refusal (shows r g) x = ap (λ (l : List ℕ). refusal_by d (told (lent (shows r g) (with_book s l)))) (x.book refl)
  same-refusal (asks p v) _ = refl
  same-refusal (closes r day) _ = refl
  same-refusal (issues r day) _ = refl
  same-refusal (lodges g day es) x = ap (λ (l : List ℕ). refusal_by d (told (lent (lodges g day es) (with_schedules s l)))) (x.schedules refl)
  same-refusal (reports r g) x = λ i. refusal_by d (told (lent (reports r g) (with_schedules (with_book s (x.book refl i)) (x.schedules refl i))))

  same-granted : (c : Call) → Alike (takes c) s u → ((granting d s c).answer ≡ (granting d u c).answer) × ((granting d s c).desk ≡ (granting d u c).desk)
  same-granted (opens q f c k gs) a = (refl, ap (λ (n : Lengths). open_desk (opening_by q f c k n) gs) (sized s u a))
  same-granted (activates p k a b day) _ = (refl, refl)
  same-granted (deactivates p day) _ = (refl, refl)
  same-granted (submits p v day es) _ = (refl, refl)
  same-granted (notices p v w day) _ = (refl, refl)
  same-granted (assigns a g day) _ = (refl, refl)
  same-granted (shows r g) _ = (refl, refl)
  same-granted (asks p v) _ = (refl, refl)
  same-granted (closes r day) _ = (refl, refl)
  same-granted (issues r day) _ = (refl, refl)
  same-granted (lodges g day es) _ = (refl, refl)
  same-granted (reports r g) _ = (refl, refl)

  -- the answer and the desk are the same whatever stands in a store that the call does not take, and however long it is
  pub unseen : (c : Call) → Alike (takes c) s u → ((step d (lent c s)).answer ≡ (step d (lent c u)).answer) × ((step d (lent c s)).desk ≡ (step d (lent c u)).desk)
  unfolding step decided
  unseen c a = rw (same-refusal c a) (go (refusal_by d (told (lent c u))))
    where
      go : (v : Ruling) → ((decided v d s c).answer ≡ (decided v d u c).answer) × ((decided v d s c).desk ≡ (decided v d u c).desk)
      go (Ok tt) = same-granted c a
      go (Err w) = (refl, refl)

-- The table of causes and the step, as a call's proof goes on from its ruling: refused or granted. Assumes nothing.
use Prim.Native.Nat.{ℕ, ◌*◌}
use mathlib.Core.Path.{◌≡◌, refl, sym, ◌∙◌}
use mathlib.Core.Bool.{true, false, not, ◌&&◌, ◌||◌, or-false}
use mathlib.Core.List.{List, [], ◌∷◌}
use borrow.Author.Tests.{eqb-true, not-false}
use lib.Dec.{eqb}
use Rattle.std.specs.Prelude.{Ok, Err}
use Rattle.quantity.specs.Lists.{fold}
use Rattle.quantity.proofs.Tests.{and-left, or-left, or-right}
use Rattle.state.specs.Valid.{opening_ok, valid_desk}
use Rattle.state.specs.declared.Desk.{Desk}
use Rattle.state.specs.declared.Effect.{Effect}
use Rattle.state.specs.declared.Opening.{Opening}
use Rattle.state.specs.Effect.{changed_by, unchanged_in, Fits}
use Rattle.model.specs.Call.{Call, Stores, Told, Lengths, the_book, the_schedules, book_and_schedules, lengths_of, told, telling}
use Rattle.model.specs.Causes.{Rule, terms, rule, rules, or_if, or_rule, first_of, other_lengths, opens_ok, Ruling}
use Rattle.model.specs.Step.{answering, accept, refusal_by, granting, decided, step}
use Rattle.model.specs.View.{view_of}
use Rattle.model.specs.declared.Answer.{Answer}
use Rattle.model.specs.declared.Answer.TheVariants.{Accepted, Refused}
use Rattle.model.specs.declared.Cause.{Cause}
use Rattle.model.specs.declared.Cause.TheVariants.{NotOpen}
use Rattle.checks.specs.Lent.{sizes}
use Rattle.checks.specs.declared.Decided.{Decided}
use Rattle.checks.specs.Stepped.{IsAnswer, IsBookStep, IsStep, IsScheduleStep, IsReport, IsWholeStep, Answered, lent}
use Rattle.model.specs.Laws.{Passed}
use Rattle.model.proofs.Invariant.{book-is, schedules-is}
use Rattle.model.proofs.Rules.{passed}

-- a call that is not refused has passed cause 1 and its table
pub allowed : (d : Desk) (t : Told) → refusal_by d t ≡ Ok tt
    → Passed (rule (not (terms t.call).opening && not (valid_desk d)) NotOpen (rules (view_of d) t.lengths t.call))
unfolding refusal_by
allowed d t e = passed _ e

-- what is refused stays refused
stays : (x : Cause) (l : List Rule) → fold or_rule (Err x) l ≡ Err x
unfolding fold or_if
stays x [] = refl
stays x (r ∷ l) = stays x l

module _ (d : Desk) (t : Told) (asked : (terms t.call).opening ≡ false) where
  -- a desk outside its limits: cause 1
  pub unfit : valid_desk d ≡ false → refusal_by d t ≡ Err NotOpen
  unfolding refusal_by first_of fold or_if
  unfit e = rw (asked, e) (stays NotOpen (rules (view_of d) t.lengths t.call))

  -- on one within them the table decides
  pub fit : valid_desk d ≡ true → refusal_by d t ≡ first_of (rules (view_of d) t.lengths t.call)
  unfolding refusal_by first_of fold or_if
  fit e = rw (asked, e)

-- lengths for a call that takes no store: any will do
abbrev pub no_lengths : Lengths
no_lengths = sizes 0 0 0 0

-- cause 2 of a call that takes the book alone
pub book-other : (n : Lengths) (o : Opening) → not (eqb n.book o.book) ≡ other_lengths the_book n o
unfolding other_lengths
book-other n o = sym (or-false (not (eqb n.book o.book)))

-- past it, the book has its opening length
pub book-same : (n : Lengths) (o : Opening) → other_lengths the_book n o ≡ false → n.book ≡ o.book
book-same n o e = eqb-true n.book o.book (not-false _ (book-other n o ∙ e))

-- the same of the schedules
pub schedules-other : (n : Lengths) (o : Opening) → not (eqb n.schedules o.schedules) ≡ other_lengths the_schedules n o
unfolding other_lengths
schedules-other n o = sym (or-false (not (eqb n.schedules o.schedules)))

pub schedules-same : (n : Lengths) (o : Opening) → other_lengths the_schedules n o ≡ false → n.schedules ≡ o.schedules
schedules-same n o e = eqb-true n.schedules o.schedules (not-false _ (schedules-other n o ∙ e))

-- of both
pub both-other : (n : Lengths) (o : Opening) → (not (eqb n.schedules o.schedules) || not (eqb n.book o.book)) ≡ other_lengths book_and_schedules n o
unfolding other_lengths
both-other n o = rw (or-false (not (eqb n.book o.book)))

pub both-same : (n : Lengths) (o : Opening) → other_lengths book_and_schedules n o ≡ false → (n.schedules ≡ o.schedules) × (n.book ≡ o.book)
both-same n o e =
    let h = both-other n o ∙ e in (
      eqb-true n.schedules o.schedules (not-false _ (or-left _ _ h)),
      eqb-true n.book o.book (not-false _ (or-right (not (eqb n.schedules o.schedules)) _ h)),
    )

-- an opening that is allowed has a book of 162 rows and 64 schedules
pub opens-lengths : (o : Opening) (gs : List ℕ) → opens_ok o gs ≡ true → (o.book ≡ 162 * o.quarters) × (o.schedules ≡ 64 * o.quarters)
unfolding opens_ok
opens-lengths o gs e = let ok = and-left (opening_ok o) _ e in (book-is o ok, schedules-is o ok)

-- what a refusal decides
pub unmoved : (d : Desk) {x : Cause} {r : Decided} → (r.answer ≡ Refused x) × (r.effect ≡ unchanged_in d.frame)
    → Fits d r.effect × ((r.answer ≡ Refused x) × (changed_by d r.effect ≡ d))
unmoved d h = (rw h.1 tt, (h.0, rw h.1))

module _ (d : Desk) (c : Call) (s : Stores) {v : Ruling} (e : v ≡ refusal_by d (told (lent c s))) where
  -- a refused call changes nothing
  pub refused : {x : Cause} → v ≡ Err x → step d (lent c s) ≡ answering (Refused x) d s
  unfolding step decided
  refused h = rw (sym e ∙ h)

  -- a call that is not refused is granted
  pub granted : v ≡ Ok tt → step d (lent c s) ≡ granting d s c
  unfolding step decided
  granted h = rw (sym e ∙ h)

  -- the same of a call that takes no store
  pub answer-refused : {x : Cause} {a : Answer} {n : Desk} → v ≡ Err x → (a ≡ Refused x) × (n ≡ d) → IsAnswer (step d (lent c s)) a n
  answer-refused h r = rw (refused h) (record { answered = r.0; held = r.1 })

  pub answer-granted : {a : Answer} {n : Desk} → v ≡ Ok tt → IsAnswer (granting d s c) a n → IsAnswer (step d (lent c s)) a n
  answer-granted h g = rw (granted h) g

  -- of one that takes the book
  pub book-refused : {x : Cause} {a : Answer} {n : Desk} → v ≡ Err x → (a ≡ Refused x) × (n ≡ d) → IsBookStep (step d (lent c s)) a n s.book
  book-refused h r = rw (refused h) (record { answered = r.0; held = r.1; booked = refl })

  pub book-granted : {a : Answer} {n : Desk} {book : List ℕ} → v ≡ Ok tt → IsBookStep (granting d s c) a n book → IsBookStep (step d (lent c s)) a n book
  book-granted h g = rw (granted h) g

  -- of one that takes values, book and log
  pub all-refused : {x : Cause} {a : Answer} {n : Desk} → v ≡ Err x → (a ≡ Refused x) × (n ≡ d) → IsStep (step d (lent c s)) a n s.values s.book s.log
  all-refused h r = rw (refused h) (record { answered = r.0; held = r.1; valued = refl; booked = refl; noted = refl })

  pub all-granted : {a : Answer} {n : Desk} {values book log : List ℕ} → v ≡ Ok tt → IsStep (granting d s c) a n values book log → IsStep (step d (lent c s)) a n values book log
  all-granted h g = rw (granted h) g

  -- of one that takes the schedules
  pub schedule-refused : {x : Cause} {a : Answer} {n : Desk} → v ≡ Err x → (a ≡ Refused x) × (n ≡ d) → IsScheduleStep (step d (lent c s)) a n s.schedules
  schedule-refused h r = rw (refused h) (record { answered = r.0; held = r.1; planned = refl })

  pub schedule-granted : {a : Answer} {n : Desk} {schedules : List ℕ} → v ≡ Ok tt → IsScheduleStep (granting d s c) a n schedules → IsScheduleStep (step d (lent c s)) a n schedules
  schedule-granted h g = rw (granted h) g

  -- of one that gives two sums
  pub report-refused : {x : Cause} {a : Answer} → v ≡ Err x → a ≡ Refused x → IsReport (step d (lent c s)) a 0 0
  report-refused h r = rw (refused h) (record { answered = r; over = refl; under = refl })

  pub report-granted : {a : Answer} {surplus shortfall : ℕ} → v ≡ Ok tt → IsReport (granting d s c) a surplus shortfall → IsReport (step d (lent c s)) a surplus shortfall
  report-granted h g = rw (granted h) g

  -- of one that takes every store
  pub whole-refused : {x : Cause} {a : Answer} {n : Desk} → v ≡ Err x → (a ≡ Refused x) × (n ≡ d) → IsWholeStep (step d (lent c s)) a n s
  whole-refused h r = rw (refused h) (record { answered = r.0; held = r.1; left = refl })

  pub whole-granted : {a : Answer} {n : Desk} {u : Stores} → v ≡ Ok tt → IsWholeStep (granting d s c) a n u → IsWholeStep (step d (lent c s)) a n u
  whole-granted h g = rw (granted h) g

-- what is decided of a call that takes no store, by a ruling that says what the table says
module _ (d : Desk) (c : Call) {v : Ruling} (e : (n : Lengths) → v ≡ refusal_by d (telling n c)) {r : Decided} where
  pub decides-refused : {x : Cause} → v ≡ Err x → (r.answer ≡ Refused x) × (r.effect ≡ unchanged_in d.frame)
      → Fits d r.effect × Answered d c r.answer (changed_by d r.effect)
  decides-refused h z = let u = unmoved d z in (u.0, λ s. answer-refused d c s (e (lengths_of s)) h u.1)

  pub decides-granted : {f : Effect} {n : Desk} → v ≡ Ok tt → (r.answer ≡ Accepted) × (r.effect ≡ f) → Fits d f × (changed_by d f ≡ n) → ((s : Stores) → granting d s c ≡ accept n s)
      → Fits d r.effect × Answered d c r.answer (changed_by d r.effect)
  decides-granted h a p g = (rw a.1 p.0, λ s. answer-granted d c s (e (lengths_of s)) h (rw (g s) (record { answered = a.0; held = rw a.1 p.1 })))

-- Both desks answer by document 01's table, line by line and both ways. Assumes nothing.
use Prim.Native.Nat.{ℕ, ◌+◌, ◌*◌, ◌≤◌, ◌<◌}
use mathlib.Core.Path.{◌≡◌, refl, sym, ap, ◌∙◌}
use mathlib.Core.Bool.{Bool, true, false, not, ◌&&◌, or-false, true≢false, false≢true}
use mathlib.Core.Logic.{◌⊎◌, inl, inr}
use mathlib.Core.List.{List, [], ◌∷◌}
use native.Mathlib.Omega.{arith}
use borrow.Author.Tests.{not-false, eqb-true, ltb-false}
use lib.Dec.{leb, eqb}
use lib.IntN.{ℤ}
use lib.ListN.{length}
use Rattle.std.specs.Prelude.{Ok, Err}
use Rattle.quantity.specs.Limits.{versions, day_ok, version_ok, point_ok, delta_ok, group_ok, run_ok}
use Rattle.quantity.specs.Lists.{any}
use Rattle.quantity.specs.Meaning.{Means}
use Rattle.quantity.proofs.Meanings.{means-le, means-lt, means-eq, means-not, means-and, means-or}
use Rattle.quantity.proofs.Ranges.{means-day, means-version, means-point, means-delta, means-group, means-run}
use Rattle.quantity.proofs.Tests.{and-left}
use Rattle.state.specs.Change.{noticed}
use Rattle.state.specs.Desk.{is_open}
use Rattle.state.specs.Point.{point_at, is_active, series_ok}
use Rattle.state.specs.Selection.{highest, best, version_of, Highest}
use Rattle.state.specs.Valid.{valid_desk}
use Rattle.state.specs.Version.{record_at, is_at, held}
use Rattle.state.specs.Within.{Within}
use Rattle.state.specs.declared.Desk.{Desk}
use Rattle.state.specs.declared.Selection.{Selection}
use Rattle.state.specs.declared.Selection.TheVariants.{None, Selected}
use Rattle.state.specs.declared.VersionRow.{VersionRow}
use Rattle.state.proofs.Limits.{means-series, means-valid}
use Rattle.state.proofs.Picks.{best-highest}
use Rattle.model.specs.Call.{Call, opens, activates, deactivates, submits, notices, assigns, shows, asks, closes, issues, lodges, reports, Stores, Lengths, lengths_of, Lent, Told, told, cause_number}
use Rattle.model.specs.Causes.{Rule, terms, takes, rules, other_lengths, first_of, opens_ok, opening_by, submit_ok, notice_ok, lodge_ok, log_full, is_absent, is_below, not_check, refusal, Ruling}
use Rattle.model.specs.Laws.{Passed, Decides, here, below}
use Rattle.model.specs.Log.{due}
use Rattle.model.specs.Plain.{versions_of, view_in, granted, answered, plain_reply}
use Rattle.model.specs.Step.{lines, step}
use Rattle.model.specs.Table.{Table, end, line, numbers_in, order, among, FirstIs, NoneIs, ByTable, NoneLeft, table, desk_table}
use Rattle.model.specs.View.{View, view_of}
use Rattle.model.specs.declared.Answer.{Answer}
use Rattle.model.specs.declared.Answer.TheVariants.{Refused}
use Rattle.model.specs.declared.Cause.{Cause}
use Rattle.model.specs.declared.Cause.TheVariants.{NotOpen}
use Rattle.model.proofs.CauseLaws.{status-found, step-accepts, step-refused, step-refuses}
use Rattle.model.proofs.Rules.{not-refused, passed, passed-fine, past, first-decides, decides-first}
use Rattle.model.proofs.TableDue.{check-held, means-submit-due, means-notice-due}
use Rattle.model.proofs.TableWords.{means-unopened, means-allowed, means-stores, means-book, means-schedules, means-both, means-submit, means-lodge, means-active, means-early, means-same-series, means-has, means-present, means-absent, means-status, means-below, means-deadline, means-flag, means-unflagged, means-second}

-- ---- tests and a table that say the same

-- line by line the same number, and a test that says what the line says, where no test above it holds
abbrev pub Says : List Rule → Table → Type 0
Says [] end = Unit {0}
Says [] (line m P t) = ⊥
Says (r ∷ l) end = ⊥
Says (r ∷ l) (line m P t) = (cause_number r.cause ≡ m) × (Means r.holds P × (r.holds ≡ false → Says l t))

-- one line: its number is the paper's, its test says what the line says, and so on below it
said : {number : ℕ} {test : Bool} {P S : Type 0} → Means test P → (test ≡ false → S) → (number ≡ number) × (Means test P × (test ≡ false → S))
said m lower = (refl, (m, lower))

pub decides-first-is : (x : Cause) (l : List Rule) (t : Table) → Says l t → Decides x l → FirstIs t (cause_number x)
decides-first-is x l end S (here h e) = absurd S
decides-first-is x l end S (below h D) = absurd S
decides-first-is x l (line m P t) S (here h e) = inl (S.1.0.holds h, sym S.0 ∙ ap cause_number e)
decides-first-is x l (line m P t) S (below {l = k} h D) = inr (S.1.0.fails h, decides-first-is x k t (S.1.1 h) D)

pub first-is-decides : (l : List Rule) (t : Table) → Says l t → (n : ℕ) → FirstIs t n → (x : Cause) × (Decides x l × (cause_number x ≡ n))
first-is-decides [] end S n F = absurd F
first-is-decides [] (line m P t) S n F = absurd S
first-is-decides (r ∷ l) end S n F = absurd S
first-is-decides (r ∷ l) (line m P t) S n F = go r.holds refl F (λ h. first-is-decides l t (S.1.1 h) n)
  where
    go : (b : Bool) → r.holds ≡ b → (P × (m ≡ n)) ⊎ ((P → ⊥) × FirstIs t n) → (r.holds ≡ false → FirstIs t n → (x : Cause) × (Decides x l × (cause_number x ≡ n)))
        → (x : Cause) × (Decides x (r ∷ l) × (cause_number x ≡ n))
    go true h (inl q) rest = (r.cause, (here h refl, S.0 ∙ q.1))
    go true h (inr q) rest = absurd (q.0 (S.1.0.holds h))
    go false h (inl q) rest = absurd (S.1.0.fails h q.0)
    go false h (inr q) rest = let k = rest h q.1 in (k.0, (below h k.1.0, k.1.1))

pub passed-none : (l : List Rule) (t : Table) → Says l t → Passed l → NoneIs t
passed-none [] end S P = tt
passed-none [] (line m Q t) S P = absurd S
passed-none (r ∷ l) end S P = absurd S
passed-none (r ∷ l) (line m Q t) S P = (S.1.0.fails P.0, passed-none l t (S.1.1 P.0) P.1)

pub none-passed : (l : List Rule) (t : Table) → Says l t → NoneIs t → Passed l
none-passed [] end S N = tt
none-passed [] (line m Q t) S N = absurd S
none-passed (r ∷ l) end S N = absurd S
none-passed (r ∷ l) (line m Q t) S N = go r.holds refl (λ h. none-passed l t (S.1.1 h) N.1)
  where
    go : (b : Bool) → r.holds ≡ b → (r.holds ≡ false → Passed l) → Passed (r ∷ l)
    go true h rest = absurd (N.0 (S.1.0.holds h))
    go false h rest = (h, rest h)

-- ---- the tests of each call

module _ (v : View) (n : Lengths) where
  unopened : Means (not (is_open v.frame.opening)) (v.frame.opening.quarters ≡ 0)
  unopened = means-unopened v.frame.opening

  -- where 3, 14 and 15 do not hold, the version is above all of its point
  pub highest-below : (p x d : ℕ) (es : List ℤ) → not (submit_ok p x d v.frame.opening.quarters es) ≡ false → not (is_absent (held p x v.versions)) ≡ false
      → is_below p x v.versions ≡ false → highest p v.versions < x
  highest-below p x d es fields free up = go (best (is_at p) v.versions) (best-highest (is_at p) v.versions) (ltb-false x (highest p v.versions) up)
    where
      low : 1 ≤ x
      low = ((means-submit p x d v.frame.opening.quarters es).holds (not-false (submit_ok p x d v.frame.opening.quarters es) fields)).1.0.0

      go : (s : Selection) → Highest (is_at p) v.versions (length v.versions) s → version_of s ≤ x → version_of s < x
      go None h l = omega (arith, low)
      go (Selected r) h l =
          let number : (record_at v.versions r.at).version.0 ≡ r.version.0 = ap (λ (z : VersionRow). z.version.0) h.here in
          let other : r.version.0 ≡ x → ⊥ = λ e. (means-present v.versions p x).fails free (r.at, (h.within, (eqb-true (record_at v.versions r.at).point.0 p h.passes, number ∙ e))) in
          omega (arith, l, other)

  -- where 37 and 25 do not hold, the version is its point's highest and check data
  noticed-due : (p x y d : ℕ) → is_below p x v.versions ≡ false → not_check (held p x v.versions) ≡ false
      → Means (log_full v.frame.used v.frame.opening.log (due v.versions (noticed v.frame.opening.clearing.0 p x y d v.versions) p d)) ((y ≡ 1) × NoneLeft v.frame)
  noticed-due p x y d top check =
      let h = check-held (held p x v.versions) check in
      means-notice-due v.versions v.frame.opening.clearing.0 p x d h.0 h.1.0 h.1.1.0 h.1.1.1 (ltb-false x (highest p v.versions) top) y v.frame.used v.frame.opening.log

  run-in : (r d : ℕ) → not (run_ok r && day_ok d) ≡ false → (r ≡ 1) ⊎ (r ≡ 2)
  run-in r d fields = (means-run r).holds (and-left (run_ok r) _ (not-false (run_ok r && day_ok d) fields))

  pub says : (c : Call) → Says (rules v n c) (table v n c)
  says (opens q f c k gs) =
      said (means-not _ (means-eq v.frame.opening.quarters 0)) (λ _.
      said (means-not (opens_ok (opening_by q f c k n) gs) (means-allowed q f c k gs n)) (λ _.
      tt))
  says (activates p k a b d) =
      said unopened (λ _.
      said (means-not (point_ok p && (day_ok d && series_ok k a b)) (means-and (point_ok p) _ (means-point p) (λ _. means-and (day_ok d) _ (means-day d) (λ _. means-series k a b)))) (λ _.
      said (means-lt d v.frame.day.0) (λ _.
      said (means-lt v.frame.opening.correction.0 d) (λ _.
      said (means-active v.points p) (λ _.
      said (means-same-series v.points k a b) (λ _.
      tt))))))
  says (deactivates p d) =
      said unopened (λ _.
      said (means-not (point_ok p && day_ok d) (means-and (point_ok p) _ (means-point p) (λ _. means-day d))) (λ _.
      said (means-lt d v.frame.day.0) (λ _.
      said (means-lt v.frame.opening.correction.0 d) (λ _.
      said (means-not (is_active (point_at v.points p)) (means-active v.points p)) (λ _.
      said (means-has v.versions p) (λ _.
      tt))))))
  says (submits p x d es) =
      said unopened (λ _.
      said (means-stores n v.frame.opening) (λ _.
      said (means-not (submit_ok p x d v.frame.opening.quarters es) (means-submit p x d v.frame.opening.quarters es)) (λ fields.
      said (means-lt d v.frame.day.0) (λ _.
      said (means-lt v.frame.opening.correction.0 d) (λ _.
      said (means-not (is_active (point_at v.points p)) (means-active v.points p)) (λ on.
      said (means-early v.points p d (not-false (is_active (point_at v.points p)) on)) (λ _.
      said (means-present v.versions p x) (λ free.
      said (means-below v.versions p x) (λ up.
      said (means-or (leb versions (length v.versions)) _ (means-le 512 (length v.versions)) (means-lt v.frame.opening.values ((length v.versions + 1) * v.frame.opening.quarters))) (λ _.
      said (means-submit-due v.versions v.frame.opening.first.0 (length v.versions) p x d (highest-below p x d es fields free up) v.frame.used v.frame.opening.log) (λ _.
      tt)))))))))))
  says (notices p x y d) =
      said unopened (λ _.
      said (means-stores n v.frame.opening) (λ _.
      said (means-not (notice_ok p x y d) (means-and (point_ok p) _ (means-point p) (λ _. means-and (version_ok x) _ (means-version x) (λ _. means-and (leb y 1) _ (means-le y 1) (λ _. means-day d))))) (λ _.
      said (means-lt d v.frame.day.0) (λ _.
      said (means-lt v.frame.opening.correction.0 d) (λ _.
      said (means-not (is_active (point_at v.points p)) (means-active v.points p)) (λ _.
      said (means-absent v.versions p x) (λ there.
      said (means-below v.versions p x) (λ top.
      said (means-status v.versions p x there) (λ check.
      said (noticed-due p x y d top check) (λ _.
      tt))))))))))
  says (assigns a g d) =
      said unopened (λ _.
      said (means-book n v.frame.opening) (λ _.
      said (means-not (delta_ok a && (group_ok g && day_ok d)) (means-and (delta_ok a) _ (means-delta a) (λ _. means-and (group_ok g) _ (means-group g) (λ _. means-day d)))) (λ _.
      said (means-lt d v.frame.day.0) (λ _.
      said (means-lt v.frame.opening.correction.0 d) (λ _.
      tt)))))
  says (shows r g) =
      said unopened (λ _.
      said (means-book n v.frame.opening) (λ _.
      said (means-not (run_ok r && group_ok g) (means-and (run_ok r) _ (means-run r) (λ _. means-group g))) (λ _.
      tt)))
  says (asks p x) =
      said unopened (λ _.
      said (means-not (point_ok p && version_ok x) (means-and (point_ok p) _ (means-point p) (λ _. means-version x))) (λ _.
      said (means-not (is_active (point_at v.points p)) (means-active v.points p)) (λ _.
      said (means-absent v.versions p x) (λ _.
      tt))))
  says (lodges g d es) =
      said unopened (λ _.
      said (means-schedules n v.frame.opening) (λ _.
      said (means-not (lodge_ok g d v.frame.opening.quarters es) (means-lodge g d v.frame.opening.quarters es)) (λ _.
      said (means-lt d v.frame.day.0) (λ _.
      said (means-lt v.frame.opening.clearing.0 d) (λ _.
      tt)))))
  says (reports r g) =
      said unopened (λ _.
      said (means-both n v.frame.opening) (λ _.
      said (means-not (run_ok r && group_ok g) (means-and (run_ok r) _ (means-run r) (λ _. means-group g))) (λ _.
      tt)))
  says (closes r d) =
      said unopened (λ _.
      said (means-not (run_ok r && day_ok d) (means-and (run_ok r) _ (means-run r) (λ _. means-day d))) (λ fields.
      said (means-lt d v.frame.day.0) (λ _.
      said (means-deadline v.frame.opening r d (run-in r d fields)) (λ _.
      said (means-flag v.frame.closed r (run-in r d fields)) (λ _.
      said (means-second v.frame.closed r) (λ _.
      tt))))))
  says (issues r d) =
      said unopened (λ _.
      said (means-not (run_ok r && day_ok d) (means-and (run_ok r) _ (means-run r) (λ _. means-day d))) (λ fields.
      said (means-lt d v.frame.day.0) (λ _.
      said (means-unflagged v.frame.closed r (run-in r d fields)) (λ _.
      said (means-flag v.frame.issued r (run-in r d fields)) (λ _.
      tt)))))

-- "only those that fit the call": the numbers of a call's lines stand in the order of the whole table
pub in-order : (v : View) (n : Lengths) (c : Call) → among order (numbers_in (table v n c)) ≡ numbers_in (table v n c)
unfolding any
in-order v n (opens q f c k gs) = refl
in-order v n (activates p k a b d) = refl
in-order v n (deactivates p d) = refl
in-order v n (submits p x d es) = refl
in-order v n (notices p x y d) = refl
in-order v n (assigns a g d) = refl
in-order v n (shows r g) = refl
in-order v n (asks p x) = refl
in-order v n (closes r d) = refl
in-order v n (issues r d) = refl
in-order v n (lodges g d es) = refl
in-order v n (reports r g) = refl

-- the stores that a call takes are those whose lengths are asked for: 2, of all but open
pub taken-asked : (v : View) (n : Lengths) (c : Call) → (terms c).opening ≡ false
    → any (λ (r : Rule). eqb (cause_number r.cause) 2 && r.holds) (rules v n c) ≡ other_lengths (takes c) n v.frame.opening
unfolding any other_lengths
taken-asked v n (opens q f c k gs) e = absurd (true≢false e)
taken-asked v n (activates p k a b d) e = refl
taken-asked v n (deactivates p d) e = refl
taken-asked v n (submits p x d es) e = or-false _
taken-asked v n (notices p x y d) e = or-false _
taken-asked v n (assigns a g d) e = or-false _
taken-asked v n (shows r g) e = or-false _
taken-asked v n (asks p x) e = refl
taken-asked v n (closes r d) e = refl
taken-asked v n (issues r d) e = refl
taken-asked v n (lodges g d es) e = or-false _
taken-asked v n (reports r g) e = or-false _

-- the answer by a table of tests that says what the paper's says
by-table : (l : List Rule) (t : Table) (a : Answer) → Says l t → ((x : Cause) → a ≡ Refused x → Decides x l) → ((x : Cause) → Decides x l → a ≡ Refused x)
    → (Passed l → (x : Cause) → a ≡ Refused x → ⊥) → ByTable t a
by-table l t a S refused refuses accepts =
    record {
      refused = λ x e. decides-first-is x l t S (refused x e);
      refuses = λ n F. let k = first-is-decides l t S n F in (k.0, (refuses k.0 k.1.0, k.1.1));
      accepted = λ no. go no (first_of l) refl;
      accepts = λ N. accepts (none-passed l t S N);
    }
  where
    go : ((x : Cause) → a ≡ Refused x → ⊥) → (r : Ruling) → first_of l ≡ r → NoneIs t
    go free (Ok tt) e = passed-none l t S (passed l e)
    go free (Err x) e = absurd (free x (refuses x (first-decides l x e)))

-- ---- both desks

module _ (d : Desk) (s : Stores) where
  others : (c : Call) → Says (lines d (told (record { call = c; stores = s }))) (desk_table d (lengths_of s) c) → ByTable (desk_table d (lengths_of s) c) (step d (record { call = c; stores = s })).answer
  others c S =
      let l : Lent = record { call = c; stores = s } in
      by-table (lines d (told l)) (desk_table d (lengths_of s) c) (step d l).answer S (step-refused d l) (step-refuses d l) (step-accepts d l)

  limits : Means (not (valid_desk d)) (Within d → ⊥)
  limits = means-not (valid_desk d) (means-valid d)

  -- the running desk, in any state, with any stores
  pub step-by-table : (c : Call) → ByTable (desk_table d (lengths_of s) c) (step d (record { call = c; stores = s })).answer
  step-by-table (opens q f c k gs) =
      let l : Lent = record { call = opens q f c k gs; stores = s } in
      by-table (rules (view_of d) (lengths_of s) l.call) (table (view_of d) (lengths_of s) l.call) (step d l).answer (says (view_of d) (lengths_of s) l.call)
      (λ x e. beneath x (rules (view_of d) (lengths_of s) l.call) (step-refused d l x e)) (λ x D. step-refuses d l x (below refl D)) (λ P. step-accepts d l (refl, P))
    where
      beneath : (x : Cause) (m : List Rule) → Decides x (record { holds = false; cause = NotOpen } ∷ m) → Decides x m
      beneath x m (here h e) = absurd (false≢true h)
      beneath x m (below h D) = D
  step-by-table (activates p k a b t) = others (activates p k a b t) (said limits (λ _. says (view_of d) (lengths_of s) (activates p k a b t)))
  step-by-table (deactivates p t) = others (deactivates p t) (said limits (λ _. says (view_of d) (lengths_of s) (deactivates p t)))
  step-by-table (submits p x t es) = others (submits p x t es) (said limits (λ _. says (view_of d) (lengths_of s) (submits p x t es)))
  step-by-table (notices p x y t) = others (notices p x y t) (said limits (λ _. says (view_of d) (lengths_of s) (notices p x y t)))
  step-by-table (assigns a g t) = others (assigns a g t) (said limits (λ _. says (view_of d) (lengths_of s) (assigns a g t)))
  step-by-table (shows r g) = others (shows r g) (said limits (λ _. says (view_of d) (lengths_of s) (shows r g)))
  step-by-table (asks p x) = others (asks p x) (said limits (λ _. says (view_of d) (lengths_of s) (asks p x)))
  step-by-table (closes r t) = others (closes r t) (said limits (λ _. says (view_of d) (lengths_of s) (closes r t)))
  step-by-table (issues r t) = others (issues r t) (said limits (λ _. says (view_of d) (lengths_of s) (issues r t)))
  step-by-table (lodges g t es) = others (lodges g t es) (said limits (λ _. says (view_of d) (lengths_of s) (lodges g t es)))
  step-by-table (reports r g) = others (reports r g) (said limits (λ _. says (view_of d) (lengths_of s) (reports r g)))

-- what the plain desk grants is no refusal
granted-fine : {A : Type 0} (h : List Told) (n : Lengths) (c : Call) (x : Cause) → Passed (rules (view_in h) n c) → (granted h c).answer ≡ Refused x → A
unfolding view_in
granted-fine h n (opens q f c k gs) x P e = not-refused x e
granted-fine h n (activates p k a b d) x P e = not-refused x e
granted-fine h n (deactivates p d) x P e = not-refused x e
granted-fine h n (submits p y d es) x P e = not-refused x e
granted-fine h n (notices p y z d) x P e = not-refused x e
granted-fine h n (assigns a g d) x P e = not-refused x e
granted-fine h n (shows r g) x P e = not-refused x e
granted-fine h n (asks p y) x P e = status-found (held p y (versions_of h)) x (past 24 (rules (view_in h) n (asks p y)) P) e
granted-fine h n (closes r d) x P e = not-refused x e
granted-fine h n (issues r d) x P e = not-refused x e
granted-fine h n (lodges g d es) x P e = not-refused x e
granted-fine h n (reports r g) x P e = not-refused x e

-- the plain desk, after any calls
pub plain-by-table : (h : List Told) (t : Told) → ByTable (table (view_in h) t.lengths t.call) (plain_reply h t).answer
unfolding plain_reply answered refusal
plain-by-table h t =
    by-table l (table (view_in h) t.lengths t.call) (plain_reply h t).answer (says (view_in h) t.lengths t.call)
    (λ x e. go x (first_of l) refl e) (λ x D. rw (decides-first l x D)) (λ P x e. granted-fine h t.lengths t.call x P (rw (passed-fine l P) at e))
  where
    l : List Rule
    l = rules (view_in h) t.lengths t.call

    go : (x : Cause) (r : Ruling) → first_of l ≡ r → (answered r h t.call).answer ≡ Refused x → Decides x l
    go x (Ok tt) z e = granted-fine h t.lengths t.call x (passed l z) e
    go x (Err y) z e = let same : y ≡ x = cc in first-decides l x (z ∙ ap Err same)

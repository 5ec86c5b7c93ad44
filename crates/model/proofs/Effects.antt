-- What an accepted call makes of the running desk and its stores, in any state, and what the plain desk begins with. Assumes nothing.
use Prim.Native.Nat.{ℕ, zero, suc, ◌+◌, ◌-◌, ◌*◌, ◌≤◌}
use mathlib.Core.Path.{◌≡◌, refl, sym, ap, ◌∙◌}
use mathlib.Core.Bool.{true, not, true≢false, Bool}
use mathlib.Core.List.{List, [], ◌∷◌, ◌++◌, map}
use mathlib.Core.Logic.{⊎_elim}
use native.Mathlib.Omega.{arith}
use borrow.Author.Tests.{eqb-true, ne_eqb, ltb-false, not-false}
use lib.Dec.{leb, eqb}
use lib.IntN.{ℤ, pos}
use lib.ListN.{length, take, drop, get_or, replicate, length-map, length-take, get_or-map, length-replicate, get_or-replicate}
use lib.Seq.{length-take-le, get_or-append-add, get_or-drop}
use Rattle.std.specs.Prelude.{Option, Some, None}
use Rattle.quantity.specs.Limits.{point_ok}
use Rattle.quantity.specs.Lists.{fold}
use Rattle.quantity.specs.Word.{word}
use Rattle.quantity.proofs.Tests.{and-left, and-right, or-left, or-right, within-low}
use Rattle.book.specs.Row.{splice}
use Rattle.book.proofs.Rows.{length-splice, splice-in, splice-before, splice-after}
use Rattle.state.specs.Change.{confirm, settle}
use Rattle.state.specs.Desk.{versions_in, flagged}
use Rattle.state.specs.Point.{free_point, active_point, with_point}
use Rattle.state.specs.Status.{confirmed_status}
use Rattle.state.specs.Valid.{opening_ok, valid_desk}
use Rattle.state.specs.Version.{empty_version, held}
use Rattle.state.specs.Walk.{map_first}
use Rattle.state.specs.declared.Desk.{Desk}
use Rattle.state.specs.declared.HeldVersion.{HeldVersion}
use Rattle.state.specs.declared.PointRecord.{PointRecord}
use Rattle.state.specs.declared.PointState.TheVariants.{Free, Active}
use Rattle.state.specs.declared.PerRun.{PerRun}
use Rattle.state.specs.declared.VersionRecord.{VersionRecord}
use Rattle.state.proofs.Bounds.{sound}
use Rattle.state.proofs.Kept.{settled-versions}
use Rattle.state.proofs.Picks.{held-right}
use Rattle.state.proofs.Settled.{submitted-number, confirmed-number, settles-first, settles-second}
use Rattle.model.specs.Call.{Call, opens, activates, deactivates, submits, notices, assigns, shows, asks, closes, issues, lodges, reports, Stores, Lengths, lengths_of, Lent, telling}
use Rattle.model.specs.Causes.{rules, opening_by, opens_ok, submit_ok, other_lengths}
use Rattle.model.specs.Effects.{AllFree, AllZero, OpensDesk, Begins, SetsFlag, WritesRow, SubmitsDesk, NoticesDesk, IssuesDesk}
use Rattle.model.specs.Laws.{Passed, Sets, Allots, day_by}
use Rattle.model.specs.Plain.{worked_out, after}
use Rattle.model.specs.Replies.{IsAccepted}
use Rattle.model.specs.Step.{version_by, granting, step}
use Rattle.model.specs.View.{view_of}
use Rattle.model.proofs.Accepting.{lines-passed, is-granted}
use Rattle.model.proofs.Afterwards.{sets-one, allotted}
use Rattle.model.proofs.ChangeLaws.{confirmed}
use Rattle.model.proofs.Replies.{held-within}
use Rattle.model.proofs.Rules.{past}
use Rattle.model.proofs.TableWords.{means-submit}

-- ---- an opening

all-free : AllFree (replicate 256 free_point)
all-free = record { size = refl; free = λ i l. ap (λ (r : PointRecord). r.state) (get_or-replicate 256 i free_point free_point l) }

all-zero : (n : ℕ) → AllZero n (replicate n 0)
all-zero n = record { long = length-replicate n 0; zero = λ i l. get_or-replicate n i 0 0 l }

pub opens-desk : (d : Desk) (s : Stores) (q f c k : ℕ) (gs : List ℕ) → IsAccepted (step d (record { call = opens q f c k gs; stores = s })).answer
    → OpensDesk q f c k gs s (step d (record { call = opens q f c k gs; stores = s }))
unfolding opens_ok
opens-desk d s q f c k gs ok =
    let l : Lent = record { call = opens q f c k gs; stores = s } in
    let allowed = not-false (opens_ok (opening_by q f c k (lengths_of s)) gs) (lines-passed d l ok).1.1.0 in
    rw (is-granted d l ok)
    (record {
      opens = record { q = refl; f = refl; c = refl; k = refl; values = refl; book = refl; log = refl; schedules = refl; given1 = refl; given2 = refl };
      seventeen = eqb-true (length gs) 17 (and-left (eqb (length gs) 17) _ (and-right (opening_ok (opening_by q f c k (lengths_of s))) _ allowed));
      day = refl;
      points = all-free;
      count = refl;
      used = refl;
      closed = record { first = refl; second = refl };
      issued = record { first = refl; second = refl };
      book = all-zero (162 * q);
      schedules = all-zero (64 * q);
      values = refl;
      log = refl;
    })

pub plain-begins : (n : Lengths) (q f c k : ℕ) (gs : List ℕ) → Begins (worked_out (telling n (opens q f c k gs) ∷ []))
unfolding worked_out after fold
plain-begins n q f c k gs =
    record {
      day = refl;
      points = all-free;
      versions = refl;
      energies = refl;
      log = refl;
      closed = record { first = refl; second = refl };
      issued = record { first = refl; second = refl };
      rows = refl;
      schedules = λ i l. get_or-replicate 64 i [] [] l;
    }

-- ---- points, delta groups, flags

flag-set : (r : ℕ) (f : PerRun Bool) → SetsFlag r f (flagged r f)
flag-set r f = record { first = λ e. rw e (refl, refl); second = λ e. rw e (refl, refl) }

module _ (d : Desk) (s : Stores) where
  -- the desk after a call
  abbrev then : Call → Desk
  then c = (step d (record { call = c; stores = s })).desk

  -- a call is accepted
  abbrev Accepts : Call → Type 0
  Accepts c = IsAccepted (step d (record { call = c; stores = s })).answer

  -- points are counted from 1, records from 0
  placed : (p : ℕ) (r : PointRecord) → point_ok p ≡ true → Sets free_point (p - 1) r d.points (with_point d.points p r)
  placed zero r e = absurd (omega (arith, within-low 1 256 0 e))
  placed (suc i) r e = let same : suc i - 1 ≡ i = omega arith in rw same (sets-one free_point d.points i r)

  -- "a point is either free or active since a day, with its kind, area and partner"
  pub activates-there : (p k a b e : ℕ) → Accepts (activates p k a b e)
      → Sets free_point (p - 1) (record { state = Active (record { 0 = e }) (record { 0 = k }) (record { 0 = a }) (record { 0 = b }) }) d.points (then (activates p k a b e)).points
  activates-there p k a b e ok =
      let l : Lent = record { call = activates p k a b e; stores = s } in
      rw (then, is-granted d l ok) (placed p (active_point k a b e) (and-left (point_ok p) _ (not-false _ (lines-passed d l ok).1.1.0)))

  -- "The point becomes free."
  pub deactivates-there : (p e : ℕ) → Accepts (deactivates p e) → Sets free_point (p - 1) (record { state = Free }) d.points (then (deactivates p e)).points
  deactivates-there p e ok =
      let l : Lent = record { call = deactivates p e; stores = s } in
      rw (then, is-granted d l ok) (placed p free_point (and-left (point_ok p) _ (not-false _ (lines-passed d l ok).1.1.0)))

  -- document 02: "Assign up to day C sets both, as before; after C and up to K it sets run 2 only."
  pub assigns-there : (a g e : ℕ) → Accepts (assigns a g e) → Allots d.frame.opening.clearing.0 e a g d.frame.groups (then (assigns a g e)).frame.groups
  assigns-there a g e ok = rw (then, is-granted d (record { call = assigns a g e; stores = s }) ok) (allotted d.frame.opening d.frame.groups e a g)

  -- "close (records that the run is closed)"
  pub closes-there : (r e : ℕ) → Accepts (closes r e) → SetsFlag r d.frame.closed (then (closes r e)).frame.closed
  closes-there r e ok = rw (then, is-granted d (record { call = closes r e; stores = s }) ok) (flag-set r d.frame.closed)

-- "An accepted call with a day sets it.": of an open desk
module _ (d : Desk) (s : Stores) (some : 1 ≤ d.frame.opening.quarters) where
  granted-day : (c : Call) → Passed (rules (view_of d) (lengths_of s) c) → (granting d s c).desk.frame.day.0 ≡ day_by c d.frame.day.0
  granted-day (opens q f c k gs) P = absurd (true≢false (sym (rw (ne_eqb d.frame.opening.quarters 0 (λ e. omega arith))) ∙ P.0))
  granted-day (activates p k a b e) P = refl
  granted-day (deactivates p e) P = refl
  granted-day (submits p x e es) P = refl
  granted-day (notices p x y e) P = refl
  granted-day (assigns a g e) P = refl
  granted-day (shows r g) P = refl
  granted-day (asks p x) P = refl
  granted-day (closes r e) P = refl
  granted-day (issues r e) P = refl
  granted-day (lodges g e es) P = refl
  granted-day (reports r g) P = refl

  pub day-there : (c : Call) → IsAccepted (step d (record { call = c; stores = s })).answer → (step d (record { call = c; stores = s })).desk.frame.day.0 ≡ day_by c d.frame.day.0
  day-there c ok = let l : Lent = record { call = c; stores = s } in rw (is-granted d l ok) (granted-day c (lines-passed d l ok).1)

-- ---- versions, of a version table of 512

-- a series in its row
written : (l : List ℕ) (q row : ℕ) (es : List ℤ) → row * q + q ≤ length l → length es ≡ q → WritesRow q row es l (splice l (row * q) q (map word es))
unfolding word
written l q row es fits long =
    let full : length (map word es) ≡ q = length-map es word ∙ long in
    record {
      within = fits;
      there = λ n lo hi. splice-in l (map word es) (row * q) q fits full (n - 1) 0 (omega arith) ∙ get_or-map word es (n - 1) (pos 0);
      others = λ i. ⊎_elim (splice-before l (map word es) (row * q) q fits full i 0) (splice-after l (map word es) (row * q) q fits full i 0);
      size = length-splice l (map word es) (row * q) q fits full;
    }

-- "Negative changes no status."
unconfirmed : (c y d : ℕ) → (y ≡ 1 → ⊥) → (h : Option HeldVersion) (vs : List VersionRecord) → confirm c y d h vs ≡ vs
unconfirmed c y d ne None vs = refl
unconfirmed c y d ne (Some h) vs = rw (ne_eqb y 1 ne)

-- past the first n a list is as it was
map_first-behind : {A : Type 0} (f : A → A) (l : List A) (n j : ℕ) (z : A) → n ≤ length l → n ≤ j → get_or (map_first n f l) j z ≡ get_or l j z
unfolding map_first
map_first-behind f l n j z h k =
    let size : length (map f (take n l)) ≡ n = length-map (take n l) f ∙ length-take-le n l h in
    let at : j ≡ length (map f (take n l)) + (j - n) = omega arith in
    let at' : n + (j - n) ≡ j = omega arith in
    ap (λ (i : ℕ). get_or (map f (take n l) ++ drop n l) i z) at ∙ get_or-append-add (map f (take n l)) (drop n l) (j - n) z ∙ get_or-drop n l (j - n) z ∙ ap (λ (i : ℕ). get_or l i z) at'

module _ (d : Desk) (s : Stores) (table : length d.versions ≡ 512) where
  pub submits-there : (p x e : ℕ) (es : List ℤ) → IsAccepted (step d (record { call = submits p x e es; stores = s })).answer
      → SubmitsDesk p x e es d s (step d (record { call = submits p x e es; stores = s }))
  unfolding other_lengths
  submits-there p x e es ok =
      let l : Lent = record { call = submits p x e es; stores = s } in
      let P = lines-passed d l ok in
      let lines = rules (view_of d) (lengths_of s) (submits p x e es) in
      let Q = d.frame.opening.quarters in
      let n = d.frame.count in
      let S = sound d (not-false (valid_desk d) P.0) in
      let held : length (versions_in d) ≡ n = length-take-le n d.versions (omega (arith, S.count)) in
      let lent = eqb-true (length s.values) d.frame.opening.values (not-false _ (or-left (not (eqb (length s.values) d.frame.opening.values)) _ (past 2 lines P.1))) in
      let room : (n + 1) * Q ≤ d.frame.opening.values = rw held at (ltb-false d.frame.opening.values ((length (versions_in d) + 1) * Q) (or-right (leb 512 (length (versions_in d))) _ (past 16 lines P.1))) in
      let fields = (means-submit p x e Q es).holds (not-false (submit_ok p x e Q es) (past 3 lines P.1)) in
      rw (is-granted d l ok)
      (record {
        made = version_by d p x e;
        of_point = refl;
        numbered = refl;
        row = refl;
        status = submitted-number d.frame.opening.first.0 e;
        put = sets-one empty_version d.versions n (version_by d p x e);
        count = refl;
        values = written s.values Q n es (omega (arith, room, lent)) fields.1.1.1.0;
      })

  pub notices-there : (p x y e : ℕ) → IsAccepted (step d (record { call = notices p x y e; stores = s })).answer
      → NoticesDesk p x y e d (step d (record { call = notices p x y e; stores = s }))
  notices-there p x y e ok =
      let l : Lent = record { call = notices p x y e; stores = s } in
      let P = lines-passed d l ok in
      let c = d.frame.opening.clearing.0 in
      let n = d.frame.count in
      let found = held-within p x n d.versions (held p x (versions_in d)) (held-right p x (versions_in d)) in
      rw (is-granted d l ok)
      (record {
        count = refl;
        positive =
            λ one. (
              confirmed_status c e,
              (
                confirmed-number c e,
                rw one (confirmed c p x e (length (versions_in d)) d.versions (held p x (versions_in d)) (past 25 (rules (view_of d) (lengths_of s) (notices p x y e)) P.1) found (omega (arith, length-take n d.versions))),
              ),
            );
        negative = λ ne. unconfirmed c y e ne (held p x (versions_in d)) d.versions;
      })

  pub issues-there : (r e : ℕ) → IsAccepted (step d (record { call = issues r e; stores = s })).answer → IssuesDesk r d (step d (record { call = issues r e; stores = s }))
  issues-there r e ok =
      let l : Lent = record { call = issues r e; stores = s } in
      let S = sound d (not-false (valid_desk d) (lines-passed d l ok).0) in
      let few : d.frame.count ≤ length d.versions = omega (arith, S.count) in
      rw (is-granted d l ok)
      (record {
        flag = flag-set r d.frame.issued;
        count = refl;
        first = λ one. rw (settled-versions d r few, one) (settles-first (versions_in d));
        second = λ two. rw (settled-versions d r few, two) (settles-second (versions_in d));
        behind = λ j h. map_first-behind (settle r (versions_in d)) d.versions d.frame.count j empty_version few h;
      })

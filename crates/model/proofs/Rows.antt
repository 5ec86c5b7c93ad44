-- The log row of every accepted call, on a running desk in any state and on the plain desk. Assumes nothing.
use Prim.Native.Nat.{ℕ, ◌+◌, ◌*◌, ◌≤◌, ◌<◌}
use mathlib.Core.Path.{◌≡◌, refl, sym, ap, ◌∙◌}
use mathlib.Core.Bool.{Bool, true, false, cond, not, true≢false}
use mathlib.Core.List.{List, [], ◌∷◌, ◌++◌, append-nil}
use native.Mathlib.Omega.{arith}
use borrow.Author.Tests.{leb-true, leb-false, eqb-true, ne_eqb, ltb-false, not-false}
use lib.Dec.{leb, eqb}
use lib.IntN.{ℤ}
use lib.ListN.{length}
use Rattle.std.specs.Prelude.{Option, Some, None}
use Rattle.quantity.specs.Lists.{fold}
use Rattle.quantity.proofs.Tests.{or-right}
use Rattle.book.proofs.Rows.{length-splice, splice-in, splice-before, splice-after}
use Rattle.state.specs.Change.{submitted, noticed}
use Rattle.state.specs.Desk.{versions_in}
use Rattle.state.specs.Selection.{highest}
use Rattle.state.specs.Version.{new_version, held, held_version}
use Rattle.state.specs.declared.Desk.{Desk}
use Rattle.state.specs.declared.Status.TheVariants.{Check}
use Rattle.state.specs.declared.VersionRecord.{VersionRecord}
use Rattle.model.specs.Call.{Call, opens, activates, deactivates, submits, notices, assigns, shows, asks, closes, issues, lodges, reports, all_but_schedules, Stores, Lengths, lengths_of, Lent, Told, telling}
use Rattle.model.specs.Causes.{rules, other_lengths, log_full}
use Rattle.model.specs.Laws.{Passed}
use Rattle.model.specs.Log.{due, add_row, log_words, log_numbers, logged, used_after}
use Rattle.model.specs.Plain.{opening_of, versions_of, log_of, view_in, plain_reply, plain_next, worked_out, after}
use Rattle.model.specs.Replies.{IsAccepted}
use Rattle.model.specs.Rows.{row_by, Gains}
use Rattle.model.specs.Step.{Outcome, version_by, granting, step}
use Rattle.model.specs.View.{View, view_of}
use Rattle.model.specs.declared.LogRow.{LogRow}
use Rattle.model.proofs.Accepting.{lines-passed, is-granted, plain-passed, plain-joined}
use Rattle.model.proofs.Logs.{numbers-snoc}
use Rattle.model.proofs.Rules.{past}
use Rattle.model.proofs.TableDue.{submit-due, submit-taken, submit-undue, check-held, notice-first, notice-second, notice-taken, notice-undue}
use Rattle.model.proofs.TableLaw.{highest-below}

-- the numbers of the row that is due
abbrev numbers_of : Option LogRow → List ℕ
numbers_of None = []
numbers_of (Some r) = log_words r

-- ---- a row, or none, more in the log

gains : (o : Option LogRow) (used : ℕ) (log : List ℕ) → ((i : ℕ) → i < length (numbers_of o) → 4 * used + i < length log) → Gains (numbers_of o) used (used_after o used) log (logged used o log)
gains None used log room = record { within = room; size = refl; earlier = λ i l. refl; there = λ i l. absurd (omega arith); behind = λ i l. refl; counted = omega arith }
gains (Some r) used log room =
    let fits : 4 * used + 4 ≤ length log = omega (arith, room 3 (omega arith)) in
    record {
      within = room;
      size = length-splice log (log_words r) (4 * used) 4 fits refl;
      earlier = λ i l. splice-before log (log_words r) (4 * used) 4 fits refl i 0 l;
      there = λ i l. splice-in log (log_words r) (4 * used) 4 fits refl i 0 l;
      behind = λ i l. splice-after log (log_words r) (4 * used) 4 fits refl i 0 l;
      counted = omega arith;
    }

-- where 17 does not hold there is room for it
room-left : (o : Option LogRow) (used log : ℕ) → log_full used log o ≡ false → (i : ℕ) → i < length (numbers_of o) → 4 * used + i < log
room-left None used log e i l = absurd (omega arith)
room-left (Some r) used log e i l = omega (arith, ltb-false log (4 * (used + 1)) e)

-- ---- which row

module _ (v : View) (n : Lengths) where
  -- a submission's: whatever its row of values
  submit-row : (row p x d : ℕ) (es : List ℤ) → Passed (rules v n (submits p x d es))
      → numbers_of (due v.versions (submitted (new_version v.frame.opening.first.0 row p x d) v.versions) p d) ≡ row_by v.frame.opening.first.0 v.frame.opening.clearing.0 (submits p x d es)
  submit-row row p x d es P = go (leb d f) refl
    where
      f : ℕ
      f = v.frame.opening.first.0

      above : highest p v.versions < x
      above = let l = rules v n (submits p x d es) in highest-below v n p x d es (past 3 l P) (past 14 l P) (past 15 l P)

      go : (t : Bool) → leb d f ≡ t → numbers_of (due v.versions (submitted (new_version f row p x d) v.versions) p d) ≡ cond t (d ∷ p ∷ 1 ∷ x ∷ []) []
      go true e = ap numbers_of (submit-due v.versions f row p x d above e) ∙ rw (submit-taken v.versions f row p x d above e)
      go false e = ap numbers_of (submit-undue v.versions f row p x d above e)

  -- and a notice's
  notice-row : (p x y d : ℕ) → Passed (rules v n (notices p x y d))
      → numbers_of (due v.versions (noticed v.frame.opening.clearing.0 p x y d v.versions) p d) ≡ row_by v.frame.opening.first.0 v.frame.opening.clearing.0 (notices p x y d)
  notice-row p x y d P = go (eqb y 1) refl
    where
      c : ℕ
      c = v.frame.opening.clearing.0

      found : (i : ℕ) × ((r : VersionRecord) × ((held p x v.versions ≡ Some (held_version i r)) × (r.status ≡ Check)))
      found = check-held (held p x v.versions) (past 25 (rules v n (notices p x y d)) P)

      top : highest p v.versions ≤ x
      top = ltb-false x (highest p v.versions) (past 37 (rules v n (notices p x y d)) P)

      by-day : (t : Bool) → leb d c ≡ t → numbers_of (due v.versions (noticed c p x 1 d v.versions) p d) ≡ (d ∷ p ∷ cond t 1 2 ∷ x ∷ [])
      by-day true e =
          ap numbers_of (notice-first v.versions c p x d found.0 found.1.0 found.1.1.0 found.1.1.1 top (leb-true d c e))
          ∙ rw (notice-taken v.versions c p x d found.0 found.1.0 found.1.1.0 found.1.1.1 top 1 (rw e))
      by-day false e =
          ap numbers_of (notice-second v.versions c p x d found.0 found.1.0 found.1.1.0 found.1.1.1 top (leb-false d c e))
          ∙ rw (notice-taken v.versions c p x d found.0 found.1.0 found.1.1.0 found.1.1.1 top 2 (rw e))

      go : (t : Bool) → eqb y 1 ≡ t → numbers_of (due v.versions (noticed c p x y d v.versions) p d) ≡ cond t (d ∷ p ∷ cond (leb d c) 1 2 ∷ x ∷ []) []
      go true e = rw (eqb-true y 1 e) (by-day (leb d c) refl)
      go false e = ap numbers_of (notice-undue v.versions c p x y d e)

-- ---- the running desk, in any state

module _ (d : Desk) (s : Stores) (some : 1 ≤ d.frame.opening.quarters) where
  -- what a call of an open desk makes of the log
  abbrev Logs : Call → Outcome → Type 0
  Logs c o = Gains (row_by d.frame.opening.first.0 d.frame.opening.clearing.0 c) d.frame.used o.desk.frame.used s.log o.stores.log

  no-row : Gains [] d.frame.used d.frame.used s.log s.log
  no-row = gains None d.frame.used s.log (λ i l. absurd (omega arith))

  -- the row that is due is the one that there is room for
  follows : (row : List ℕ) (o free : Option LogRow) → numbers_of o ≡ row → numbers_of free ≡ row → log_full d.frame.used d.frame.opening.log free ≡ false
      → other_lengths all_but_schedules (lengths_of s) d.frame.opening ≡ false → Gains row d.frame.used (used_after o d.frame.used) s.log (logged d.frame.used o s.log)
  unfolding other_lengths
  follows row o free e z full lent =
      let long = eqb-true (length s.log) d.frame.opening.log (not-false _ (or-right (not (eqb (length s.book) d.frame.opening.book)) _ (or-right (not (eqb (length s.values) d.frame.opening.values)) _ lent))) in
      rw e at
      (gains o d.frame.used s.log
      (λ i l. omega (arith, long, room-left free d.frame.used d.frame.opening.log full i (omega (arith, ap length (e ∙ sym z))))))

  granted-gains : (c : Call) → Passed (rules (view_of d) (lengths_of s) c) → Logs c (granting d s c)
  granted-gains (opens q f c k gs) P = absurd (true≢false (sym (rw (ne_eqb d.frame.opening.quarters 0 (λ e. omega arith))) ∙ P.0))
  granted-gains (activates p k a b e) P = no-row
  granted-gains (deactivates p e) P = no-row
  granted-gains (submits p x e es) P =
      let vs = versions_in d in
      let lines = rules (view_of d) (lengths_of s) (submits p x e es) in
      follows _ (due vs (submitted (version_by d p x e) vs) p e) (due vs (submitted (new_version d.frame.opening.first.0 (length vs) p x e) vs) p e)
      (submit-row (view_of d) (lengths_of s) d.frame.count p x e es P) (submit-row (view_of d) (lengths_of s) (length vs) p x e es P) (past 17 lines P) (past 2 lines P)
  granted-gains (notices p x y e) P =
      let vs = versions_in d in
      let lines = rules (view_of d) (lengths_of s) (notices p x y e) in
      let o = due vs (noticed d.frame.opening.clearing.0 p x y e vs) p e in
      let row = notice-row (view_of d) (lengths_of s) p x y e P in
      follows _ o o row row (past 17 lines P) (past 2 lines P)
  granted-gains (assigns a g e) P = no-row
  granted-gains (shows r g) P = no-row
  granted-gains (asks p x) P = no-row
  granted-gains (closes r e) P = no-row
  granted-gains (issues r e) P = no-row
  granted-gains (lodges g e es) P = no-row
  granted-gains (reports r g) P = no-row

  -- every accepted call of an open desk
  pub log-gains : (c : Call) → IsAccepted (step d (record { call = c; stores = s })).answer
      → Gains (row_by d.frame.opening.first.0 d.frame.opening.clearing.0 c) d.frame.used (step d (record { call = c; stores = s })).desk.frame.used
      s.log (step d (record { call = c; stores = s })).stores.log
  log-gains c ok =
      let l : Lent = record { call = c; stores = s } in
      rw (is-granted d l ok) (granted-gains c (lines-passed d l ok).1)

-- ---- the plain desk

row-added : (o : Option LogRow) (l : List LogRow) (row : List ℕ) → numbers_of o ≡ row → log_numbers (add_row o l) ≡ log_numbers l ++ row
row-added None l row e = rw (← e, append-nil)
row-added (Some r) l row e = numbers-snoc l r ∙ rw e

module _ (h : List Told) (m : Lengths) where
  joined-gains : (c : Call) → Passed (rules (view_in h) m c) → log_numbers (log_of (telling m c ∷ h)) ≡ log_numbers (log_of h) ++ row_by (opening_of h).first.0 (opening_of h).clearing.0 c
  unfolding view_in worked_out after fold
  joined-gains (opens q f c k gs) P = row-added None (log_of h) [] refl
  joined-gains (activates p k a b e) P = row-added None (log_of h) [] refl
  joined-gains (deactivates p e) P = row-added None (log_of h) [] refl
  joined-gains (submits p x e es) P =
      row-added (due (versions_of h) (submitted (new_version (opening_of h).first.0 (length (versions_of h)) p x e) (versions_of h)) p e) (log_of h) _ (submit-row (view_in h) m (length (versions_of h)) p x e es P)
  joined-gains (notices p x y e) P = row-added (due (versions_of h) (noticed (opening_of h).clearing.0 p x y e (versions_of h)) p e) (log_of h) _ (notice-row (view_in h) m p x y e P)
  joined-gains (assigns a g e) P = row-added None (log_of h) [] refl
  joined-gains (shows r g) P = row-added None (log_of h) [] refl
  joined-gains (asks p x) P = row-added None (log_of h) [] refl
  joined-gains (closes r e) P = row-added None (log_of h) [] refl
  joined-gains (issues r e) P = row-added None (log_of h) [] refl
  joined-gains (lodges g e es) P = row-added None (log_of h) [] refl
  joined-gains (reports r g) P = row-added None (log_of h) [] refl

  -- every accepted call
  pub plain-gains : (c : Call) → IsAccepted (plain_reply h (telling m c)).answer
      → log_numbers (log_of (plain_next h (telling m c))) ≡ log_numbers (log_of h) ++ row_by (opening_of h).first.0 (opening_of h).clearing.0 c
  plain-gains c ok = rw (plain-joined h (telling m c) ok) (joined-gains c (plain-passed h (telling m c) ok))

-- Notices on the newest version only: what follows from a fresh desk on. Assumes nothing.
use Prim.Native.Nat.{ℕ, ◌+◌, ◌*◌, ◌≤◌, ◌<◌}
use mathlib.Core.Path.{◌≡◌, refl, sym, ap, ◌∙◌, subst}
use mathlib.Core.Bool.{Bool, true, false, and-false, false≢true}
use mathlib.Core.List.{List, [], ◌∷◌, ◌++◌, map, map-append}
use native.Mathlib.Decide.{ℕ_discrete}
use native.Mathlib.Omega.{arith}
use borrow.Author.Tests.{leb-false, lt-leb, le-leb, ltb-false, eq-eqb, eqb-true, not-false}
use lib.Dec.{leb}
use lib.ListN.{length, take, length-append, get_or-append}
use lib.Seq.{get_or-append_seam}
use Rattle.std.specs.Prelude.{Ok, Err, Option, Some}
use Rattle.quantity.specs.Limits.{point_ok, version_ok}
use Rattle.quantity.specs.Lists.{fold}
use Rattle.quantity.proofs.Ranges.{means-version}
use Rattle.quantity.proofs.Tests.{and-left, and-right}
use Rattle.state.specs.Change.{submitted, noticed, settled_by}
use Rattle.state.specs.Desk.{is_open, versions_in}
use Rattle.state.specs.Selection.{highest, best, is_selected, version_of, is_counted, own, with_status, SameVersion, Highest}
use Rattle.state.specs.Status.{counts, confirmed_status}
use Rattle.state.specs.Version.{empty_version, new_version, record_at, is_at, is_version, held, HeldIn, held_version}
use Rattle.state.specs.declared.Selection.{Selection}
use Rattle.state.specs.declared.Selection.TheVariants.{None, Selected}
use Rattle.state.specs.declared.Status.TheVariants.{Check}
use Rattle.state.specs.declared.VersionRecord.{VersionRecord}
use Rattle.state.specs.declared.VersionRow.{VersionRow}
use Rattle.state.proofs.Kept.{notice-negative, notice-other, settle-same}
use Rattle.state.proofs.Picks.{best-highest, held-right, own-highest, own-most}
use Rattle.model.specs.Agreement.{Running, Chained, next, end, fresh}
use Rattle.model.specs.Call.{Call, opens, activates, deactivates, submits, notices, assigns, shows, asks, closes, issues, lodges, reports, Stores, Lengths, Lent, Told, told, telling, Reply}
use Rattle.model.specs.Causes.{rules, notice_ok, refusal, Ruling}
use Rattle.model.specs.Laws.{Passed, Rising, OwnAbove, TakenUp, NoticeCounts}
use Rattle.model.specs.Log.{log_row, due, add_row, log_numbers}
use Rattle.model.specs.Plain.{opening_of, day_of, versions_of, log_of, view_in, answered, joined, plain_reply, plain_next, plain_end, worked_out, after}
use Rattle.model.specs.Step.{step, reply_of}
use Rattle.model.specs.View.{View}
use Rattle.model.specs.declared.Answer.TheVariants.{Accepted}
use Rattle.model.specs.declared.LogRow.{LogRow}
use Rattle.model.proofs.ChangeLaws.{submitted-once}
use Rattle.model.proofs.Corollaries.{reached}
use Rattle.model.proofs.Demands.{chained-front}
use Rattle.model.proofs.Invariant.{opening-open}
use Rattle.model.proofs.Logs.{numbers-snoc}
use Rattle.model.proofs.Main.{agree, one-step}
use Rattle.model.proofs.Onward.{day-grows, before-clearing, Plain, empty, opened, always-kept, end-append}
use Rattle.model.proofs.Rules.{not-refused, passed, past}
use Rattle.model.proofs.Selections.{best-none, own-uncounted, own-unturned, Restated, noticed-restated, settled-restated, restated-length, restated-at}
use Rattle.model.proofs.TableDue.{check-held, notice-taken, notice-first, notice-second}
use Rattle.model.proofs.TableLaw.{highest-below}

-- ---- a point's versions rise

-- no version of a point is above its highest
at-most : (vs : List VersionRecord) (p i : ℕ) → i < length vs → (record_at vs i).point.0 ≡ p → (record_at vs i).version.0 ≤ highest p vs
at-most vs p i l e = go (best (is_at p) vs) (best-highest (is_at p) vs)
  where
    here : is_at p (record_at vs i) ≡ true
    here = eq-eqb (record_at vs i).point.0 p e

    go : (s : Selection) → Highest (is_at p) vs (length vs) s → (record_at vs i).version.0 ≤ version_of s
    go None h = absurd (false≢true (sym (h i l) ∙ here))
    go (Selected r) h = h.most i l here

-- one more above them
rising-submitted : (v : VersionRecord) (vs : List VersionRecord) → highest v.point.0 vs < v.version.0 → Rising vs → Rising (submitted v vs)
rising-submitted v vs up R i j l m e = go (ℕ_discrete j (length vs))
  where
    size : length (submitted v vs) ≡ length vs + 1
    size = length-append vs (v ∷ [])

    earlier : (k : ℕ) → k < length vs → record_at (submitted v vs) k ≡ record_at vs k
    earlier k h = get_or-append vs (v ∷ []) empty_version k h

    new : record_at (submitted v vs) (length vs) ≡ v
    new = get_or-append_seam vs v [] empty_version

    go : Dec (j ≡ length vs) → (record_at (submitted v vs) i).version.0 < (record_at (submitted v vs) j).version.0
    go (yes z) =
        let a = earlier i (omega (arith, z)) in
        let b : record_at (submitted v vs) j ≡ v = ap (record_at (submitted v vs)) z ∙ new in
        let point : (record_at vs i).point.0 ≡ v.point.0 = ap (λ (r : VersionRecord). r.point.0) (sym a) ∙ e ∙ ap (λ (r : VersionRecord). r.point.0) b in
        rw (a, b) (omega (arith, up, at-most vs v.point.0 i (omega (arith, z)) point))
    go (no ne) =
        let a = earlier i (omega (arith, size, ne)) in
        let b = earlier j (omega (arith, size, ne)) in
        let point : (record_at vs i).point.0 ≡ (record_at vs j).point.0 = ap (λ (r : VersionRecord). r.point.0) (sym a) ∙ e ∙ ap (λ (r : VersionRecord). r.point.0) b in
        rw (a, b) (R i j l (omega (arith, size, ne)) point)

-- statuses do not matter
rising-restated : (vs ws : List VersionRecord) → Restated vs ws → Rising vs → Rising ws
rising-restated vs ws s R i j l m e =
    let a = restated-at vs ws s i in
    let b = restated-at vs ws s j in
    let point : (record_at vs i).point.0 ≡ (record_at vs j).point.0 = ap (λ (r : VersionRecord). r.point.0) (sym a) ∙ e ∙ ap (λ (r : VersionRecord). r.point.0) b in
    omega (arith, R i j l (omega (arith, restated-length vs ws s)) point, ap (λ (r : VersionRecord). r.version.0) a, ap (λ (r : VersionRecord). r.version.0) b)

-- two versions of a point have two numbers
rising-apart : (vs : List VersionRecord) → Rising vs → (i j : ℕ) → i < length vs → j < length vs → (record_at vs i).point.0 ≡ (record_at vs j).point.0 → (i ≡ j → ⊥)
    → (record_at vs i).version.0 ≡ (record_at vs j).version.0 → ⊥
rising-apart vs R i j a b e ne z =
    let before : i < j → ⊥ = λ l. omega (arith, R i j l b e, z) in
    let behind : j < i → ⊥ = λ l. omega (arith, R j i l a (sym e), z) in
    omega (arith, ne, before, behind)

-- ---- check data that is its point's highest is above what either run has of its own

own-lower : (vs : List VersionRecord) (p x i : ℕ) (v : VersionRecord) → Rising vs → held p x vs ≡ Some (held_version i v) → v.status ≡ Check → highest p vs ≤ x → 1 ≤ x
    → (run : ℕ) → version_of (own run p vs) < x
own-lower vs p x i v R found check top low run = go (own run p vs) (own-highest run p vs) (own-most run p vs)
  where
    h : HeldIn p x vs (length vs) (Some (held_version i v))
    h = subst (HeldIn p x vs (length vs)) found (held-right p x vs)

    named : is_version p x (record_at vs i) ≡ true
    named = h.found

    point : (record_at vs i).point.0 ≡ p
    point = eqb-true (record_at vs i).point.0 p (and-left (is_at p (record_at vs i)) _ named)

    number : (record_at vs i).version.0 ≡ x
    number = eqb-true (record_at vs i).version.0 x (and-right (is_at p (record_at vs i)) _ named)

    go : (s : Selection) → Highest (is_counted run p) vs (length vs) s → version_of s ≤ highest p vs → version_of s < x
    go None k l = omega (arith, low)
    go (Selected r) k l =
        let there : (record_at vs r.at).version.0 ≡ r.version.0 = ap (λ (z : VersionRow). z.version.0) k.here in
        let at : (record_at vs r.at).point.0 ≡ p = eqb-true (record_at vs r.at).point.0 p (and-left (is_at p (record_at vs r.at)) _ k.passes) in
        let uncounted : is_counted run p (record_at vs i) ≡ false = rw (h.here, check, and-false (is_at p v)) in
        let apart : r.at ≡ i → ⊥ = λ e. false≢true (sym uncounted ∙ subst (λ (j : ℕ). is_counted run p (record_at vs j) ≡ true) e k.passes) in
        omega (arith, l, top, there, number, rising-apart vs R r.at i k.within h.within (at ∙ sym point) apart)

-- ---- an accepted positive notice

module _ (v : View) (n : Lengths) (p x d : ℕ) (R : Rising v.versions) (Q : Passed (rules v n (notices p x 1 d))) where
  abbrev clearing : ℕ
  clearing = v.frame.opening.clearing.0

  -- the version is check data, its point's highest, and no 0
  found : (i : ℕ) × ((r : VersionRecord) × ((held p x v.versions ≡ Some (held_version i r)) × (r.status ≡ Check)))
  found = check-held (held p x v.versions) (past 25 (rules v n (notices p x 1 d)) Q)

  top : highest p v.versions ≤ x
  top = ltb-false x (highest p v.versions) (past 37 (rules v n (notices p x 1 d)) Q)

  low : 1 ≤ x
  low = ((means-version x).holds (and-left (version_ok x) _ (and-right (point_ok p) _ (not-false (notice_ok p x 1 d) (past 3 (rules v n (notices p x 1 d)) Q))))).0

  lower : (run : ℕ) → version_of (own run p v.versions) < x
  lower run = own-lower v.versions p x found.0 found.1.0 R found.1.1.0 found.1.1.1 top low run

  chosen : (run : ℕ) → counts run (confirmed_status clearing d) ≡ true → version_of (own run p (noticed clearing p x 1 d v.versions)) ≡ x
  chosen run e = notice-taken v.versions clearing p x d found.0 found.1.0 found.1.1.0 found.1.1.1 top run e

  -- the row of the run in which it then counts
  logs : (l : List LogRow) (run : ℕ) → counts run (confirmed_status clearing d) ≡ true
      → due v.versions (noticed clearing p x 1 d v.versions) p d ≡ Some (log_row d p run (own run p (noticed clearing p x 1 d v.versions)))
      → TakenUp run p x d v.versions (noticed clearing p x 1 d v.versions) (log_numbers l) (log_numbers (add_row (due v.versions (noticed clearing p x 1 d v.versions) p d) l))
  logs l run e o = record { lower = lower run; chosen = chosen run e; row = ap (λ (z : Option LogRow). log_numbers (add_row z l)) o ∙ numbers-snoc l _ ∙ rw (chosen run e) }

  counts-in : (l : List LogRow)
      → NoticeCounts clearing p x d v.versions (noticed clearing p x 1 d v.versions) (log_numbers l) (log_numbers (add_row (due v.versions (noticed clearing p x 1 d v.versions) p d) l))
  counts-in l =
      record {
        early = λ h. logs l 1 (rw (le-leb d clearing h)) (notice-first v.versions clearing p x d found.0 found.1.0 found.1.1.0 found.1.1.1 top h);
        late = λ h. logs l 2 (rw (lt-leb d clearing h)) (notice-second v.versions clearing p x d found.0 found.1.0 found.1.1.0 found.1.1.1 top h);
      }

-- ---- the accepted calls

-- what they keep: a point's versions rise, run 2 has versions of its own after the clearing deadline alone, and they are above run 1's
record Ordered (h : List Told) : Type 0 where
  rising : Rising (versions_of h)
  late : (p : ℕ) (s : VersionRow) → own 2 p (versions_of h) ≡ Selected s → (opening_of h).clearing.0 < day_of h
  above : OwnAbove (versions_of h)

-- nothing is selected of no versions
none-selected : {A : Type 0} (run p : ℕ) (s : VersionRow) → own run p [] ≡ Selected s → A
none-selected run p s e =
    let none : own run p [] ≡ None = best-none (is_counted run p) [] (λ j l. absurd (omega arith)) in
    absurd (false≢true (ap is_selected (sym none ∙ e)))

-- the same version as one that is selected is selected
same-selected : (a b : Selection) (s : VersionRow) → SameVersion a b → a ≡ Selected s → (t : VersionRow) × ((b ≡ Selected t) × (t.version.0 ≡ s.version.0))
same-selected a None s e z = let told : ◌≡◌ {A = Bool} true false = ap is_selected (ap (with_status Check) (sym z) ∙ e) in absurd (false≢true (sym told))
same-selected a (Selected t) s e z = (t, (refl, ap version_of (sym e ∙ ap (with_status Check) z)))

module _ (h : List Told) (P : Plain h) (S : Ordered h) (n : Lengths) where
  abbrev vs : List VersionRecord
  vs = versions_of h

  -- only a desk that is not open is opened, and it has no versions
  unheld : {A : Type 0} → is_open (opening_of h) ≡ false → (run p : ℕ) (s : VersionRow) → own run p vs ≡ Selected s → A
  unfolding worked_out
  unheld shut run p s e = go P
    where
      go : {A : Type 0} → Plain h → A
      go (empty z) = none-selected run p s (rw z at e)
      go (opened O) = absurd (false≢true (sym shut ∙ opening-open (opening_of h) O.opening))

  -- where run 2 has a version of its own, the desk is open
  first-clearing : (p : ℕ) (s : VersionRow) → own 2 p vs ≡ Selected s → (opening_of h).first.0 < (opening_of h).clearing.0
  unfolding worked_out
  first-clearing p s e = go P
    where
      go : Plain h → (opening_of h).first.0 < (opening_of h).clearing.0
      go (empty z) = none-selected 2 p s (rw z at e)
      go (opened O) = before-clearing (opening_of h) O.opening

  ordered-next : (c : Call) → Passed (rules (view_in h) n c) → Ordered (telling n c ∷ h)
  unfolding view_in worked_out after fold
  ordered-next (opens q f c k gs) Q = record { rising = S.rising; late = λ p s e. unheld Q.0 2 p s e; above = S.above }
  ordered-next (activates p k a b d) Q = record { rising = S.rising; late = λ i s e. omega (arith, S.late i s e, day-grows (view_in h) n (activates p k a b d) Q); above = S.above }
  ordered-next (deactivates p d) Q = record { rising = S.rising; late = λ i s e. omega (arith, S.late i s e, day-grows (view_in h) n (deactivates p d) Q); above = S.above }
  ordered-next (submits p x d es) Q =
      let lines = rules (view_in h) n (submits p x d es) in
      let f = (opening_of h).first.0 in
      let v = new_version f (length vs) p x d in
      let second : (i : ℕ) → own 2 i (submitted v vs) ≡ own 2 i vs = λ i. own-uncounted 2 i f (length vs) p x d vs (submitted-once f d) in
      record {
        rising = rising-submitted v vs (highest-below (view_in h) n p x d es (past 3 lines Q) (past 14 lines Q) (past 15 lines Q)) S.rising;
        late = λ i s e. omega (arith, S.late i s (sym (second i) ∙ e), day-grows (view_in h) n (submits p x d es) Q);
        above =
            λ i r s a b.
            let own2 = sym (second i) ∙ b in
            let past_first : f < d = omega (arith, S.late i s own2, first-clearing i s own2, day-grows (view_in h) n (submits p x d es) Q) in
            S.above i r s (sym (own-uncounted 1 i f (length vs) p x d vs (rw (lt-leb d f past_first))) ∙ a) own2;
      }
  ordered-next (notices p x y d) Q =
      record { rising = rising-restated vs ws (noticed-restated c p x y d vs) S.rising; late = after-clearing; above = λ i r s a b. higher i r s (after-clearing i s b) a b (ℕ_discrete p i) (ℕ_discrete y 1) }
    where
      c : ℕ
      c = (opening_of h).clearing.0

      ws : List VersionRecord
      ws = noticed c p x y d vs

      after-clearing : (i : ℕ) (s : VersionRow) → own 2 i ws ≡ Selected s → c < d
      after-clearing i s e = go (leb d c) refl
        where
          go : (t : Bool) → leb d c ≡ t → c < d
          go true z = omega (arith, S.late i s (sym (own-unturned 2 i c p x y d vs (rw z)) ∙ e), day-grows (view_in h) n (notices p x y d) Q)
          go false z = leb-false d c z

      higher : (i : ℕ) (r s : VersionRow) → c < d → own 1 i ws ≡ Selected r → own 2 i ws ≡ Selected s → Dec (p ≡ i) → Dec (y ≡ 1) → r.version.0 < s.version.0
      higher i r s l a b (no ne) w = S.above i r s (sym (notice-other 1 i c p x y d vs ne) ∙ a) (sym (notice-other 2 i c p x y d vs ne) ∙ b)
      higher i r s l a b (yes e) (no ne) =
          let same = notice-negative c p x y d vs ne in
          S.above i r s (ap (own 1 i) (sym same) ∙ a) (ap (own 2 i) (sym same) ∙ b)
      higher i r s l a b (yes e) (yes one) =
          let Q1 : Passed (rules (view_in h) n (notices p x 1 d)) = subst (λ (z : ℕ). Passed (rules (view_in h) n (notices p x z d))) one Q in
          let first : own 1 i vs ≡ Selected r = sym (own-unturned 1 i c p x y d vs (rw (lt-leb d c l))) ∙ a in
          let second : own 2 p (noticed c p x 1 d vs) ≡ Selected s = rw (one, sym e) at b in
          omega (arith, lower (view_in h) n p x d S.rising Q1 1, ap version_of (rw (sym e) at first), ap version_of (sym second) ∙ chosen (view_in h) n p x d S.rising Q1 2 (rw (lt-leb d c l)))
  ordered-next (assigns a g d) Q = record { rising = S.rising; late = λ i s e. omega (arith, S.late i s e, day-grows (view_in h) n (assigns a g d) Q); above = S.above }
  ordered-next (shows r g) Q = record { rising = S.rising; late = S.late; above = S.above }
  ordered-next (asks p x) Q = record { rising = S.rising; late = S.late; above = S.above }
  ordered-next (lodges g d es) Q = record { rising = S.rising; late = λ i s e. omega (arith, S.late i s e, day-grows (view_in h) n (lodges g d es) Q); above = S.above }
  ordered-next (reports r g) Q = record { rising = S.rising; late = S.late; above = S.above }
  ordered-next (closes r d) Q = record { rising = S.rising; late = λ i s e. omega (arith, S.late i s e, day-grows (view_in h) n (closes r d) Q); above = S.above }
  ordered-next (issues r d) Q =
      let same : (run i : ℕ) → SameVersion (own run i (settled_by r vs)) (own run i vs) = λ run i. settle-same r vs run i in
      record {
        rising = rising-restated vs (settled_by r vs) (settled-restated r vs) S.rising;
        late =
            λ i s e.
            let t = same-selected (own 2 i (settled_by r vs)) (own 2 i vs) s (same 2 i) e in
            omega (arith, S.late i t.0 t.1.0, day-grows (view_in h) n (issues r d) Q);
        above =
            λ i q s a b.
            let t = same-selected (own 1 i (settled_by r vs)) (own 1 i vs) q (same 1 i) a in
            let u = same-selected (own 2 i (settled_by r vs)) (own 2 i vs) s (same 2 i) b in
            omega (arith, S.above i t.0 u.0 t.1.0 u.1.0, t.1.1, u.1.1);
      }

ordered : (l : List Told) → Ordered (plain_end [] l)
unfolding worked_out
ordered =
    always-kept Ordered ordered-next
    (record { rising = λ i j a b. absurd (omega arith); late = λ p s e. none-selected 2 p s e; above = λ p r s a b. none-selected 2 p s b })

-- ---- from a fresh desk on

-- of the plain desk's list
pub plain-rising : (l : List Told) → Rising (versions_of (plain_end [] l))
plain-rising l = (ordered l).rising

pub plain-above : (l : List Told) → OwnAbove (versions_of (plain_end [] l))
plain-above l = (ordered l).above

pub plain-counts : (l : List Told) (n : Lengths) (p x d : ℕ) → refusal (view_in (plain_end [] l)) (telling n (notices p x 1 d)) ≡ Ok tt
    → let h = plain_end [] l in let g = telling n (notices p x 1 d) ∷ h in
    NoticeCounts (opening_of h).clearing.0 p x d (versions_of h) (versions_of g) (log_numbers (log_of h)) (log_numbers (log_of g))
unfolding refusal view_in worked_out after fold
plain-counts l n p x d e =
    let h = plain_end [] l in
    counts-in (view_in h) n p x d (ordered l).rising (passed (rules (view_in h) n (notices p x 1 d)) e) (log_of h)

-- and of the running desk
pub running-rising : (s : Stores) (l : List Lent) → Chained (fresh s) l → Rising (versions_in (end (fresh s) l).desk)
running-rising s l c = subst Rising (sym (agree s l c).versions) (plain-rising (map told l))

pub running-above : (s : Stores) (l : List Lent) → Chained (fresh s) l → OwnAbove (versions_in (end (fresh s) l).desk)
running-above s l c = subst OwnAbove (sym (agree s l c).versions) (plain-above (map told l))

chained-back : (r : Running) (l m : List Lent) → Chained r (l ++ m) → Chained (end r l) m
unfolding Chained end
chained-back r [] m c = c
chained-back r (x ∷ l) m c = chained-back (next r x) l m c.1

-- both desks reply alike to a call behind others
pub last-reply : (s : Stores) (l : List Lent) (m : Lent) → Chained (fresh s) (l ++ (m ∷ [])) → reply_of (step (end (fresh s) l).desk m) ≡ plain_reply (plain_end [] (map told l)) (told m)
unfolding Chained
last-reply s l m c =
    (one-step (end (fresh s) l) (plain_end [] (map told l)) m (reached s l (chained-front (fresh s) l (m ∷ []) c)) (chained-back (fresh s) l (m ∷ []) c).0).0

-- what the plain desk accepts it does not refuse
accepts-fine : (h : List Told) (t : Told) → (plain_reply h t).answer ≡ Accepted → refusal (view_in h) t ≡ Ok tt
unfolding plain_reply answered
accepts-fine h t e = go (refusal (view_in h) t) refl e
  where
    go : (v : Ruling) → refusal (view_in h) t ≡ v → (answered v h t.call).answer ≡ Accepted → refusal (view_in h) t ≡ Ok tt
    go (Ok tt) z e = z
    go (Err x) z e = not-refused x (sym e)

-- an accepted call joins the list
pub accepted-joins : (s : Stores) (l : List Lent) (m : Lent) → Chained (fresh s) (l ++ (m ∷ [])) → (step (end (fresh s) l).desk m).answer ≡ Accepted
    → (refusal (view_in (plain_end [] (map told l))) (told m) ≡ Ok tt) × (plain_end [] (map told (l ++ (m ∷ []))) ≡ told m ∷ plain_end [] (map told l))
unfolding Chained plain_end plain_next joined
accepted-joins s l m c e =
    let h = plain_end [] (map told l) in
    let same = last-reply s l m c in
    let fine = accepts-fine h (told m) (ap (λ (r : Reply). r.answer) (sym same) ∙ e) in
    (fine, ap (plain_end []) (map-append told l (m ∷ [])) ∙ end-append [] (map told l) (told m ∷ []) ∙ rw fine)

pub running-counts : (s st : Stores) (l : List Lent) (p x d : ℕ) → let m : Lent = record { call = notices p x 1 d; stores = st } in
    Chained (fresh s) (l ++ (m ∷ [])) → (step (end (fresh s) l).desk m).answer ≡ Accepted
    → let a = end (fresh s) l in let b = end (fresh s) (l ++ (m ∷ [])) in
    NoticeCounts a.desk.frame.opening.clearing.0 p x d (versions_in a.desk) (versions_in b.desk)
    (take (4 * a.desk.frame.used) a.stores.log) (take (4 * b.desk.frame.used) b.stores.log)
running-counts s st l p x d c e =
    let m : Lent = record { call = notices p x 1 d; stores = st } in
    let J = accepted-joins s l m c e in
    let A = agree s l (chained-front (fresh s) l (m ∷ []) c) in
    let B = agree s (l ++ (m ∷ [])) c in
    rw (A.opening, A.versions, A.log, B.versions, B.log, J.1) (plain-counts (map told l) (told m).lengths p x d J.0)

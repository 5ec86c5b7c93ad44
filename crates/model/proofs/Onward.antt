-- What accepted calls leave, one by one and over every list: past its deadline a run keeps what it has of its own and its delta groups, an issued one
-- its statuses, flags stay, and the day never goes back. Assumes nothing.
use Prim.Native.Nat.{ℕ, ◌≤◌, ◌<◌}
use mathlib.Core.Path.{◌≡◌, refl, sym, ap, ◌∙◌}
use mathlib.Core.Bool.{Bool, true, false, false≢true}
use mathlib.Core.List.{List, [], ◌∷◌, ◌++◌}
use mathlib.Core.Logic.{◌⊎◌, inl, inr}
use native.Mathlib.Decide.{ℕ_discrete}
use native.Mathlib.Omega.{arith}
use borrow.Author.Tests.{ltb-true, ltb-false, leb-false, lt-leb, not-false}
use lib.Dec.{leb, ltb}
use lib.ListN.{length}
use Rattle.std.specs.Prelude.{Ok, Err}
use Rattle.quantity.specs.Limits.{quarters_ok, deadlines_ok}
use Rattle.quantity.specs.Lists.{fold}
use Rattle.quantity.proofs.Tests.{and-left, and-right}
use Rattle.state.specs.Desk.{is_open, unopened, flag_of}
use Rattle.state.specs.Groups.{groups_in}
use Rattle.state.specs.Selection.{is_selected, own, or_else, selected, with_status, SameVersion}
use Rattle.state.specs.Valid.{opening_ok}
use Rattle.state.specs.declared.Opening.{Opening}
use Rattle.state.specs.declared.Selection.{Selection}
use Rattle.state.specs.declared.Selection.TheVariants.{None, Selected}
use Rattle.state.specs.declared.Status.TheVariants.{Check}
use Rattle.state.specs.declared.VersionRow.{VersionRow}
use Rattle.state.proofs.Kept.{settle-apart, settle-same}
use Rattle.model.specs.Agreement.{Running}
use Rattle.model.specs.Call.{Call, opens, activates, deactivates, submits, notices, assigns, shows, asks, closes, issues, lodges, reports, Lengths, Told, telling}
use Rattle.model.specs.Causes.{terms, rules, or_if, first_of, opening_by, opens_ok, deadline, refusal, Ruling}
use Rattle.model.specs.Laws.{Passed}
use Rattle.model.specs.Plain.{Worked, opening_of, day_of, groups_of, versions_of, closed_of, issued_of, view_in, joined, plain_next, plain_end, worked_out, after}
use Rattle.model.specs.View.{View}
use Rattle.model.proofs.Flags.{Run, flag-apart, flag-kept, unflagged}
use Rattle.model.proofs.Fresh.{State, early, holding}
use Rattle.model.proofs.Invariant.{opening-open}
use Rattle.model.proofs.Lends.{opening-stays}
use Rattle.model.proofs.Rules.{passed}
use Rattle.model.proofs.Selections.{own-uncounted, own-unturned}

-- the day never goes back
pub day-grows : (v : View) (n : Lengths) (c : Call) → Passed (rules v n c) → v.frame.day.0 ≤ (terms c).day v.frame.day.0
day-grows v n (opens q f c k gs) P = omega arith
day-grows v n (activates p k a b d) P = ltb-false d v.frame.day.0 P.1.1.0
day-grows v n (deactivates p d) P = ltb-false d v.frame.day.0 P.1.1.0
day-grows v n (submits p x d es) P = ltb-false d v.frame.day.0 P.1.1.1.0
day-grows v n (notices p x y d) P = ltb-false d v.frame.day.0 P.1.1.1.0
day-grows v n (assigns a g d) P = ltb-false d v.frame.day.0 P.1.1.1.0
day-grows v n (shows r g) P = omega arith
day-grows v n (asks p x) P = omega arith
day-grows v n (closes r d) P = ltb-false d v.frame.day.0 P.1.1.0
day-grows v n (issues r d) P = ltb-false d v.frame.day.0 P.1.1.0
day-grows v n (lodges g d es) P = ltb-false d v.frame.day.0 P.1.1.1.0
day-grows v n (reports r g) P = omega arith

-- ---- the accepted calls of an opened plain desk

-- the day lies past the run's deadline
abbrev pub Late : (run : ℕ) → List Told → Type 0
Late run h = deadline (opening_of h) run < day_of h

-- the opening is within its limits, a closed run lies past its deadline, and an issued one is closed
pub record Opened (h : List Told) : Type 0 where
  pub opening : opening_ok (opening_of h) ≡ true
  pub past : (run : ℕ) → Run run → flag_of run (closed_of h) ≡ true → Late run h
  pub shut : (run : ℕ) → Run run → flag_of run (issued_of h) ≡ true → flag_of run (closed_of h) ≡ true

pub data Plain (h : List Told) : Type 0 where
  empty : h ≡ [] → Plain h
  opened : Opened h → Plain h

deadlines-rise : (o : Opening) → opening_ok o ≡ true → (o.first.0 < o.clearing.0) × (o.clearing.0 < o.correction.0)
unfolding opening_ok
deadlines-rise o e =
    let f = o.first.0 in
    let c = o.clearing.0 in
    let k = o.correction.0 in
    let later = and-right (leb 1 f) _ (and-left (deadlines_ok f c k) _ (and-right (quarters_ok o.quarters) _ e)) in
    (ltb-true f c (and-left (ltb f c) _ later), ltb-true c k (and-left (ltb c k) _ (and-right (ltb f c) _ later)))

pub before-clearing : (o : Opening) → opening_ok o ≡ true → o.first.0 < o.clearing.0
before-clearing o e = (deadlines-rise o e).0

first-before : (o : Opening) → opening_ok o ≡ true → (run : ℕ) → Run run → o.first.0 < deadline o run
first-before o e run (inl z) = rw z (deadlines-rise o e).0
first-before o e run (inr z) = rw z (let up = deadlines-rise o e in omega (arith, up.0, up.1))

module _ (h : List Told) (O : Opened h) (n : Lengths) where
  pub is-open : is_open (opening_of h) ≡ true
  is-open = opening-open (opening_of h) O.opening

  -- what a call leaves that is neither a close nor an issue: the flags, and past a run's deadline what it has of its own and its delta groups
  record Leaves (c : Call) : Type 0 where
    day : (after (telling n c) (worked_out h)).day ≡ (terms c).day (day_of h)
    closed : (after (telling n c) (worked_out h)).closed ≡ closed_of h
    issued : (after (telling n c) (worked_out h)).issued ≡ issued_of h
    picks : Passed (rules (view_in h) n c) → (run : ℕ) → Run run → Late run h → (i : ℕ) → own run i (after (telling n c) (worked_out h)).versions ≡ own run i (versions_of h)
    groups : Passed (rules (view_in h) n c) → (run : ℕ) → Run run → Late run h → groups_in run (after (telling n c) (worked_out h)).groups ≡ groups_in run (groups_of h)

  data Act : Call → Type 0 where
    leaves : {c : Call} → Leaves c → Act c
    closing : (r d : ℕ) → Act (closes r d)
    issuing : (r d : ℕ) → Act (issues r d)

  act : (c : Call) → Act c
  unfolding view_in after fold
  act (opens q f c k gs) = leaves (record { day = refl; closed = refl; issued = refl; picks = λ P run R z i. refl; groups = never })
    where
      never : Passed (rules (view_in h) n (opens q f c k gs)) → (run : ℕ) → Run run → Late run h → groups_in run (after (telling n (opens q f c k gs)) (worked_out h)).groups ≡ groups_in run (groups_of h)
      never P run R z = absurd (false≢true (sym P.0 ∙ is-open))
  act (activates p k a b d) = leaves (record { day = refl; closed = refl; issued = refl; picks = λ P run R z i. refl; groups = λ P run R z. refl })
  act (deactivates p d) = leaves (record { day = refl; closed = refl; issued = refl; picks = λ P run R z i. refl; groups = λ P run R z. refl })
  act (submits p x d es) = leaves (record { day = refl; closed = refl; issued = refl; picks = uncounted; groups = λ P run R z. refl })
    where
      uncounted : Passed (rules (view_in h) n (submits p x d es)) → (run : ℕ) → Run run → Late run h → (i : ℕ) → own run i (after (telling n (submits p x d es)) (worked_out h)).versions ≡ own run i (versions_of h)
      uncounted P run R z i =
          let f = (opening_of h).first.0 in
          let late : f < d = omega (arith, z, first-before (opening_of h) O.opening run R, day-grows (view_in h) n (submits p x d es) P) in
          own-uncounted run i f (length (versions_of h)) p x d (versions_of h) (rw (lt-leb d f late))
  act (notices p x y d) = leaves (record { day = refl; closed = refl; issued = refl; picks = unturned; groups = λ P run R z. refl })
    where
      unturned : Passed (rules (view_in h) n (notices p x y d)) → (run : ℕ) → Run run → Late run h → (i : ℕ) → own run i (after (telling n (notices p x y d)) (worked_out h)).versions ≡ own run i (versions_of h)
      unturned P run (inl e) z i =
          let c = (opening_of h).clearing.0 in
          let past : c < day_of h = rw e at z in
          own-unturned run i c p x y d (versions_of h) (rw (lt-leb d c (omega (arith, past, day-grows (view_in h) n (notices p x y d) P)), e))
      unturned P run (inr e) z i =
          let past : (opening_of h).correction.0 < day_of h = rw e at z in
          absurd (omega (arith, past, day-grows (view_in h) n (notices p x y d) P, ltb-false (opening_of h).correction.0 d P.1.1.1.1.0))
  act (assigns a g d) = leaves (record { day = refl; closed = refl; issued = refl; picks = λ P run R z i. refl; groups = kept })
    where
      kept : Passed (rules (view_in h) n (assigns a g d)) → (run : ℕ) → Run run → Late run h → groups_in run (after (telling n (assigns a g d)) (worked_out h)).groups ≡ groups_in run (groups_of h)
      kept P run (inl e) z =
          let c = (opening_of h).clearing.0 in
          let past : c < day_of h = rw e at z in
          rw (e, lt-leb d c (omega (arith, past, day-grows (view_in h) n (assigns a g d) P)))
      kept P run (inr e) z =
          let past : (opening_of h).correction.0 < day_of h = rw e at z in
          absurd (omega (arith, past, day-grows (view_in h) n (assigns a g d) P, ltb-false (opening_of h).correction.0 d P.1.1.1.1.0))
  act (shows r g) = leaves (record { day = refl; closed = refl; issued = refl; picks = λ P run R z i. refl; groups = λ P run R z. refl })
  act (asks p x) = leaves (record { day = refl; closed = refl; issued = refl; picks = λ P run R z i. refl; groups = λ P run R z. refl })
  act (closes r d) = closing r d
  act (issues r d) = issuing r d
  act (lodges g d es) = leaves (record { day = refl; closed = refl; issued = refl; picks = λ P run R z i. refl; groups = λ P run R z. refl })
  act (reports r g) = leaves (record { day = refl; closed = refl; issued = refl; picks = λ P run R z i. refl; groups = λ P run R z. refl })

  -- a run that a call closes, or that is closed before it, lies past its deadline
  past-after : (run : ℕ) → Run run → {c : Call} → Act c → Passed (rules (view_in h) n c) → flag_of run (after (telling n c) (worked_out h)).closed ≡ true
      → deadline (opening_of h) run < (after (telling n c) (worked_out h)).day
  unfolding view_in after fold
  past-after run R {c = c} (leaves L) P e = omega (arith, O.past run R (ap (flag_of run) (sym L.closed) ∙ e), day-grows (view_in h) n c P, L.day)
  past-after run R (closing r d) P e = go (ℕ_discrete run r)
    where
      go : Dec (run ≡ r) → deadline (opening_of h) run < d
      go (yes z) = leb-false d (deadline (opening_of h) run) (ap (λ (k : ℕ). leb d (deadline (opening_of h) k)) z ∙ P.1.1.1.0)
      go (no ne) = omega (arith, O.past run R (sym (flag-apart run r (closed_of h) R ne) ∙ e), day-grows (view_in h) n (closes r d) P)
  past-after run R (issuing r d) P e = omega (arith, O.past run R e, day-grows (view_in h) n (issues r d) P)

  -- and one that is issued is closed
  shut-after : (run : ℕ) → Run run → {c : Call} → Act c → Passed (rules (view_in h) n c) → flag_of run (after (telling n c) (worked_out h)).issued ≡ true
      → flag_of run (after (telling n c) (worked_out h)).closed ≡ true
  unfolding view_in after fold
  shut-after run R (leaves L) P e = ap (flag_of run) L.closed ∙ O.shut run R (ap (flag_of run) (sym L.issued) ∙ e)
  shut-after run R (closing r d) P e = flag-kept run r (closed_of h) R (O.shut run R e)
  shut-after run R (issuing r d) P e = go (ℕ_discrete run r)
    where
      go : Dec (run ≡ r) → flag_of run (closed_of h) ≡ true
      go (yes z) = ap (λ (k : ℕ). flag_of k (closed_of h)) z ∙ not-false (flag_of r (closed_of h)) P.1.1.1.0
      go (no ne) = O.shut run R (sym (flag-apart run r (issued_of h) R ne) ∙ e)

  -- a flag that is set stays
  closed-after : (run : ℕ) → Run run → {c : Call} → Act c → flag_of run (closed_of h) ≡ true → flag_of run (after (telling n c) (worked_out h)).closed ≡ true
  unfolding after fold
  closed-after run R (leaves L) e = ap (flag_of run) L.closed ∙ e
  closed-after run R (closing r d) e = flag-kept run r (closed_of h) R e
  closed-after run R (issuing r d) e = e

  issued-after : (run : ℕ) → Run run → {c : Call} → Act c → flag_of run (issued_of h) ≡ true → flag_of run (after (telling n c) (worked_out h)).issued ≡ true
  unfolding after fold
  issued-after run R (leaves L) e = ap (flag_of run) L.issued ∙ e
  issued-after run R (closing r d) e = e
  issued-after run R (issuing r d) e = flag-kept run r (issued_of h) R e

  -- past its deadline a run's own stay, but for the status that its one issue gives
  own-after : (run : ℕ) → Run run → {c : Call} → Act c → Passed (rules (view_in h) n c) → Late run h → (i : ℕ)
      → (own run i (after (telling n c) (worked_out h)).versions ≡ own run i (versions_of h))
      ⊎ (SameVersion (own run i (after (telling n c) (worked_out h)).versions) (own run i (versions_of h)) × (flag_of run (issued_of h) ≡ false))
  unfolding view_in after fold
  own-after run R (leaves L) P z i = inl (L.picks P run R z i)
  own-after run R (closing r d) P z i = inl refl
  own-after run R (issuing r d) P z i = go (ℕ_discrete run r)
    where
      go : Dec (run ≡ r) → (own run i (after (telling n (issues r d)) (worked_out h)).versions ≡ own run i (versions_of h))
          ⊎ (SameVersion (own run i (after (telling n (issues r d)) (worked_out h)).versions) (own run i (versions_of h)) × (flag_of run (issued_of h) ≡ false))
      go (yes e) = inr (settle-same r (versions_of h) run i, ap (λ (k : ℕ). flag_of k (issued_of h)) e ∙ P.1.1.1.1.0)
      go (no ne) = inl (settle-apart r (versions_of h) run i ne)

  -- so where it is issued nothing of them changes
  pub issued-stays-after : (run : ℕ) → Run run → (c : Call) → Passed (rules (view_in h) n c) → flag_of run (issued_of h) ≡ true → (i : ℕ)
      → own run i (after (telling n c) (worked_out h)).versions ≡ own run i (versions_of h)
  issued-stays-after run R c P e i = go (own-after run R (act c) P (O.past run R (O.shut run R e)) i)
    where
      go : {A B : Type 0} → A ⊎ (B × (flag_of run (issued_of h) ≡ false)) → A
      go (inl a) = a
      go (inr b) = absurd (false≢true (sym b.1 ∙ e))

  same-after : (run : ℕ) → Run run → (c : Call) → Passed (rules (view_in h) n c) → Late run h → (i : ℕ) → SameVersion (own run i (after (telling n c) (worked_out h)).versions) (own run i (versions_of h))
  same-after run R c P z i = go (own-after run R (act c) P z i)
    where
      go : {B : Type 0} → (own run i (after (telling n c) (worked_out h)).versions ≡ own run i (versions_of h)) ⊎ (SameVersion (own run i (after (telling n c) (worked_out h)).versions) (own run i (versions_of h)) × B) → SameVersion (own run i (after (telling n c) (worked_out h)).versions) (own run i (versions_of h))
      go (inl a) = ap (with_status Check) a
      go (inr b) = b.0

  groups-after : (run : ℕ) → Run run → {c : Call} → Act c → Passed (rules (view_in h) n c) → Late run h → groups_in run (after (telling n c) (worked_out h)).groups ≡ groups_in run (groups_of h)
  unfolding after fold
  groups-after run R (leaves L) P z = L.groups P run R z
  groups-after run R (closing r d) P z = refl
  groups-after run R (issuing r d) P z = refl

  later-after : {c : Call} → Act c → Passed (rules (view_in h) n c) → (run : ℕ) → Late run h → deadline (opening_of h) run < (after (telling n c) (worked_out h)).day
  unfolding view_in after fold
  later-after {c = c} (leaves L) P run z = omega (arith, z, day-grows (view_in h) n c P, L.day)
  later-after (closing r d) P run z = omega (arith, z, day-grows (view_in h) n (closes r d) P)
  later-after (issuing r d) P run z = omega (arith, z, day-grows (view_in h) n (issues r d) P)

-- what is to be shown of one call, and of any list of them
pub record Onward (h g : List Told) : Type 0 where
  pub plain : Plain g
  pub opening : is_open (opening_of h) ≡ true → opening_of g ≡ opening_of h
  pub late : (run : ℕ) → Run run → Late run h → Late run g
  pub closed : (run : ℕ) → Run run → flag_of run (closed_of h) ≡ true → flag_of run (closed_of g) ≡ true
  pub issued : (run : ℕ) → Run run → flag_of run (issued_of h) ≡ true → flag_of run (issued_of g) ≡ true
  pub picks : (run : ℕ) → Run run → Late run h → (i : ℕ) → SameVersion (own run i (versions_of g)) (own run i (versions_of h))
  pub stays : (run : ℕ) → Run run → flag_of run (issued_of h) ≡ true → (i : ℕ) → own run i (versions_of g) ≡ own run i (versions_of h)
  pub groups : (run : ℕ) → Run run → Late run h → groups_in run (groups_of g) ≡ groups_in run (groups_of h)

nothing-on : (h : List Told) → Plain h → Onward h h
nothing-on h P = record { plain = P; opening = λ o. refl; late = λ run R z. z; closed = λ run R e. e; issued = λ run R e. e; picks = λ run R z i. refl; stays = λ run R e i. refl; groups = λ run R z. refl }

opened-on : (h : List Told) (n : Lengths) (c : Call) → Opened h → Onward h (plain_next h (telling n c))
unfolding plain_next joined refusal worked_out
opened-on h n c O = go (refusal (view_in h) (telling n c)) refl (opening-stays h n c (is-open h O n))
  where
    go : (v : Ruling) → refusal (view_in h) (telling n c) ≡ v → opening_of (joined (refusal (view_in h) (telling n c)) h (telling n c)) ≡ opening_of h → Onward h (joined v h (telling n c))
    go (Err x) e o = nothing-on h (opened O)
    go (Ok tt) e o =
        let P = passed (rules (view_in h) n c) e in
        let A = act h O n c in
        let same : opening_of (telling n c ∷ h) ≡ opening_of h = rw e at o in
        record {
          plain = opened (record { opening = ap opening_ok same ∙ O.opening; past = λ run R z. rw same (past-after h O n run R A P z); shut = λ run R z. shut-after h O n run R A P z });
          opening = λ _. same;
          late = λ run R z. rw same (later-after h O n A P run z);
          closed = λ run R z. closed-after h O n run R A z;
          issued = λ run R z. issued-after h O n run R A z;
          picks = λ run R z i. same-after h O n run R c P z i;
          stays = λ run R z i. issued-stays-after h O n run R c P z i;
          groups = λ run R z. groups-after h O n run R A P z;
        }

pub early-day : (run : ℕ) → deadline unopened run < 0 → ⊥
early-day run z = omega arith

-- from nothing, only an opening is accepted
first-plain : (n : Lengths) (c : Call) → Plain (plain_next [] (telling n c))
unfolding plain_next joined refusal first_of fold or_if view_in worked_out after opens_ok
first-plain n (opens q f c k gs) = go (opens_ok (opening_by q f c k n) gs) refl
  where
    go : (t : Bool) → opens_ok (opening_by q f c k n) gs ≡ t → Plain (plain_next [] (telling n (opens q f c k gs)))
    go true e =
        rw e
        (opened
        (record {
          opening = and-left (opening_ok (opening_by q f c k n)) _ e;
          past = λ run R z. absurd (unflagged run z);
          shut = λ run R z. absurd (unflagged run z);
        }))
    go false e = rw e (empty refl)
first-plain n (activates p k a b d) = empty refl
first-plain n (deactivates p d) = empty refl
first-plain n (submits p x d es) = empty refl
first-plain n (notices p x y d) = empty refl
first-plain n (assigns a g d) = empty refl
first-plain n (shows r g) = empty refl
first-plain n (asks p x) = empty refl
first-plain n (closes r d) = empty refl
first-plain n (issues r d) = empty refl
first-plain n (lodges g d es) = empty refl
first-plain n (reports r g) = empty refl

-- and nothing is late, closed or issued
empty-on : (g : List Told) → Plain g → Onward [] g
unfolding worked_out
empty-on g P =
    record {
      plain = P;
      opening = λ o. absurd (false≢true o);
      late = λ run R z. absurd (early-day run z);
      closed = λ run R z. absurd (unflagged run z);
      issued = λ run R z. absurd (unflagged run z);
      picks = λ run R z i. absurd (early-day run z);
      stays = λ run R z i. absurd (unflagged run z);
      groups = λ run R z. absurd (early-day run z);
    }

pub onward : (h : List Told) (t : Told) → Plain h → Onward h (plain_next h t)
onward h t (empty e) = rw e (empty-on (plain_next [] t) (first-plain t.lengths t.call))
onward h t (opened O) = opened-on h t.lengths t.call O

-- what every accepted call keeps holds after every list: a refused one changes nothing
module _ (I : List Told → Type 0) (keeps : (h : List Told) → Plain h → I h → (n : Lengths) (c : Call) → Passed (rules (view_in h) n c) → I (telling n c ∷ h)) where
  kept-on : (h : List Told) (t : Told) → Plain h → I h → I (plain_next h t)
  unfolding plain_next joined refusal
  kept-on h t P S = go (refusal (view_in h) t) refl
    where
      go : (v : Ruling) → refusal (view_in h) t ≡ v → I (joined v h t)
      go (Ok tt) e = keeps h P S t.lengths t.call (passed (rules (view_in h) t.lengths t.call) e)
      go (Err x) e = S

  kept-end : (h m : List Told) → Plain h → I h → I (plain_end h m)
  unfolding plain_end
  kept-end h [] P S = S
  kept-end h (t ∷ m) P S = kept-end (plain_next h t) m (onward h t P).plain (kept-on h t P S)

  pub always-kept : I [] → (l : List Told) → I (plain_end [] l)
  always-kept S l = kept-end [] l (empty refl) S

-- every list
pub on-end : (h : List Told) (m : List Told) → Plain h → Onward h (plain_end h m)
unfolding plain_end
on-end h [] P = nothing-on h P
on-end h (t ∷ m) P =
    let O = onward h t P in
    let E = on-end (plain_next h t) m O.plain in
    record {
      plain = E.plain;
      opening = λ o. E.opening (ap is_open (O.opening o) ∙ o) ∙ O.opening o;
      late = λ run R z. E.late run R (O.late run R z);
      closed = λ run R z. E.closed run R (O.closed run R z);
      issued = λ run R z. E.issued run R (O.issued run R z);
      picks = λ run R z i. E.picks run R (O.late run R z) i ∙ O.picks run R z i;
      stays = λ run R z i. E.stays run R (O.issued run R z) i ∙ O.stays run R z i;
      groups = λ run R z. E.groups run R (O.late run R z) ∙ O.groups run R z;
    }

pub end-append : (h l m : List Told) → plain_end h (l ++ m) ≡ plain_end (plain_end h l) m
unfolding plain_end
end-append h [] m = refl
end-append h (t ∷ l) m = end-append (plain_next h t) l m

-- ---- from a fresh desk on

-- past the correction deadline the clearing deadline is past too
both-late : (h : List Told) → Plain h → Late 2 h → Late 1 h
unfolding worked_out
both-late h (empty z) e = absurd (early-day 2 (rw z at e))
both-late h (opened O) e = omega (arith, e, (deadlines-rise (opening_of h) O.opening).1)

not-same : {A : Type 0} (s : VersionRow) → SameVersion None (Selected s) → A
not-same s e = let told : ◌≡◌ {A = Bool} false true = ap is_selected e in absurd (false≢true told)

or-same : (a b c d : Selection) → SameVersion a b → SameVersion c d → SameVersion (or_else a c) (or_else b d)
or-same None None c d e z = z
or-same None (Selected s) c d e z = not-same s e
or-same (Selected r) None c d e z = not-same r (sym e)
or-same (Selected r) (Selected s) c d e z = e

-- past its deadline a run goes on selecting the same versions
pub selects-on : (h g : List Told) → Plain h → Onward h g → (run : ℕ) → Run run → Late run h → (p : ℕ) → SameVersion (selected run p (versions_of g)) (selected run p (versions_of h))
selects-on h g P O run (inl e) z p = let late : Late 1 h = rw e at z in rw e (O.picks 1 (inl refl) late p)
selects-on h g P O run (inr e) z p =
    let late : Late 2 h = rw e at z in
    rw e
    (or-same (own 2 p (versions_of g)) (own 2 p (versions_of h)) (own 1 p (versions_of g)) (own 1 p (versions_of h)) (O.picks 2 (inr refl) late p)
    (O.picks 1 (inl refl) (both-late h P late) p))

module _ (l m : List Told) where
  abbrev h : List Told
  h = plain_end [] l

  abbrev g : List Told
  g = plain_end [] (l ++ m)

  pub start : Plain h
  start = (on-end [] l (empty refl)).plain

  -- on the plain desk, whatever follows
  pub follows : Onward h g
  follows = rw (end-append [] l m) (on-end h m start)

-- the running desk has the same day and flags
pub record SameFlags (r : Running) (h : List Told) : Type 0 where
  pub day : r.desk.frame.day.0 ≡ day_of h
  pub closed : r.desk.frame.closed ≡ closed_of h
  pub issued : r.desk.frame.issued ≡ issued_of h

pub same-flags : (r : Running) (h : List Told) → State r h → SameFlags r h
unfolding worked_out
same-flags r h (early a b) = rw (a, b) (record { day = refl; closed = refl; issued = refl })
same-flags r h (holding H) = record { day = ap (λ (w : Worked). w.day) H.works; closed = ap (λ (w : Worked). w.closed) H.works; issued = ap (λ (w : Worked). w.issued) H.works }

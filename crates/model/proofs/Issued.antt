-- Close and issue: how they stand to the deadlines; an issue restates what was selected at the close, its statuses stay, and no run is issued twice.
-- Assumes nothing.
use Prim.Native.Nat.{ℕ, ◌≤◌}
use mathlib.Core.Path.{◌≡◌, refl, sym, ap, ◌∙◌}
use mathlib.Core.Bool.{Bool, true, false, not, ◌&&◌, false≢true}
use mathlib.Core.List.{List, [], ◌∷◌, ◌++◌, map, map-append}
use mathlib.Core.Logic.{inl, inr}
use borrow.Author.Tests.{le-leb, le-ltb}
use Rattle.std.specs.Prelude.{Ok, Err}
use Rattle.quantity.specs.Limits.{run_ok, day_ok}
use Rattle.quantity.specs.Lists.{fold}
use Rattle.state.specs.Desk.{versions_in, flag_of}
use Rattle.state.specs.Selection.{is_selected, own, version_of, with_status, SameVersion}
use Rattle.state.specs.Settling.{Settles}
use Rattle.state.specs.Status.{status_number}
use Rattle.state.specs.Version.{record_at}
use Rattle.state.specs.declared.PerRun.{PerRun}
use Rattle.state.specs.declared.Selection.{Selection}
use Rattle.state.specs.declared.Selection.TheVariants.{None, Selected}
use Rattle.state.specs.declared.Status.TheVariants.{Check}
use Rattle.state.specs.declared.VersionRecord.{VersionRecord}
use Rattle.state.specs.declared.VersionRow.{VersionRow}
use Rattle.state.proofs.Settled.{settles-first, settles-second}
use Rattle.model.specs.Agreement.{Chained, end, fresh}
use Rattle.model.specs.Call.{issues, Stores, Lengths, Lent, Told, told, telling, cause_number, Reply}
use Rattle.model.specs.Causes.{rules, refusal, Ruling}
use Rattle.model.specs.Laws.{Decides, here, below, ActsInOrder, IssuesClosed, IssuedAgain}
use Rattle.model.specs.Plain.{opening_of, day_of, versions_of, closed_of, issued_of, view_in, answered, plain_reply, plain_end, worked_out, after}
use Rattle.model.specs.Step.{step}
use Rattle.model.specs.Table.{Set}
use Rattle.model.specs.declared.Answer.TheVariants.{Accepted}
use Rattle.model.specs.declared.Cause.TheVariants.{AlreadyIssued}
use Rattle.model.proofs.Closed.{unclosed, unissued, closed-own}
use Rattle.model.proofs.Corollaries.{reached}
use Rattle.model.proofs.Demands.{chained-front}
use Rattle.model.proofs.Flags.{Run}
use Rattle.model.proofs.Main.{agree}
use Rattle.model.proofs.Newest.{last-reply, accepted-joins}
use Rattle.model.proofs.Onward.{Opened, Plain, empty, opened, is-open, on-end, follows, same-flags}
use Rattle.model.proofs.Rules.{passed, decides-first}

-- ---- the acts and the deadlines

-- of the plain desk's list
pub acts-plain : (l : List Told) → let h = plain_end [] l in ActsInOrder (opening_of h).clearing.0 (opening_of h).correction.0 (day_of h) (closed_of h) (issued_of h)
acts-plain l = go (on-end [] l (empty refl)).plain
  where
    h : List Told
    h = plain_end [] l

    go : Plain h → ActsInOrder (opening_of h).clearing.0 (opening_of h).correction.0 (day_of h) (closed_of h) (issued_of h)
    go (empty z) =
        record {
          first = λ e. absurd (unclosed 1 z e);
          second = λ e. absurd (unclosed 2 z e);
          first_issued = λ e. absurd (unissued 1 z e);
          second_issued = λ e. absurd (unissued 2 z e);
        }
    go (opened O) = record { first = O.past 1 (inl refl); second = O.past 2 (inr refl); first_issued = O.shut 1 (inl refl); second_issued = O.shut 2 (inr refl) }

-- and of the running desk
pub acts-running : (s : Stores) (l : List Lent) → Chained (fresh s) l
    → let f = (end (fresh s) l).desk.frame in ActsInOrder f.opening.clearing.0 f.opening.correction.0 f.day.0 f.closed f.issued
acts-running s l c =
    let F = same-flags (end (fresh s) l) (plain_end [] (map told l)) (reached s l c) in
    rw ((agree s l c).opening, F.day, F.closed, F.issued) (acts-plain (map told l))

-- ---- what is restated

-- the same version as one that is selected is selected, in the same row of the table
same-row : (a b : Selection) (r : VersionRow) → SameVersion a b → b ≡ Selected r → (t : VersionRow) × ((a ≡ Selected t) × (t.at ≡ r.at))
same-row None b r e z = let told : ◌≡◌ {A = Bool} false true = ap is_selected (e ∙ ap (with_status Check) z) in absurd (false≢true told)
same-row (Selected t) b r e z = (t, (refl, ap at-of (e ∙ ap (with_status Check) z)))
  where
    at-of : Selection → ℕ
    at-of None = 0
    at-of (Selected q) = q.at

same-number : (a b : Selection) → SameVersion a b → version_of a ≡ version_of b
same-number a b e = sym (bare a) ∙ ap version_of e ∙ bare b
  where
    bare : (s : Selection) → version_of (with_status Check s) ≡ version_of s
    bare None = refl
    bare (Selected r) = refl

as-closed : (run status settled : ℕ) (closed vs ws : List VersionRecord) → ((p : ℕ) → SameVersion (own run p vs) (own run p closed)) → Settles run status settled vs ws → IssuesClosed run settled closed vs ws
as-closed run status settled closed vs ws same S =
    record {
      picked = λ p r e. let t = same-row (own run p vs) (own run p closed) r (same p) e in ap (λ (i : ℕ). status_number (record_at ws i).status) (sym t.1.1) ∙ S.picked p t.0 t.1.0;
      lower = λ i ne. S.lower i (λ z. ne (z ∙ same-number (own run (record_at vs i).point.0 vs) (own run (record_at vs i).point.0 closed) (same (record_at vs i).point.0)));
      same = S.same;
    }

-- of the plain desk's list: closed after the first calls, issued after all
module _ (l m : List Told) (n : Lengths) (d : ℕ) where
  abbrev h : List Told
  h = plain_end [] l

  abbrev g : List Told
  g = plain_end [] (l ++ m)

  pub first-plain : (closed_of h).first ≡ true → IssuesClosed 1 3 (versions_of h) (versions_of g) (versions_of (telling n (issues 1 d) ∷ g))
  unfolding worked_out after fold
  first-plain e = as-closed 1 2 3 (versions_of h) (versions_of g) _ (closed-own l m 1 (inl refl) e) (settles-first (versions_of g))

  pub second-plain : (closed_of h).second ≡ true → IssuesClosed 2 5 (versions_of h) (versions_of g) (versions_of (telling n (issues 2 d) ∷ g))
  unfolding worked_out after fold
  second-plain e = as-closed 2 4 5 (versions_of h) (versions_of g) _ (closed-own l m 2 (inr refl) e) (settles-second (versions_of g))

-- and of the running desk: an accepted issue behind the calls
module _ (s st : Stores) (l m : List Lent) (d : ℕ) where
  abbrev issue : (run : ℕ) → Lent
  issue run = record { call = issues run d; stores = st }

  -- the versions at the close, before the issue and after it
  abbrev pub Restated : (run settled : ℕ) → Type 0
  Restated run settled = IssuesClosed run settled (versions_in (end (fresh s) l).desk) (versions_in (end (fresh s) (l ++ m)).desk) (versions_in (end (fresh s) ((l ++ m) ++ (issue run ∷ []))).desk)

  flags : (run : ℕ) → Chained (fresh s) ((l ++ m) ++ (issue run ∷ [])) → (end (fresh s) l).desk.frame.closed ≡ closed_of (plain_end [] (map told l))
  flags run c = (same-flags (end (fresh s) l) (plain_end [] (map told l)) (reached s l (chained-front (fresh s) l m (chained-front (fresh s) (l ++ m) (issue run ∷ []) c)))).closed

  running : (run settled : ℕ) → Chained (fresh s) ((l ++ m) ++ (issue run ∷ [])) → (step (end (fresh s) (l ++ m)).desk (issue run)).answer ≡ Accepted
      → (let h = plain_end [] (map told l) in let g = plain_end [] (map told l ++ map told m) in IssuesClosed run settled (versions_of h) (versions_of g) (versions_of (told (issue run) ∷ g))) → Restated run settled
  running run settled c e P =
      let front = chained-front (fresh s) (l ++ m) (issue run ∷ []) c in
      rw ((agree s l (chained-front (fresh s) l m front)).versions, (agree s (l ++ m) front).versions, (agree s ((l ++ m) ++ (issue run ∷ [])) c).versions, (accepted-joins s (l ++ m) (issue run) c e).1, map-append told l m) P

  -- run 1: exactly what it selected when it was closed gets 3
  pub first-issued : Chained (fresh s) ((l ++ m) ++ (issue 1 ∷ [])) → (step (end (fresh s) (l ++ m)).desk (issue 1)).answer ≡ Accepted → (end (fresh s) l).desk.frame.closed.first ≡ true → Restated 1 3
  first-issued c e f = running 1 3 c e (first-plain (map told l) (map told m) (told (issue 1)).lengths d (ap (λ (r : PerRun Bool). r.first) (sym (flags 1 c)) ∙ f))

  -- run 2: exactly its own get 5
  pub second-issued : Chained (fresh s) ((l ++ m) ++ (issue 2 ∷ [])) → (step (end (fresh s) (l ++ m)).desk (issue 2)).answer ≡ Accepted → (end (fresh s) l).desk.frame.closed.second ≡ true → Restated 2 5
  second-issued c e f = running 2 5 c e (second-plain (map told l) (map told m) (told (issue 2)).lengths d (ap (λ (r : PerRun Bool). r.second) (sym (flags 2 c)) ∙ f))

-- ---- "39, issue of a run already issued"

-- the flag of a run in the table's words
set-flag : (run : ℕ) (f : PerRun Bool) → Set run f → Run run × (flag_of run f ≡ true)
set-flag run f (inl p) = (inl p.0, rw p.0 p.1)
set-flag run f (inr p) = (inr p.0, rw p.0 p.1)

run-ok : (run : ℕ) → Run run → run_ok run ≡ true
run-ok run (inl e) = rw e refl
run-ok run (inr e) = rw e refl

-- of the plain desk's list
pub again-plain : (l m : List Told) (n : Lengths) (run d : ℕ) → Set run (issued_of (plain_end [] l)) → let g = plain_end [] (l ++ m) in IssuedAgain (day_of g) d (plain_reply g (telling n (issues run d))).answer
unfolding plain_reply answered refusal view_in
again-plain l m n run d f = go (follows l m).plain (refusal (view_in g) (telling n (issues run d))) refl
  where
    g : List Told
    g = plain_end [] (l ++ m)

    R : Run run
    R = (set-flag run (issued_of (plain_end [] l)) f).0

    issued : flag_of run (issued_of g) ≡ true
    issued = (follows l m).issued run R (set-flag run (issued_of (plain_end [] l)) f).1

    decides : Opened g → day_of g ≤ d → d ≤ 400 → Decides AlreadyIssued (rules (view_in g) n (issues run d))
    decides O a b =
        let fields : not (run_ok run && day_ok d) ≡ false = rw (run-ok run R, le-leb d 400 b) in
        below (ap not (is-open g O n))
        (below fields
        (below (le-ltb d (day_of g) a)
        (below (ap not (O.shut run R issued))
        (here issued refl))))

    go : Plain g → (v : Ruling) → refusal (view_in g) (telling n (issues run d)) ≡ v → IssuedAgain (day_of g) d (answered v g (issues run d)).answer
    go P (Ok tt) e = absurd (false≢true (sym (passed (rules (view_in g) n (issues run d)) e).1.1.1.1.0 ∙ issued))
    go (empty z) (Err x) e = absurd (unissued run z issued)
    go (opened O) (Err x) e =
        record {
          cause = x;
          refused = refl;
          number = λ a b. let same : Err x ≡ Err AlreadyIssued = sym e ∙ decides-first (rules (view_in g) n (issues run d)) AlreadyIssued (decides O a b) in let k : x ≡ AlreadyIssued = cc in ap cause_number k;
        }

-- and of the running desk
pub issued-again : (s st : Stores) (l m : List Lent) (run d : ℕ) → let x : Lent = record { call = issues run d; stores = st } in
    Chained (fresh s) ((l ++ m) ++ (x ∷ [])) → Set run (end (fresh s) l).desk.frame.issued
    → let a = (end (fresh s) (l ++ m)).desk in IssuedAgain a.frame.day.0 d (step a x).answer
issued-again s st l m run d c f =
    let x : Lent = record { call = issues run d; stores = st } in
    let front = chained-front (fresh s) (l ++ m) (x ∷ []) c in
    let flags = (same-flags (end (fresh s) l) (plain_end [] (map told l)) (reached s l (chained-front (fresh s) l m front))).issued in
    let day = (same-flags (end (fresh s) (l ++ m)) (plain_end [] (map told (l ++ m))) (reached s (l ++ m) front)).day in
    let reply = ap (λ (r : Reply). r.answer) (last-reply s (l ++ m) x c) in
    rw (reply, day, map-append told l m) (again-plain (map told l) (map told m) (told x).lengths run d (rw flags at f))

-- ---- an issued run's own stay, with their statuses

pub issued-stays : (s : Stores) (l m : List Lent) → Chained (fresh s) (l ++ m) → (run p : ℕ) → Set run (end (fresh s) l).desk.frame.issued
    → own run p (versions_in (end (fresh s) (l ++ m)).desk) ≡ own run p (versions_in (end (fresh s) l).desk)
issued-stays s l m c run p f =
    let front = chained-front (fresh s) l m c in
    let flag = set-flag run (end (fresh s) l).desk.frame.issued f in
    let same = (same-flags (end (fresh s) l) (plain_end [] (map told l)) (reached s l front)).issued in
    rw ((agree s l front).versions, (agree s (l ++ m) c).versions, map-append told l m)
    ((follows (map told l) (map told m)).stays run flag.0 (ap (flag_of run) (sym same) ∙ flag.1) p)

-- What holds of an opened desk with its stores whole after each call of a replay. Assumes nothing.
use Prim.Native.Nat.{ℕ, ◌*◌, ◌≤◌}
use mathlib.Core.Path.{◌≡◌, refl, sym, ap, ◌∙◌, subst}
use mathlib.Core.Bool.{true, false}
use mathlib.Core.List.{List, [], ◌∷◌, ◌++◌, map}
use native.Mathlib.Omega.{arith}
use lib.ListN.{length, drop, replicate, length-append, length-map}
use Rattle.quantity.specs.Limits.{book_rows, schedule_rows}
use Rattle.quantity.specs.Lists.{fold}
use Rattle.quantity.specs.Word.{word}
use Rattle.quantity.proofs.Tests.{and-left}
use Rattle.state.specs.Desk.{fresh_desk}
use Rattle.state.specs.Valid.{opening_ok, Sound}
use Rattle.state.specs.declared.Opening.{Opening}
use Rattle.state.proofs.Bounds.{sound}
use Rattle.model.specs.Agreement.{Running, left}
use Rattle.model.specs.Call.{Call, opens, Stores, Lengths, lengths_of, Told, telling}
use Rattle.model.specs.Causes.{takes, rules, opening_by, opens_ok}
use Rattle.model.specs.Laws.{Passed}
use Rattle.model.specs.Log.{used_after}
use Rattle.model.specs.Plain.{worked_out, after, energies_of}
use Rattle.model.specs.Step.{Outcome, granting}
use Rattle.model.specs.View.{view_of}
use Rattle.model.proofs.Fresh.{opened-holds}
use Rattle.model.proofs.Invariant.{Holds, holds-valid, book-is, schedules-is}
use Rattle.model.proofs.Logs.{length-logged}
use Rattle.model.proofs.Main.{every}
use Rattle.replay.specs.Play.{first_of, behind_of, lent_by, back_by}
use Rattle.replay.specs.Replay.{joined}
use Rattle.replay.proofs.Accepted.{Rows, After, own-lent, left-by}
use Rattle.replay.proofs.Over.{length-over, behind-logged}
use Rattle.replay.proofs.Parts.{first-long, first-fits, first-front, behind-front, both-parts, lent-whole}

-- the desk's own stores
abbrev pub own_of : Running → Stores
own_of r = lent_by r.desk.frame.opening.quarters r.stores

-- beside s, the stores as they were lent at first: its own stores hold what the plain desk works out, its schedules are 0, all other places are as
-- they were
pub record Opened (s : Stores) (r : Running) (h : List Told) : Type 0 where
  pub holds : Holds r.desk (own_of r) h
  pub lengths : lengths_of r.stores ≡ lengths_of s
  pub rows : Rows (energies_of h) s.values r.stores.values r.desk.frame.count r.desk.frame.opening.quarters
  pub log : drop (4 * r.desk.frame.used) r.stores.log ≡ drop (4 * r.desk.frame.used) s.log
  pub book : behind_of book_rows r.desk.frame.opening.quarters r.stores.book ≡ behind_of book_rows r.desk.frame.opening.quarters s.book
  pub schedules : behind_of schedule_rows r.desk.frame.opening.quarters r.stores.schedules ≡ behind_of schedule_rows r.desk.frame.opening.quarters s.schedules
  pub none : first_of schedule_rows r.desk.frame.opening.quarters r.stores.schedules ≡ replicate (schedule_rows * r.desk.frame.opening.quarters) 0

-- the desk and its stores after a call that was lent the first numbers of book and schedules
abbrev pub back : Outcome → (quarters : ℕ) (whole : Stores) → Running
back o q w = record { desk = o.desk; stores = back_by q w o.stores }

-- a store is as long as before
same-long : (k q : ℕ) (a l : List ℕ) → length a ≡ k * q → k * q ≤ length l → length (a ++ behind_of k q l) ≡ length l
same-long k q a l e fits =
    let parts = ap length (sym (both-parts k q l)) ∙ length-append (first_of k q l) (behind_of k q l) in
    length-append a (behind_of k q l) ∙ omega (arith, parts, first-long k q l, lent-whole k (length l) q fits)

-- w, with what the call was not lent as it stood in s, and with no schedules, after the call
abbrev Unlent : (s w : Stores) → Outcome → List Told → (quarters : ℕ) → Type 0
Unlent s w o h q =
    book_rows * q ≤ length w.book → schedule_rows * q ≤ length w.schedules → behind_of book_rows q w.book ≡ behind_of book_rows q s.book
    → behind_of schedule_rows q w.schedules ≡ behind_of schedule_rows q s.schedules → o.stores.schedules ≡ replicate (schedule_rows * q) 0 → Opened s (back o q w) h

-- from what a call left in the stores lent, which are parts of w
made : (s w : Stores) (o : Outcome) (h : List Told) → Holds o.desk o.stores h → lengths_of w ≡ lengths_of s
    → length o.stores.values ≡ length w.values → length o.stores.log ≡ length w.log
    → Rows (energies_of h) s.values o.stores.values o.desk.frame.count o.desk.frame.opening.quarters
    → drop (4 * o.desk.frame.used) o.stores.log ≡ drop (4 * o.desk.frame.used) s.log → Unlent s w o h o.desk.frame.opening.quarters
made s w o h H N a b R l fits room book schedules none =
    let q = o.desk.frame.opening.quarters in
    let figures : length o.stores.book ≡ book_rows * q = H.kept.booked.size in
    let planned : length o.stores.schedules ≡ schedule_rows * q = H.kept.scheduled.size in
    let first = first-front book_rows q o.stores.book (behind_of book_rows q w.book) figures in
    let plan = first-front schedule_rows q o.stores.schedules (behind_of schedule_rows q w.schedules) planned in
    record {
      holds = rw (first, plan) H;
      lengths = (λ i. record { values = a i; book = same-long book_rows q o.stores.book w.book figures fits i; log = b i; schedules = same-long schedule_rows q o.stores.schedules w.schedules planned room i }) ∙ N;
      rows = R;
      log = l;
      book = behind-front book_rows q o.stores.book (behind_of book_rows q w.book) figures ∙ book;
      schedules = behind-front schedule_rows q o.stores.schedules (behind_of schedule_rows q w.schedules) planned ∙ schedules;
      none = plan ∙ none;
    }

-- an accepted opening
pub start : (s : Stores) (q f c k : ℕ) (gs : List ℕ) → opens_ok (opening_by q f c k (lengths_of (lent_by q s))) gs ≡ true
    → Opened s (back (granting fresh_desk (lent_by q s) (opens q f c k gs)) q s) (telling (lengths_of (lent_by q s)) (opens q f c k gs) ∷ [])
unfolding opens_ok worked_out after fold joined
start s q f c k gs ok =
    let st = lent_by q s in
    let o = opening_by q f c k (lengths_of st) in
    let fine = and-left (opening_ok o) _ ok in
    made s s (granting fresh_desk st (opens q f c k gs)) (telling (lengths_of st) (opens q f c k gs) ∷ []) (opened-holds q f c k gs st ok) refl refl refl (record { wide = omega arith; words = refl }) refl
    (first-fits book_rows q s.book (book-is o fine)) (first-fits schedule_rows q s.schedules (schedules-is o fine)) refl refl refl

module _ (s : Stores) (r : Running) (h : List Told) (G : Opened s r h) where
  abbrev Q : ℕ
  Q = r.desk.frame.opening.quarters

  -- book and schedules have the desk's numbers
  pub book-fits : book_rows * r.desk.frame.opening.quarters ≤ length r.stores.book
  book-fits = first-fits book_rows Q r.stores.book G.holds.kept.booked.size

  pub schedules-fit : schedule_rows * r.desk.frame.opening.quarters ≤ length r.stores.schedules
  schedules-fit = first-fits schedule_rows Q r.stores.schedules G.holds.kept.scheduled.size

  module _ (c : Call) (untaken : (takes c).schedules ≡ false) (P : Passed (rules (view_of r.desk) (lengths_of (own_of r)) c)) where
    abbrev o : Outcome
    o = granting r.desk (own_of r) c

    abbrev list : List Told
    list = telling (lengths_of (own_of r)) c ∷ h

    A : After r.desk (own_of r) h c
    A = left-by r.desk (own_of r) h G.holds c untaken P

    kept : Holds o.desk (left o.desk.frame.opening (takes c) (own_of r) o.stores) list
    kept = (every c r.desk (own_of r) h (own_of r) G.holds (own-lent r.desk.frame.opening (takes c) (own_of r)) P).holds

    within : Sound o.desk
    within = sound o.desk (holds-valid o.desk _ list kept)

    rows : Rows (energies_of list) s.values o.stores.values o.desk.frame.count o.desk.frame.opening.quarters
    rows = rw A.opening (A.rows s.values G.rows)

    values-long : length o.stores.values ≡ length r.stores.values
    values-long =
        let E = map word (joined (energies_of list)) in
        let same : length r.stores.values ≡ length s.values = ap (λ (n : Lengths). n.values) G.lengths in
        let fits : length E ≤ length s.values = omega (arith, length-map (joined (energies_of list)) word, rows.wide, within.rows, ap (λ (x : Opening). x.values) A.opening, G.holds.kept.values_long) in
        ap length rows.words ∙ length-over E s.values fits ∙ sym same

    room : 4 * used_after A.row r.desk.frame.used ≤ length r.stores.log
    room = omega (arith, within.used, A.used, ap (λ (x : Opening). x.log) A.opening, G.holds.kept.log_long)

    log-long : length o.stores.log ≡ length r.stores.log
    log-long = ap length A.log ∙ length-logged r.desk.frame.used r.stores.log A.row room

    holds : Holds o.desk o.stores list
    holds =
        let K = G.holds.kept in
        subst (λ (a : Stores). Holds o.desk a list)
        (A.kept (values-long ∙ K.values_long) (A.book ∙ K.booked.size ∙ sym (book-is r.desk.frame.opening K.framed.opening)) (log-long ∙ K.log_long)) kept

    -- an accepted call but the opening, lent the desk's own stores
    pub granted : Opened s (back o Q r.stores) list
    granted =
        let N = G.lengths in
        let log : drop (4 * o.desk.frame.used) o.stores.log ≡ drop (4 * o.desk.frame.used) s.log = rw (A.used, A.log) (behind-logged r.desk.frame.used r.stores.log s.log A.row room G.log) in
        subst (Unlent s r.stores o list) (ap (λ (x : Opening). x.quarters) A.opening) (made s r.stores o list holds N values-long log-long rows log)
        book-fits schedules-fit G.book G.schedules (A.schedules ∙ G.none)

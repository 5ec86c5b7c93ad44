-- A change of the versions of a point, as submit and notice make it: book and log follow. Assumes nothing.
use Prim.Native.Nat.{ℕ, ◌*◌, ◌≤◌, ◌<◌}
use mathlib.Core.Path.{◌≡◌, sym, ap, ◌∙◌, subst}
use mathlib.Core.Bool.{true, false}
use mathlib.Core.List.{List}
use native.Mathlib.Omega.{arith}
use lib.IntN.{ℤ}
use lib.ListN.{length}
use Rattle.std.specs.Prelude.{Option}
use Rattle.quantity.specs.Limits.{points, day_ok}
use Rattle.state.specs.Desk.{versions_in}
use Rattle.state.specs.Selection.{own}
use Rattle.state.specs.Version.{record_at}
use Rattle.state.specs.declared.Desk.{Desk}
use Rattle.state.specs.declared.VersionRecord.{VersionRecord}
use Rattle.model.specs.Agreement.{left, Own}
use Rattle.model.specs.Call.{Call, all_but_schedules, Stores, lengths_of, Told}
use Rattle.model.specs.Causes.{rules, log_full, other_lengths}
use Rattle.model.specs.Laws.{Passed}
use Rattle.model.specs.Log.{due, add_row, used_after}
use Rattle.model.specs.Plain.{worked, log_of, schedules_of}
use Rattle.model.specs.Series.{figure_of}
use Rattle.model.specs.Step.{followed, with_schedules}
use Rattle.model.specs.View.{view_of}
use Rattle.model.specs.declared.LogRow.{LogRow}
use Rattle.model.proofs.Amends.{Stored, follow}
use Rattle.model.proofs.Books.{Booked}
use Rattle.model.proofs.Invariant.{Holds, Kept, Versioned, Done, book-is, holds-open}
use Rattle.model.proofs.Lending.{stores-own, left-most}
use Rattle.model.proofs.Logs.{log-room, length-logged, log-after, used-rows}

module _ (d : Desk) (s : Stores) (h : List Told) (H : Holds d s h) where
  pub changed-kept : (p e : ℕ) → 1 ≤ p → p ≤ points → day_ok e ≡ true → (ws : List VersionRecord) (values : List ℕ) (es : List (List ℤ)) → Versioned d.frame.opening d.points ws
      → Stored d.frame.opening.quarters values ws es → length values ≡ d.frame.opening.values → length (versions_in d) ≤ length ws
      → ((i : ℕ) → i < length (versions_in d) → (record_at ws i).row.0 ≡ (record_at (versions_in d) i).row.0) → ((r i : ℕ) → (i ≡ p → ⊥) → own r i ws ≡ own r i (versions_in d))
      → Booked d.frame.opening.quarters s.book (figure_of d.points d.frame.groups (versions_in d) es) → log_full d.frame.used d.frame.opening.log (due (versions_in d) ws p e) ≡ false
      → Kept (worked d.frame.opening e d.points d.frame.groups ws es (add_row (due (versions_in d) ws p e) (log_of h)) d.frame.closed d.frame.issued (schedules_of h)) (followed d s p e ws values)
  changed-kept p e lo hi day ws values es Vs S long few rows same B free =
      let K = H.kept in
      let row = due (versions_in d) ws p e in
      let n = used-after row in
      let room = log-room d.frame.used row d.frame.opening.log free (omega (arith, K.framed.used, H.used)) in
      let fits : 4 * used_after row d.frame.used ≤ length s.log = omega (arith, K.log_long) in
      record {
        framed = record { opening = K.framed.opening; day = day; used = omega arith };
        grouped = K.grouped;
        pointed = K.pointed;
        versioned = Vs;
        stored = S;
        booked = follow d.frame.opening.quarters values ws es S d.points d.frame.groups K.pointed.each K.grouped.each p lo hi (versions_in d) few rows same s.book B;
        values_long = long;
        log_long = length-logged d.frame.used s.log row fits ∙ K.log_long;
        logged = rw (← n) (log-after d.frame.used s.log row (log_of h) fits (rw H.used K.logged));
        scheduled = K.scheduled;
      }
    where
      used-after : (o : Option LogRow) → used_after o d.frame.used ≡ length (add_row o (log_of h))
      used-after o = ap (used_after o) H.used ∙ used-rows o (log_of h)

-- the stores that such a call leaves are all kept
pub left-holds : (d : Desk) (s a : Stores) (h : List Told) → Holds d (with_schedules a s.schedules) h → Holds d (left d.frame.opening all_but_schedules s a) h
left-holds d s a h H =
    let K = H.kept in
    rw (left-most d.frame.opening s a K.values_long (K.booked.size ∙ sym (book-is d.frame.opening K.framed.opening)) K.log_long) H

-- and those that it was lent are the desk's own, whatever the schedules
pub on-own : (c : Call) (d : Desk) (s : Stores) (h : List Told) (st : Stores) → Holds d s h → Own d.frame.opening all_but_schedules s st → other_lengths all_but_schedules (lengths_of st) d.frame.opening ≡ false
    → ((l : List ℕ) → Passed (rules (view_of d) (lengths_of (with_schedules s l)) c) → Done d s h c (with_schedules s l)) → Passed (rules (view_of d) (lengths_of st) c) → Done d s h c st
on-own c d s h st H o e f P =
    let same = stores-own d.frame.opening s st (holds-open d s h H) o e in
    subst (λ (z : Stores). Done d s h c z) (sym same) (f st.schedules (subst (λ (z : Stores). Passed (rules (view_of d) (lengths_of z) c)) same P))

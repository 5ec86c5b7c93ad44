-- Show and status, accepted: the plain desk's row and status, and nothing changes. Assumes nothing.
use Prim.Native.Nat.{ℕ, ◌≤◌, ◌<◌}
use mathlib.Core.Path.{◌≡◌, refl, sym, ap, ◌∙◌}
use mathlib.Core.Bool.{◌&&◌}
use mathlib.Core.List.{List, map}
use native.Mathlib.Omega.{arith}
use borrow.Author.Tests.{not-false}
use lib.IntN.{ℤ, pos}
use lib.ListN.{length, get_or, length-map, get_or-map}
use lib.Seq.{ext_get_or}
use Rattle.quantity.specs.Limits.{runs, groups, run_ok, group_ok}
use Rattle.quantity.specs.Lists.{fold}
use Rattle.quantity.specs.Word.{signed}
use Rattle.quantity.proofs.Tests.{and-left, and-right, within-low, within-high}
use Rattle.book.specs.Place.{group_row, row_start}
use Rattle.book.specs.Row.{part}
use Rattle.book.proofs.Places.{row-within}
use Rattle.book.proofs.Rows.{length-part, part-at}
use Rattle.state.specs.Version.{held}
use Rattle.state.specs.declared.Desk.{Desk}
use Rattle.model.specs.Call.{shows, asks, the_book, Stores, lengths_of, Told, Reply}
use Rattle.model.specs.Plain.{Worked, after, figure, tab, plainly}
use Rattle.model.specs.Step.{status_answer}
use Rattle.model.specs.declared.Answer.TheVariants.{Accepted}
use Rattle.model.proofs.Ends.{read-figure}
use Rattle.model.proofs.Invariant.{Holds, Granted, finish, holds-open}
use Rattle.model.proofs.Lending.{book-own, left-own}
use Rattle.model.proofs.Lists.{length-tab, tab-at}

-- "show 0 and its group's Q figures": the part of the book, read as figures
module _ (d : Desk) (s : Stores) (h : List Told) (H : Holds d s h) (r g : ℕ) (r1 : 1 ≤ r) (r2 : r ≤ runs) (g2 : g ≤ groups) where
  row-is : map signed (part s.book (row_start d.frame.opening.quarters r (group_row g)) d.frame.opening.quarters) ≡ tab d.frame.opening.quarters (λ (q : ℕ). figure h r (group_row g) q)
  row-is =
      ext_get_or (pos 0) (map signed shown) (tab Q (λ (q : ℕ). figure h r (group_row g) q))
      (long ∙ sym (length-tab Q (λ (q : ℕ). figure h r (group_row g) q)))
      (λ i l. at i (omega (arith, long)))
    where
      Q : ℕ
      Q = d.frame.opening.quarters

      start : ℕ
      start = row_start d.frame.opening.quarters r (group_row g)

      shown : List ℕ
      shown = part s.book start Q

      long : length (map signed shown) ≡ Q
      long = length-map shown signed ∙ length-part s.book start Q (omega (arith, row-within Q r (group_row g) r1 r2 (omega arith), H.kept.booked.size))

      at : (i : ℕ) → i < Q → get_or (map signed shown) i (pos 0) ≡ get_or (tab Q (λ (q : ℕ). figure h r (group_row g) q)) i (pos 0)
      at i l =
          get_or-map signed shown i 0 ∙ ap signed (part-at s.book start Q i 0 l)
          ∙ read-figure d s h H r (group_row g) i r1 r2 (omega arith) l
          ∙ sym (tab-at Q (λ (q : ℕ). figure h r (group_row g) q) i (pos 0) l)

pub show-granted : (r g : ℕ) → Granted (shows r g)
unfolding after fold
show-granted r g d s h st H o P =
    let fields = not-false (run_ok r && group_ok g) P.1.1.0 in
    let in_r = and-left (run_ok r) _ fields in
    let e = holds-open d s h H in
    let Q = d.frame.opening.quarters in
    let book = book-own d.frame.opening s st e o P.1.0 in
    let row = row-is d s h H r g (within-low 1 runs r in_r) (within-high 1 runs r in_r) (within-high 1 groups g (and-right (run_ok r) _ fields)) in
    record {
      reply =
          ap shown
          (ap (λ (l : List ℕ). map signed (part l (row_start Q r (group_row g)) Q)) book ∙ row
          ∙ ap (λ (w : Worked). tab w.opening.quarters (λ (q : ℕ). figure h r (group_row g) q)) H.works);
      holds =
          rw (left-own d.frame.opening s st e the_book o)
          (finish d s h H (record { call = shows r g; lengths = lengths_of st }) d s H.table H.used refl H.kept);
    }
  where
    shown : List ℤ → Reply
    shown l = record { answer = Accepted; row = l; surplus = pos 0; shortfall = pos 0 }

pub status-granted : (p x : ℕ) → Granted (asks p x)
unfolding after fold
status-granted p x d s h st H o P =
    record {
      reply = ap (λ (w : Worked). plainly (status_answer (held p x w.versions))) H.works;
      holds = finish d s h H (record { call = asks p x; lengths = lengths_of st }) d s H.table H.used refl H.kept;
    }

-- What the invariant gives at the end of a replay. Assumes nothing.
use Prim.Native.Nat.{ℕ, ◌+◌, ◌*◌, ◌≤◌, ◌<◌}
use mathlib.Core.Path.{◌≡◌, refl, sym, ap, ◌∙◌}
use mathlib.Core.List.{List, []}
use native.Mathlib.Omega.{arith}
use lib.ListN.{length, get_or, replicate}
use lib.Seq.{get_or-take}
use Rattle.quantity.specs.Limits.{runs, groups, run_rows, book_rows, schedule_rows}
use Rattle.quantity.specs.Word.{word, signed}
use Rattle.quantity.proofs.Sums.{sum-same}
use Rattle.book.specs.Place.{group_row, row_start}
use Rattle.book.proofs.Places.{row-within}
use Rattle.model.specs.Agreement.{Running, fresh, Agree, book_figure}
use Rattle.model.specs.Call.{Stores, Lengths, Told}
use Rattle.model.specs.Log.{log_numbers}
use Rattle.model.specs.Plain.{Worked, worked_out, log_of, energies_of, view_in, figure}
use Rattle.model.specs.Series.{figure_of}
use Rattle.model.proofs.Ends.{holds-agree}
use Rattle.model.proofs.Invariant.{holds-view}
use Rattle.replay.specs.Feeding.{lent_of}
use Rattle.replay.specs.Replay.{joined, Holding, Leaving}
use Rattle.replay.proofs.Going.{Going, unopened, opened}
use Rattle.replay.proofs.Opened.{own_of, Opened, book-fits, schedules-fit}
use Rattle.replay.proofs.Over.{over-split}
use Rattle.replay.proofs.Parts.{lent-whole}

-- a desk that was never opened, and its stores
fresh-holding : (s : Stores) → Holding [] (fresh s).desk
unfolding view_in worked_out
fresh-holding s = record { view = refl }

fresh-leaving : (s : Stores) → Leaving [] s s
unfolding worked_out log_numbers joined
fresh-leaving s =
    record {
      values = refl;
      log = refl;
      words = λ run k q _ _ _ l. absurd (omega arith);
      figures = λ run k q _ _ _ l. absurd (omega arith);
      sum = λ run q _ _ l. absurd (omega arith);
      others = refl;
      size = refl;
      schedules = refl;
    }

module _ (s : Stores) (r : Running) (h : List Told) (G : Opened s r h) where
  -- the desk with its own stores
  abbrev own : Running
  own = record { desk = r.desk; stores = own_of r }

  agrees : Agree [] own [] h
  agrees = holds-agree [] [] own h refl G.holds

  -- a number of the whole book is one of its own
  own-number : (run k q : ℕ) → 1 ≤ run → run ≤ runs → k < run_rows → q < r.desk.frame.opening.quarters → get_or r.stores.book (row_start r.desk.frame.opening.quarters run k + q) 0 ≡ get_or (own_of r).book (row_start r.desk.frame.opening.quarters run k + q) 0
  own-number run k q a b c l =
      let Q = r.desk.frame.opening.quarters in
      let all = lent-whole book_rows (length r.stores.book) Q (book-fits s r h G) in
      sym (get_or-take (lent_of book_rows (length r.stores.book) Q) r.stores.book (row_start Q run k + q) 0 (rw all (omega (arith, row-within Q run k a b c))))

  -- it is the word of the plain desk's figure
  own-word : (run k q : ℕ) → 1 ≤ run → run ≤ runs → k < run_rows → q < r.desk.frame.opening.quarters → get_or r.stores.book (row_start r.desk.frame.opening.quarters run k + q) 0 ≡ word (figure h run k q)
  unfolding figure
  own-word run k q a b c l =
      own-number run k q a b c l
      ∙ G.holds.kept.booked.at run k q a b c l
      ∙ ap (λ (w : Worked). word (figure_of w.points w.groups w.versions (energies_of h) run k q)) G.holds.works

  -- and read as the book's figure
  own-figure : (run k q : ℕ) → 1 ≤ run → run ≤ runs → k < run_rows → q < r.desk.frame.opening.quarters → signed (get_or r.stores.book (row_start r.desk.frame.opening.quarters run k + q) 0) ≡ book_figure own run k q
  unfolding book_figure
  own-figure run k q a b c l = ap signed (own-number run k q a b c l)

  opened-leaving : Leaving h s r.stores
  opened-leaving =
      let A = agrees in
      let K = G.holds.kept in
      let Q = r.desk.frame.opening.quarters in
      let same = ap (λ (n : Lengths). n.book) G.lengths in
      let planned = ap (λ (n : Lengths). n.schedules) G.lengths in
      let fits = book-fits s r h G in
      let room = schedules-fit s r h G in
      record {
        values = G.rows.words;
        log = over-split (log_numbers (log_of h)) s.log r.stores.log (4 * r.desk.frame.used) (omega (arith, K.framed.used, K.log_long, G.holds.used)) (rw G.holds.used K.logged) G.log;
        words = rw (← A.opening) own-word;
        figures = rw (← A.opening) (λ run k q a b c l. own-figure run k q a b c l ∙ A.figures run k q a b c l);
        sum =
            rw (← A.opening)
            (λ run q a b l. sum-same groups _ (λ (g : ℕ). book_figure own run (group_row g) q) (λ i lo hi. own-figure run (group_row i) q a b (omega arith) l) ∙ A.sum run q a b l);
        others = rw (← A.opening) (rw (lent-whole book_rows (length r.stores.book) Q fits, lent-whole book_rows (length s.book) Q (omega (arith, same, fits))) at G.book);
        size = same;
        schedules =
            rw (← A.opening)
            (over-split (replicate (schedule_rows * Q) 0) s.schedules r.stores.schedules (schedule_rows * Q) room
            (rw (lent-whole schedule_rows (length r.stores.schedules) Q room) at G.none)
            (rw (lent-whole schedule_rows (length r.stores.schedules) Q room, lent-whole schedule_rows (length s.schedules) Q (omega (arith, planned, room))) at G.schedules));
      }

-- the desk holds what the plain desk works out
pub going-holding : (s : Stores) (r : Running) (h : List Told) → Going s r h → Holding h r.desk
going-holding s r h (unopened a b) = rw (a, b) (fresh-holding s)
going-holding s r h (opened G) = record { view = holds-view r.desk (own_of r) h G.holds }

-- and so do its stores
pub going-leaving : (s : Stores) (r : Running) (h : List Told) → Going s r h → Leaving h s r.stores
going-leaving s r h (unopened a b) = rw (a, b) (fresh-leaving s)
going-leaving s r h (opened G) = opened-leaving s r h G

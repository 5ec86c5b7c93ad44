-- What the invariant gives at the end: the book is read as the plain desk's figures, and all of demand 3's equalities. Assumes nothing.
use Prim.Native.Nat.{ℕ, ◌+◌, ◌*◌, ◌≤◌, ◌<◌}
use mathlib.Core.Path.{◌≡◌, sym, ap, ap₂, ◌∙◌}
use mathlib.Core.List.{List}
use native.Mathlib.Omega.{arith}
use borrow.Author.Tests.{leb-true}
use lib.IntN.{ℤ, nat_abs, ◌-ℤ◌}
use lib.ListN.{get_or}
use Rattle.quantity.specs.Limits.{points, groups, runs, run_rows, most_energy}
use Rattle.quantity.specs.Sum.{sum_to}
use Rattle.quantity.specs.Word.{word, signed}
use Rattle.quantity.proofs.Sums.{sum-same}
use Rattle.quantity.proofs.Words.{signed-word, small-fits}
use Rattle.book.specs.Place.{group_row, row_start}
use Rattle.deviation.specs.Deviation.{over}
use Rattle.deviation.specs.Place.{schedule_start}
use Rattle.deviation.proofs.Balance.{sums-over-and-under}
use Rattle.deviation.proofs.Overs.{over-fits}
use Rattle.state.specs.Desk.{versions_in}
use Rattle.state.specs.declared.Desk.{Desk}
use Rattle.model.specs.Agreement.{Running, Agree, book_figure, schedule_word, surplus_in, shortfall_in}
use Rattle.model.specs.Call.{Stores, Told, Reply}
use Rattle.model.specs.Plain.{Worked, figure, outside, energies_of, schedule, schedule_in, surplus_at, shortfall_at}
use Rattle.model.specs.Series.{figure_of, outside_of}
use Rattle.model.proofs.Figures.{figure-reads, figure-small, groups-sum}
use Rattle.model.proofs.Invariant.{Holds}

module _ (d : Desk) (s : Stores) (h : List Told) (H : Holds d s h) where
  -- the figures over what the desk holds are the plain desk's
  figure-here : (run k q : ℕ) → figure_of d.points d.frame.groups (versions_in d) (energies_of h) run k q ≡ figure h run k q
  unfolding figure
  figure-here run k q = ap (λ (w : Worked). figure_of w.points w.groups w.versions (energies_of h) run k q) H.works

  outside-here : (run q : ℕ) → outside_of d.points (versions_in d) (energies_of h) run q ≡ outside h run q
  unfolding outside
  outside-here run q = ap (λ (w : Worked). outside_of w.points w.versions (energies_of h) run q) H.works

  -- a figure of the book is read as the plain desk's
  pub read-figure : (run k j : ℕ) → 1 ≤ run → run ≤ runs → k < run_rows → j < d.frame.opening.quarters → signed (get_or s.book (row_start d.frame.opening.quarters run k + j) 0) ≡ figure h run k j
  read-figure run k j a b c l =
      let K = H.kept in
      ap signed (K.booked.at run k j a b c l)
      ∙ figure-reads d.points d.frame.groups (versions_in d) (energies_of h) K.pointed.each K.grouped.each K.stored.small run k j
      ∙ figure-here run k j

  pub small-figure : (run k q : ℕ) → nat_abs (figure h run k q) ≤ points * most_energy
  small-figure run k q =
      let K = H.kept in
      rw (← figure-here run k q) (figure-small d.points d.frame.groups (versions_in d) (energies_of h) K.pointed.each K.grouped.each K.stored.small run k q)

  -- a figure's word, and what is planned
  pub figure-word : (run k j : ℕ) → 1 ≤ run → run ≤ runs → k < run_rows → j < d.frame.opening.quarters → get_or s.book (row_start d.frame.opening.quarters run k + j) 0 ≡ word (figure h run k j)
  figure-word run k j a b c l = H.kept.booked.at run k j a b c l ∙ ap word (figure-here run k j)

  pub schedule-word : (g j : ℕ) → 1 ≤ g → g ≤ groups → j < d.frame.opening.quarters → get_or s.schedules (schedule_start d.frame.opening.quarters g + j) 0 ≡ word (schedule h g j)
  unfolding schedule schedule_in
  schedule-word g j a b l = H.kept.scheduled.words (group_row g) j (omega arith) l

  pub small-schedule : (g j : ℕ) → nat_abs (schedule h g j) ≤ most_energy
  unfolding schedule schedule_in
  small-schedule g j = leb-true (nat_abs (schedule h g j)) most_energy (H.kept.scheduled.small (group_row g) j)

  -- it is read as the plain desk's
  read-schedule : (g j : ℕ) → 1 ≤ g → g ≤ groups → j < d.frame.opening.quarters → signed (get_or s.schedules (schedule_start d.frame.opening.quarters g + j) 0) ≡ schedule h g j
  read-schedule g j a b l = ap signed (schedule-word g j a b l) ∙ signed-word (schedule h g j) (small-fits (schedule h g j) (omega (arith, small-schedule g j)))

  -- so are surplus and shortfall of a quarter hour
  module _ (run g j : ℕ) (r1 : 1 ≤ run) (r2 : run ≤ runs) (g1 : 1 ≤ g) (g2 : g ≤ groups) (l : j < d.frame.opening.quarters) where
    abbrev planned : ℕ
    planned = get_or s.schedules (schedule_start d.frame.opening.quarters g + j) 0

    abbrev taken : ℕ
    taken = get_or s.book (row_start d.frame.opening.quarters run (group_row g) + j) 0

    read-surplus : signed (over planned taken) ≡ surplus_at h run g j
    read-surplus =
        ap signed (ap₂ over (schedule-word g j g1 g2 l) (figure-word run (group_row g) j r1 r2 (omega arith) l))
        ∙ over-fits (schedule h g j) (figure h run (group_row g) j) (omega (arith, small-schedule g j, small-figure run (group_row g) j))

    read-shortfall : signed (over taken planned) ≡ shortfall_at h run g j
    read-shortfall =
        ap signed (ap₂ over (figure-word run (group_row g) j r1 r2 (omega arith) l) (schedule-word g j g1 g2 l))
        ∙ over-fits (figure h run (group_row g) j) (schedule h g j) (omega (arith, small-schedule g j, small-figure run (group_row g) j))

  plain-sum : (run q : ℕ) → sum_to groups (λ (g : ℕ). figure h run (group_row g) q) ≡ outside h run q
  plain-sum run q =
      let K = H.kept in
      sum-same groups (λ (g : ℕ). figure h run (group_row g) q) (λ (g : ℕ). figure_of d.points d.frame.groups (versions_in d) (energies_of h) run (group_row g) q) (λ i lo hi. sym (figure-here run (group_row i) q))
      ∙ groups-sum d.points d.frame.groups (versions_in d) (energies_of h) K.pointed.each K.grouped.each run q
      ∙ outside-here run q

  -- "surplus minus shortfall, added over all groups, is the schedules' sum minus the outside exchange"
  plain-deviation : (run q : ℕ) → sum_to groups (λ (g : ℕ). surplus_at h run g q -ℤ shortfall_at h run g q) ≡ sum_to groups (λ (g : ℕ). schedule h g q) -ℤ outside h run q
  plain-deviation run q =
      sums-over-and-under groups (λ (g : ℕ). schedule h g q) (λ (g : ℕ). figure h run (group_row g) q)
      ∙ ap (λ (z : ℤ). sum_to groups (λ (g : ℕ). schedule h g q) -ℤ z) (plain-sum run q)

pub holds-agree : (given plain : List Reply) (r : Running) (h : List Told) → given ≡ plain → Holds r.desk r.stores h → Agree given r plain h
unfolding book_figure
holds-agree given plain r h e H =
    record {
      answers = e;
      opening = ap (λ (w : Worked). w.opening) H.works;
      delta_groups = ap (λ (w : Worked). w.groups) H.works;
      versions = ap (λ (w : Worked). w.versions) H.works;
      log = rw H.used H.kept.logged;
      figures = read-figure r.desk r.stores h H;
      sum = λ run q a b l.
          sum-same groups (λ (g : ℕ). book_figure r run (group_row g) q) (λ (g : ℕ). figure h run (group_row g) q) (λ i lo hi. read-figure r.desk r.stores h H run (group_row i) q a b (omega arith) l)
          ∙ plain-sum r.desk r.stores h H run q;
      plain_sum = λ run q a b l. plain-sum r.desk r.stores h H run q;
      schedules = read-schedule r.desk r.stores h H;
      deviation = λ run q a b l.
          sum-same groups (λ (g : ℕ). surplus_in r run g q -ℤ shortfall_in r run g q) (λ (g : ℕ). surplus_at h run g q -ℤ shortfall_at h run g q)
          (λ i lo hi. ap₂ ◌-ℤ◌ (read-surplus r.desk r.stores h H run i q a b lo hi l) (read-shortfall r.desk r.stores h H run i q a b lo hi l))
          ∙ plain-deviation r.desk r.stores h H run q
          ∙ ap (λ (z : ℤ). z -ℤ outside h run q) (sum-same groups (λ (g : ℕ). schedule h g q) (λ (g : ℕ). signed (schedule_word r g q)) (λ i lo hi. sym (read-schedule r.desk r.stores h H i q lo hi l)));
      plain_deviation = λ run q a b l. plain-deviation r.desk r.stores h H run q;
    }

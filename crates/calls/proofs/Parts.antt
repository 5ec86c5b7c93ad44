-- The row that is shown: a part of the book, and empty exactly when the number is not 0. Assumes nothing.
use Prim.Native.Nat.{ℕ, ◌+◌, ◌-◌, ◌*◌, ◌≤◌, ◌<◌}
use mathlib.Core.Path.{◌≡◌, refl, sym, ap, ◌∙◌}
use mathlib.Core.List.{List, []}
use mathlib.Core.Logic.{◌↔◌}
use native.Mathlib.Nat.{add-sub_cancel_left}
use native.Mathlib.Omega.{arith}
use borrow.Author.Tests.{not-false}
use lib.ListN.{length, take, drop}
use Rattle.std.specs.Prelude.{Ok, Err}
use Rattle.model.specs.Causes.{Ruling}
use Rattle.quantity.specs.Limits.{groups, runs, run_rows, book_rows, run_ok, group_ok}
use Rattle.quantity.proofs.Tests.{and-left, and-right, within-low, within-high}
use Rattle.book.specs.Place.{group_row, row_start}
use Rattle.book.specs.Row.{part}
use Rattle.book.proofs.Places.{row-within}
use Rattle.book.proofs.Rows.{length-part}
use Rattle.state.specs.Valid.{Sound}
use Rattle.state.specs.declared.Desk.{Desk}
use Rattle.state.proofs.Bounds.{sound}
use Rattle.model.specs.Call.{shows, Stores, Lengths, telling, lengths_of, answer_number}
use Rattle.model.proofs.CauseNumbers.{number-in}
use Rattle.model.specs.Step.{Outcome, refusal_by, step}
use Rattle.checks.specs.Stepped.{lent}
use Rattle.checks.proofs.Deciding.{allowed, book-same, refused, granted}

-- the q numbers from a row's start on are its part
pub row-part : (book : List ℕ) (q run g start : ℕ) → start ≡ row_start q run (group_row g) → take ((start + q) - start) (drop start book) ≡ part book (row_start q run (group_row g)) q
unfolding part
row-part book q run g start e = rw (add-sub_cancel_left, e)

-- what a show that is not refused has passed
pub record Showable (d : Desk) (run group size : ℕ) : Type 0 where
  pub sound : Sound d
  pub low : 1 ≤ run
  pub high : run ≤ runs
  pub some : 1 ≤ group
  pub most : group ≤ groups
  pub whole : size ≡ book_rows * d.frame.opening.quarters

pub showable : (d : Desk) (run group : ℕ) (n : Lengths) → refusal_by d (telling n (shows run group)) ≡ Ok tt → Showable d run group n.book
showable d run group n e =
    let h = allowed d (telling n (shows run group)) e in
    let s = sound d (not-false _ h.0) in
    let f = not-false _ h.1.1.1.0 in
    let r = and-left (run_ok run) (group_ok group) f in
    let g = and-right (run_ok run) (group_ok group) f in
    record {
      sound = s;
      low = within-low 1 runs run r;
      high = within-high 1 runs run r;
      some = within-low 1 groups group g;
      most = within-high 1 groups group g;
      whole = book-same n d.frame.opening h.1.1.0 ∙ s.book;
    }

-- a row of its run ends within the book
pub row-ends : {d : Desk} {run group size k start : ℕ} → Showable d run group size → start ≡ row_start d.frame.opening.quarters run k → k < run_rows → start + d.frame.opening.quarters ≤ size
row-ends {d} {run} {group} {size} {k} {start} s e h = omega (arith, e, row-within d.frame.opening.quarters run k s.low s.high h, s.whole)

-- "the part is empty exactly when the number is not 0"
pub empty-exactly : (d : Desk) (run group : ℕ) (s : Stores)
    → ((step d (lent (shows run group) s)).part ≡ []) ↔ (answer_number (step d (lent (shows run group) s)).answer ≡ 0 → ⊥)
empty-exactly d run group s = go (refusal_by d (telling (lengths_of s) (shows run group))) refl
  where
    o : Outcome
    o = step d (lent (shows run group) s)

    go : (v : Ruling) → v ≡ refusal_by d (telling (lengths_of s) (shows run group)) → (o.part ≡ []) ↔ (answer_number o.answer ≡ 0 → ⊥)
    go (Ok tt) e =
        let k = showable d run group (lengths_of s) (sym e) in
        let q = d.frame.opening.quarters in
        let b = part s.book (row_start q run (group_row group)) q in
        let l : length b ≡ q = length-part s.book (row_start q run (group_row group)) q (row-ends k refl (omega (arith, k.most))) in
        let m : 1 ≤ q = k.sound.quarters in
        let full : b ≡ [] → ⊥ = λ z. let y : length b ≡ 0 = ap length z in omega (arith, l, m, y) in
        rw (granted d (shows run group) s e refl) (λ z _. full z, λ f. absurd (f refl))
    go (Err x) e =
        let n = (number-in x).0 in
        rw (refused d (shows run group) s e refl) (λ _ z. omega (arith, n, z), λ _. refl)

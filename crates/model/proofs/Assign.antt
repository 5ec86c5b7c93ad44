-- Assign, accepted: the book follows the exact figures with the new delta group, in both runs or in run 2 only. Assumes nothing.
use Prim.Native.Nat.{ℕ, ◌≤◌}
use mathlib.Core.Path.{◌≡◌, refl, sym, ap, ◌∙◌}
use mathlib.Core.Bool.{Bool, true, ◌&&◌}
use mathlib.Core.List.{List}
use native.Mathlib.Omega.{arith}
use borrow.Author.Tests.{leb-true, not-false}
use lib.ListN.{length, length-set}
use Rattle.quantity.specs.Limits.{areas, groups, deltas, delta_ok, group_ok, day_ok}
use Rattle.quantity.specs.Lists.{all, fold}
use Rattle.quantity.proofs.Lists.{all-set}
use Rattle.quantity.proofs.Tests.{by-test, and-left, and-right, and-both, within-high}
use Rattle.state.specs.Desk.{versions_in, desk_with, the_day, the_groups}
use Rattle.state.specs.Groups.{sets_both, with_group}
use Rattle.state.specs.Valid.{deltas_ok}
use Rattle.state.specs.declared.PerRun.{PerRun}
use Rattle.state.proofs.Bounds.{deltas-in}
use Rattle.model.specs.Agreement.{left}
use Rattle.model.specs.Call.{assigns, the_book, lengths_of}
use Rattle.model.specs.Plain.{after, energies_of}
use Rattle.model.specs.Step.{moved, with_book}
use Rattle.model.proofs.Invariant.{Grouped, Granted, book-is, finish, holds-open}
use Rattle.model.proofs.Lending.{book-own, left-book}
use Rattle.model.proofs.Moves.{booked-moved}

-- the delta groups stay within their limits
grouped-with : (both : Bool) (a g : ℕ) (gs : PerRun (List ℕ)) → group_ok g ≡ true → Grouped gs → Grouped (with_group both a g gs)
unfolding deltas_ok
grouped-with both a g gs in_g G =
    let in_first = deltas-in gs G.each 1 in
    record {
      each = and-both _ _ (by-test (λ (l : List ℕ). all group_ok l ≡ true) both _ _ (λ _. all-set group_ok gs.first a g in_first in_g) (λ _. in_first)) (all-set group_ok gs.second a g (deltas-in gs G.each 2) in_g);
      size1 = by-test (λ (l : List ℕ). length l ≡ deltas) both _ _ (λ _. length-set gs.first a g ∙ G.size1) (λ _. G.size1);
      size2 = length-set gs.second a g ∙ G.size2;
    }

pub assign-granted : (a g e : ℕ) → Granted (assigns a g e)
unfolding after fold
assign-granted a g e d s h st H o P =
    let fields = not-false (delta_ok a && (group_ok g && day_ok e)) P.1.1.0 in
    let rest = and-right (delta_ok a) _ fields in
    let in_g = and-left (group_ok g) _ rest in
    let small : a ≤ areas = leb-true a areas (and-left (delta_ok a) _ fields) in
    let K = H.kept in
    let Q = d.frame.opening.quarters in
    let own : st.book ≡ s.book = book-own d.frame.opening s st (holds-open d s h H) o P.1.0 in
    let gs = d.frame.groups in
    let both = sets_both d.frame.opening e in
    let moving : List ℕ → List ℕ = moved both Q a g gs in
    let B = booked-moved Q a g small (within-high 1 groups g in_g) d.points (versions_in d) (energies_of h) K.pointed.each gs K.grouped.each (omega (arith, K.grouped.size1)) (omega (arith, K.grouped.size2)) both s.book K.booked in
    let d' = desk_with (desk_with d (the_groups (with_group both a g gs))) (the_day e) in
    let kept : left d.frame.opening the_book s (with_book st (moving st.book)) ≡ with_book s (moving s.book) =
    left-book d.frame.opening s (with_book st (moving st.book)) (ap (λ (l : List ℕ). length (moving l)) own ∙ B.size ∙ sym (book-is d.frame.opening K.framed.opening))
    ∙ ap (λ (l : List ℕ). with_book s (moving l)) own in
    record {
      reply = refl;
      holds =
          rw kept
          (finish d s h H (record { call = assigns a g e; lengths = lengths_of st }) d' (with_book s (moving s.book)) H.table H.used refl
          (record {
            framed = record { opening = K.framed.opening; day = and-right (group_ok g) _ rest; used = K.framed.used };
            grouped = grouped-with both a g gs in_g K.grouped;
            pointed = K.pointed;
            versioned = K.versioned;
            stored = K.stored;
            booked = B;
            values_long = K.values_long;
            log_long = K.log_long;
            logged = K.logged;
            scheduled = K.scheduled;
          }));
    }

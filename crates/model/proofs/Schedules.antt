-- The schedules in their store: each number there is the word of what the group lodged last, or 0. Assumes nothing.
use Prim.Native.Nat.{ℕ, ◌+◌, ◌*◌, ◌≤◌, ◌<◌}
use mathlib.Core.Path.{◌≡◌, refl, sym, ap, ◌∙◌}
use mathlib.Core.Bool.{Bool, true, false}
use mathlib.Core.List.{List, [], map}
use native.Mathlib.Decide.{ℕ_discrete}
use native.Mathlib.Omega.{arith}
use borrow.Author.Tests.{ltb-true, ltb-false}
use lib.Dec.{ltb}
use lib.IntN.{ℤ, pos}
use lib.ListN.{length, get_or, set, replicate, length-set, length-map, length-replicate, get_or-map}
use lib.Seq.{get_or-set_same, get_or-set_other}
use Rattle.quantity.specs.Limits.{groups, schedule_rows, energy_ok}
use Rattle.quantity.specs.Lists.{all}
use Rattle.quantity.specs.Word.{word}
use Rattle.quantity.proofs.Lists.{all-at, alike-at}
use Rattle.book.specs.Row.{splice}
use Rattle.book.proofs.Places.{row-before}
use Rattle.book.proofs.Rows.{length-splice, splice-in, splice-before, splice-after}

-- the store of 64 × Q numbers and the schedules of the groups, from 0 on
pub record Scheduled (q : ℕ) (store : List ℕ) (ss : List (List ℤ)) : Type 0 where
  pub size : length store ≡ schedule_rows * q
  pub rows : length ss ≡ groups
  pub small : (i j : ℕ) → energy_ok (get_or (get_or ss i []) j (pos 0)) ≡ true
  pub words : (i j : ℕ) → i < groups → j < q → get_or store (i * q + j) 0 ≡ word (get_or (get_or ss i []) j (pos 0))

-- "fills it with 0"
pub none-scheduled : (q : ℕ) → Scheduled q (replicate (schedule_rows * q) 0) (replicate groups [])
unfolding word
none-scheduled q =
    record {
      size = length-replicate (schedule_rows * q) 0;
      rows = length-replicate {A = List ℤ} groups [];
      small = λ i j. rw (nothing i) refl;
      words = λ i j _ _. alike-at (schedule_rows * q) (i * q + j) 0 ∙ rw (nothing i) refl;
    }
  where
    nothing : (i : ℕ) → ◌≡◌ {A = List ℤ} (get_or (replicate groups []) i []) []
    nothing i = alike-at groups i []

-- a group lodges: its row is written, every other place stays
module _ (q : ℕ) (store : List ℕ) (ss : List (List ℤ)) (S : Scheduled q store ss) (i : ℕ) (here : i < groups)
    (es : List ℤ) (full : length es ≡ q) (good : all energy_ok es ≡ true) where
  wide : length (map word es) ≡ q
  wide = length-map es word ∙ full

  room : i * q + q ≤ length store
  room = omega (arith, row-before i groups q here, S.size)

  written : List ℕ
  written = splice store (i * q) q (map word es)

  words-in : (k j : ℕ) → k < groups → j < q → Dec (k ≡ i) → get_or written (k * q + j) 0 ≡ word (get_or (get_or (set ss i es) k []) j (pos 0))
  unfolding written word
  words-in k j lk lj (yes e) =
      rw (e, get_or-set_same ss i es [] (omega (arith, S.rows)))
      (splice-in store (map word es) (i * q) q room wide j 0 lj ∙ get_or-map word es j (pos 0))
  words-in k j lk lj (no ne) =
      by-side (ltb k i) refl ∙ S.words k j lk lj ∙ ap (λ (l : List ℤ). word (get_or l j (pos 0))) (sym (get_or-set_other ss i k es [] ne))
    where
      by-side : (t : Bool) → ltb k i ≡ t → get_or (splice store (i * q) q (map word es)) (k * q + j) 0 ≡ get_or store (k * q + j) 0
      by-side true e = splice-before store (map word es) (i * q) q room wide (k * q + j) 0 (omega (arith, row-before k i q (ltb-true k i e)))
      by-side false e =
          let l : i < k = omega (arith, ltb-false k i e) in
          splice-after store (map word es) (i * q) q room wide (k * q + j) 0 (omega (arith, row-before i k q l))

  small-in : (k j : ℕ) → Dec (k ≡ i) → energy_ok (get_or (get_or (set ss i es) k []) j (pos 0)) ≡ true
  small-in k j (yes e) = rw (e, get_or-set_same ss i es [] (omega (arith, S.rows))) (all-at energy_ok es j (pos 0) refl good)
  small-in k j (no ne) = rw (get_or-set_other ss i k es [] ne) (S.small k j)

  pub lodged-scheduled : Scheduled q (splice store (i * q) q (map word es)) (set ss i es)
  unfolding written
  lodged-scheduled =
      record {
        size = length-splice store (map word es) (i * q) q room wide ∙ S.size;
        rows = length-set ss i es ∙ S.rows;
        small = λ k j. small-in k j (ℕ_discrete k i);
        words = λ k j lk lj. words-in k j lk lj (ℕ_discrete k i);
      }

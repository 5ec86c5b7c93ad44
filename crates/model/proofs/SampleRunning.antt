-- P1 to P11 and the example file on the running desk, whatever its stores hold: by demand 3. Assumes nothing.
use Prim.Native.Nat.{ℕ, ◌≤◌, ◌<◌}
use mathlib.Core.Path.{◌≡◌, ap, ◌∙◌}
use mathlib.Core.List.{List, [], ◌∷◌, ◌++◌, map}
use native.Mathlib.Omega.{arith}
use lib.IntN.{ℤ}
use lib.ListN.{length, get_or}
use Rattle.quantity.specs.Limits.{groups, runs, run_rows}
use Rattle.quantity.proofs.Sums.{sum-same}
use Rattle.book.specs.Place.{group_row}
use Rattle.state.specs.declared.Opening.{Opening}
use Rattle.model.specs.Agreement.{fresh, lend, end, replies, Agree}
use Rattle.model.specs.Call.{Call, Stores, Lengths, lengths_of, telling, answer_number, Reply}
use Rattle.model.specs.Plain.{opening_of, plain_replies, plain_end}
use Rattle.model.specs.Sample.{Sample, Example, Says, RowIs, BothRows, TotalIs, plain_desk, running_desk, room, month, file, total}
use Rattle.model.specs.declared.Answer.{Answer}
use Rattle.model.specs.declared.Answer.TheVariants.{Accepted}
use Rattle.model.proofs.Lends.{lend-chained, lend-told}
use Rattle.model.proofs.Main.{agree}
use Rattle.model.proofs.Sample.{sample, example, month-quarters, file-quarters}

module _ (s : Stores) (n : Lengths) (e : lengths_of s ≡ n) (l : List Call) where
  pub both : Agree (replies (fresh s) (lend (fresh s) l)) (end (fresh s) (lend (fresh s) l)) (plain_replies [] (map (telling n) l)) (plain_end [] (map (telling n) l))
  both = rw (lend-told s l, e) at (agree s (lend (fresh s) l) (lend-chained (fresh s) l))

  pub same-answers : (running_desk s).answers l ≡ (plain_desk n).answers l
  same-answers = ap (map (λ (r : Reply). r.answer)) both.answers

  module _ (q : ℕ) (quarters : (opening_of (plain_end [] (map (telling n) l))).quarters ≡ q) where
    pub same-figure : (run k j : ℕ) → 1 ≤ run → run ≤ runs → k < run_rows → j < q → (running_desk s).figures l run k j ≡ (plain_desk n).figures l run k j
    same-figure run k j a b c h = both.figures run k j a b c (omega (arith, ap (λ (o : Opening). o.quarters) both.opening))

    same-total : (run j : ℕ) → 1 ≤ run → run ≤ runs → j < q → total (running_desk s) l run j ≡ total (plain_desk n) l run j
    same-total run j a b h =
        sum-same groups (λ (g : ℕ). (running_desk s).figures l run (group_row g) j) (λ (g : ℕ). (plain_desk n).figures l run (group_row g) j) (λ i lo hi. same-figure run (group_row i) j a b (omega arith) h)

module _ (s : Stores) (e : lengths_of s ≡ room 2) where
  as-plain : (l : List Call) (c : Call) (a : Answer) (n : ℕ) → Says (plain_desk (room 2)) l c a n → Says (running_desk s) l c a n
  as-plain l c a n p = record { answer = ap (λ (x : List Answer). get_or x (length l) Accepted) (same-answers s (room 2) e (l ++ (c ∷ []))) ∙ p.answer; number = p.number }

  row-plain : (run k : ℕ) → 1 ≤ run → run ≤ runs → k < run_rows → (a b : ℤ) → RowIs (plain_desk (room 2)) run k a b → RowIs (running_desk s) run k a b
  row-plain run k lo hi h a b p =
      (same-figure s (room 2) e month 2 month-quarters run k 0 lo hi h (omega arith) ∙ p.0, same-figure s (room 2) e month 2 month-quarters run k 1 lo hi h (omega arith) ∙ p.1)

  totals-plain : (run : ℕ) → 1 ≤ run → run ≤ runs → (a b : ℤ) → TotalIs (plain_desk (room 2)) run a b → TotalIs (running_desk s) run a b
  totals-plain run lo hi a b p = (same-total s (room 2) e month 2 month-quarters run 0 lo hi (omega arith) ∙ p.0, same-total s (room 2) e month 2 month-quarters run 1 lo hi (omega arith) ∙ p.1)

  both-rows : (k : ℕ) → k < run_rows → (a b : ℤ) → BothRows (plain_desk (room 2)) k a b → BothRows (running_desk s) k a b
  both-rows k h a b p = (row-plain 1 k (omega arith) (omega arith) h a b p.0, row-plain 2 k (omega arith) (omega arith) h a b p.1)

  pub sample-running : Sample (running_desk s)
  sample-running =
      let S = sample in
      record {
        taken = same-answers s (room 2) e month ∙ S.taken;
        p1 = both-rows 65 (omega arith) _ _ S.p1;
        p2 = both-rows 66 (omega arith) _ _ S.p2;
        p3 = both-rows 64 (omega arith) _ _ S.p3;
        p4 = (totals-plain 1 (omega arith) (omega arith) _ _ S.p4.0, totals-plain 2 (omega arith) (omega arith) _ _ S.p4.1);
        group5 = both-rows 4 (omega arith) _ _ S.group5;
        group6 = both-rows 5 (omega arith) _ _ S.group6;
        group1 = both-rows 0 (omega arith) _ _ S.group1;
        group2 = both-rows 1 (omega arith) _ _ S.group2;
        group4 = both-rows 3 (omega arith) _ _ S.group4;
        group3 = both-rows 2 (omega arith) _ _ S.group3;
        p5 = as-plain _ _ _ _ S.p5;
        p6 = as-plain _ _ _ _ S.p6;
        p7 = as-plain _ _ _ _ S.p7;
        p8 = as-plain _ _ _ _ S.p8;
        p9 = as-plain _ _ _ _ S.p9;
        p10 = (as-plain _ _ _ _ S.p10.0, as-plain _ _ _ _ S.p10.1);
        p11 = (as-plain _ _ _ _ S.p11.0, as-plain _ _ _ _ S.p11.1);
        p12 = S.p12;
      }

module _ (s : Stores) (e : lengths_of s ≡ room 1) where
  one-figure : (run : ℕ) → 1 ≤ run → run ≤ runs → (running_desk s).figures file run (group_row 1) 0 ≡ (plain_desk (room 1)).figures file run (group_row 1) 0
  one-figure run lo hi = same-figure s (room 1) e file 1 file-quarters run (group_row 1) 0 lo hi (omega arith) (omega arith)

  one-total : (run : ℕ) → 1 ≤ run → run ≤ runs → total (running_desk s) file run 0 ≡ total (plain_desk (room 1)) file run 0
  one-total run lo hi = same-total s (room 1) e file 1 file-quarters run 0 lo hi (omega arith)

  pub example-running : Example (running_desk s)
  example-running =
      let E = example in
      record {
        answers = ap (map answer_number) (same-answers s (room 1) e file) ∙ E.answers;
        figures = (one-figure 1 (omega arith) (omega arith) ∙ E.figures.0, one-figure 2 (omega arith) (omega arith) ∙ E.figures.1);
        totals = (one-total 1 (omega arith) (omega arith) ∙ E.totals.0, one-total 2 (omega arith) (omega arith) ∙ E.totals.1);
      }

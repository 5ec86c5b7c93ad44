-- The month with corrections on the running desk, whatever its stores hold: by demand 3. Assumes nothing.
use Prim.Native.Nat.{ℕ, ◌≤◌, ◌<◌}
use mathlib.Core.Path.{◌≡◌, ap, ◌∙◌}
use mathlib.Core.List.{map}
use native.Mathlib.Omega.{arith}
use lib.IntN.{ℤ}
use lib.ListN.{replicate, length-replicate}
use Rattle.quantity.specs.Limits.{runs, run_rows}
use Rattle.state.specs.declared.Opening.{Opening}
use Rattle.model.specs.Agreement.{fresh, lend, end}
use Rattle.model.specs.Call.{Stores, Lengths, lengths_of, answer_number, Reply}
use Rattle.model.specs.Corrected.{Corrected, CorrectedTotals, Booked, BothBooked, issued, calls_of}
use Rattle.model.specs.Plain.{outside}
use Rattle.model.specs.Sample.{plain_desk, running_desk, room, total}
use Rattle.model.proofs.Corrected.{corrections, ended, issued-quarters, issued-outside}
use Rattle.model.proofs.SampleRunning.{both, same-answers, same-figure}

module _ (s : Stores) (e : lengths_of s ≡ room 2) where
  booked-plain : (run k : ℕ) → 1 ≤ run → run ≤ runs → k < run_rows → (a b : ℤ) → Booked (plain_desk (room 2)) run k a b → Booked (running_desk s) run k a b
  booked-plain run k lo hi h a b p =
      (same-figure s (room 2) e (calls_of issued) 2 issued-quarters run k 0 lo hi h (omega arith) ∙ p.0, same-figure s (room 2) e (calls_of issued) 2 issued-quarters run k 1 lo hi h (omega arith) ∙ p.1)

  both-plain : (k : ℕ) → k < run_rows → (a b : ℤ) → BothBooked (plain_desk (room 2)) k a b → BothBooked (running_desk s) k a b
  both-plain k h a b p = (booked-plain 1 k (omega arith) (omega arith) h a b p.0, booked-plain 2 k (omega arith) (omega arith) h a b p.1)

  pub corrections-running : Corrected (running_desk s)
  corrections-running =
      let C = corrections in
      let A = both s (room 2) e (calls_of issued) in
      record {
        answers = ap (map answer_number) (same-answers s (room 2) e (calls_of issued)) ∙ C.answers;
        rows = ap (map (λ (r : Reply). r.row)) A.answers ∙ C.rows;
        log = A.log ∙ C.log;
        delta1 = booked-plain 1 65 (omega arith) (omega arith) (omega arith) _ _ C.delta1;
        group1 = booked-plain 1 0 (omega arith) (omega arith) (omega arith) _ _ C.group1;
        group5 = booked-plain 1 4 (omega arith) (omega arith) (omega arith) _ _ C.group5;
        group7 = booked-plain 1 6 (omega arith) (omega arith) (omega arith) _ _ C.group7;
        delta1_corrected = booked-plain 2 65 (omega arith) (omega arith) (omega arith) _ _ C.delta1_corrected;
        group1_corrected = booked-plain 2 0 (omega arith) (omega arith) (omega arith) _ _ C.group1_corrected;
        group5_corrected = booked-plain 2 4 (omega arith) (omega arith) (omega arith) _ _ C.group5_corrected;
        group7_corrected = booked-plain 2 6 (omega arith) (omega arith) (omega arith) _ _ C.group7_corrected;
        delta2 = both-plain 66 (omega arith) _ _ C.delta2;
        group2 = both-plain 1 (omega arith) _ _ C.group2;
        delta_t = both-plain 64 (omega arith) _ _ C.delta_t;
        selects = rw A.versions C.selects;
        selects_corrected = rw A.versions C.selects_corrected;
      }

  -- the 64 groups of both desks add up to the outside exchange
  sum-is : (run j : ℕ) → 1 ≤ run → run ≤ runs → j < 2 → (total (running_desk s) (calls_of issued) run j ≡ outside ended run j) × (total (plain_desk (room 2)) (calls_of issued) run j ≡ outside ended run j)
  sum-is run j lo hi h =
      let A = both s (room 2) e (calls_of issued) in
      let q : j < (end (fresh s) (lend (fresh s) (calls_of issued))).desk.frame.opening.quarters = omega (arith, ap (λ (o : Opening). o.quarters) A.opening, issued-quarters) in
      (A.sum run j lo hi q, A.plain_sum run j lo hi q)

  pub totals-running : CorrectedTotals (running_desk s)
  totals-running =
      let t = issued-outside in
      record {
        total1 = ((sum-is 1 0 (omega arith) (omega arith) (omega arith)).0 ∙ t.0.0, (sum-is 1 1 (omega arith) (omega arith) (omega arith)).0 ∙ t.0.1);
        total2 = ((sum-is 2 0 (omega arith) (omega arith) (omega arith)).0 ∙ t.1.0, (sum-is 2 1 (omega arith) (omega arith) (omega arith)).0 ∙ t.1.1);
      }

  totals-plain : CorrectedTotals (plain_desk (room 2))
  totals-plain =
      let t = issued-outside in
      record {
        total1 = ((sum-is 1 0 (omega arith) (omega arith) (omega arith)).1 ∙ t.0.0, (sum-is 1 1 (omega arith) (omega arith) (omega arith)).1 ∙ t.0.1);
        total2 = ((sum-is 2 0 (omega arith) (omega arith) (omega arith)).1 ∙ t.1.0, (sum-is 2 1 (omega arith) (omega arith) (omega arith)).1 ∙ t.1.1);
      }

-- stores of any lengths
blank : Lengths → Stores
blank n = record { values = replicate n.values 0; book = replicate n.book 0; log = replicate n.log 0; schedules = replicate n.schedules 0 }

blank-lengths : (n : Lengths) → lengths_of (blank n) ≡ n
unfolding blank
blank-lengths n = λ i.
    record {
      values = length-replicate {A = ℕ} n.values 0 i;
      book = length-replicate {A = ℕ} n.book 0 i;
      log = length-replicate {A = ℕ} n.log 0 i;
      schedules = length-replicate {A = ℕ} n.schedules 0 i;
    }

-- the plain desk is told lengths alone, so any stores of these lengths will do
pub totals : CorrectedTotals (plain_desk (room 2))
totals = totals-plain (blank (room 2)) (blank-lengths (room 2))

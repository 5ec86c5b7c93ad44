-- The report from bytes by the papers' numbers: which answer is given when, where its rows stand, and which sums it has. Assumes nothing.
use Prim.Native.Nat.{ℕ, ◌+◌, ◌*◌, ◌≤◌}
use mathlib.Core.Path.{◌≡◌, refl}
use mathlib.Core.Bool.{Bool, true, false, cond, ◌&&◌}
use native.Mathlib.Omega.{arith}
use borrow.Author.Tests.{eqb-true}
use lib.Dec.{eqb}
use Rattle.std.specs.Prelude.{Result, Ok, Err, IsErr}
use Rattle.quantity.specs.Limits.{quarters_ok, run_ok, group_ok, most_quarters, runs, groups, book_rows, schedule_rows}
use Rattle.quantity.proofs.Tests.{and-left, and-right, within-low, within-high}
use Rattle.book.specs.Place.{group_row, row_start}
use Rattle.book.specs.declared.refusal.BookRefusal.{BookRefusal}
use Rattle.book.proofs.Places.{row-before, row-within}
use Rattle.deviation.specs.declared.Deviation.{Deviation}
use Rattle.deviation.specs.Answer.{surplus_of, shortfall_of}
use Rattle.deviation.specs.Place.{schedule_start}
use Rattle.deviation.specs.Month.{Reported}
use Rattle.deviation.specs.Bytes.{report_ok, lengths_ok, report_refusal}

-- Q is in range
pub few : (q r g : ℕ) → report_ok q r g ≡ true → q ≤ most_quarters
few q r g p = within-high 1 most_quarters q (and-left (quarters_ok q) (run_ok r && group_ok g) p)

-- both rows end within their stores
pub planned-within : (q g : ℕ) → 1 ≤ g → g ≤ groups → schedule_start q g + q ≤ schedule_rows * q
planned-within q g low high = row-before (group_row g) groups q (omega arith)

pub booked-within : (q r g : ℕ) → 1 ≤ r → r ≤ runs → 1 ≤ g → g ≤ groups → row_start q r (group_row g) + q ≤ book_rows * q
booked-within q r g low high first last = row-within q r (group_row g) low high (omega arith)

-- of a run and group with stores of their lengths
pub record Ends (s b q r g : ℕ) : Type 0 where
  pub few_quarters : q ≤ most_quarters
  pub planned : schedule_start q g + q ≤ s
  pub booked : row_start q r (group_row g) + q ≤ b
  pub schedules_small : s ≤ 1000000
  pub book_small : b ≤ 1000000

pub ends : (s b q r g : ℕ) → Reported s b q r g → Ends s b q r g
ends s b q r g p =
    record {
      few_quarters = p.few;
      planned = omega (arith, planned-within q g p.group_low p.group_high);
      booked = omega (arith, booked-within q r g p.run_low p.run_high p.group_low p.group_high);
      schedules_small = omega arith;
      book_small = omega arith;
    }

-- a report that is not refused: its numbers, the stores' lengths and where its rows stand
pub record Found (b s q r g : ℕ) : Type 0 where
  pub few_quarters : q ≤ most_quarters
  pub run_low : 1 ≤ r
  pub run_high : r ≤ runs
  pub group_low : 1 ≤ g
  pub group_high : g ≤ groups
  pub book_size : b ≡ 1296 * q
  pub schedules_size : s ≡ 512 * q
  pub planned : schedule_start q g + q ≤ schedule_rows * q
  pub booked : row_start q r (group_row g) + q ≤ book_rows * q

found-in : (b s q r g : ℕ) → report_ok q r g ≡ true → lengths_ok b s q ≡ true → Found b s q r g
found-in b s q r g p l =
    let rest = and-right (quarters_ok q) (run_ok r && group_ok g) p in
    let pr = and-left (run_ok r) (group_ok g) rest in
    let pg = and-right (run_ok r) (group_ok g) rest in
    let r1 = within-low 1 runs r pr in
    let r2 = within-high 1 runs r pr in
    let g1 = within-low 1 groups g pg in
    let g2 = within-high 1 groups g pg in
    record {
      few_quarters = few q r g p;
      run_low = r1;
      run_high = r2;
      group_low = g1;
      group_high = g2;
      book_size = eqb-true b (1296 * q) (and-left (eqb b (1296 * q)) (eqb s (512 * q)) l);
      schedules_size = eqb-true s (512 * q) (and-right (eqb b (1296 * q)) (eqb s (512 * q)) l);
      planned = planned-within q g g1 g2;
      booked = booked-within q r g r1 r2 g1 g2;
    }

pub found : (b s q r g : ℕ) → 0 ≡ report_refusal b s q r g → Found b s q r g
unfolding report_refusal
found b s q r g e = go (report_ok q r g) (lengths_ok b s q) refl refl e
  where
    go : (t u : Bool) → report_ok q r g ≡ t → lengths_ok b s q ≡ u → ◌≡◌ {A = ℕ} 0 (cond t (cond u 0 2) 3) → Found b s q r g
    go true true p l z = found-in b s q r g p l
    go true false p l z = absurd (omega arith)
    go false u p l z = absurd (omega arith)

-- what is refused has no sums
pub no-surplus : (r : Result Deviation BookRefusal) → IsErr r → surplus_of r ≡ 0
no-surplus (Ok x) e = cc e
no-surplus (Err r) e = refl

pub no-shortfall : (r : Result Deviation BookRefusal) → IsErr r → shortfall_of r ≡ 0
no-shortfall (Ok x) e = cc e
no-shortfall (Err r) e = refl

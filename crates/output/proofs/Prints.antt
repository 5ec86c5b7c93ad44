-- Laws of the output's parts. Assumes nothing.
use Prim.Native.Nat.{ℕ, suc, ◌+◌, ◌-◌, ◌^◌, ◌<◌}
use mathlib.Core.Path.{◌≡◌, refl, sym, ap, ap₂, ◌∙◌}
use mathlib.Core.Bool.{false}
use mathlib.Core.List.{List, [], ◌++◌}
use native.Mathlib.Decide.{dec_lt}
use native.Mathlib.Omega.{arith}
use borrow.Author.Tests.{ne_eqb}
use lib.Dec.{eqb}
use lib.IntN.{ℤ, nat_abs}
use lib.ListN.{length, get_or}
use mir.Syntax.{w64}
use mir.Facts.{to_z_pos, to_z-neg}
use Rattle.quantity.specs.Limits.{runs, points, groups}
use Rattle.quantity.specs.Sum.{sum_to}
use Rattle.quantity.specs.Word.{signed}
use Rattle.state.specs.Selection.{selected}
use Rattle.state.specs.declared.Selection.{Selection}
use Rattle.state.specs.declared.VersionRecord.{VersionRecord}
use Rattle.checks.specs.Picks.{no_picks, selected_in, PicksIn}
use Rattle.state.specs.declared.PerRun.{PerRun}
use Rattle.text.specs.Line.{answer_line, group_line, total_line}
use Rattle.text.specs.Text.{each_to}
use Rattle.text.proofs.Texts.{each-same}
use Rattle.output.specs.Figures.{IsPlace, Summed, word_of, read_of, total_of}
use Rattle.output.specs.Output.{answers_text, group_text, selection_text, selections_text}
use Rattle.output.specs.Parts.{pick_text, picks_text}

-- the line of a call
abbrev pub answer_at : List ℕ → ℕ → List ℕ
answer_at l n = answer_line n (get_or l (n - 1) 0)

-- that of the next call, by what stands behind the answers so far
pub answer-next : (l : List ℕ) (i : ℕ) → answer_line (i + 1) (get_or l i 0) ≡ answer_at l (i + 1)
answer-next l i = let e : i + 1 - 1 ≡ i = omega arith in rw e refl

-- all of them
pub answers-all : (l : List ℕ) → each_to (length l) (answer_at l) ≡ answers_text l
unfolding answers_text
answers-all l = refl

module _ (run quarter group : ℕ) where
  -- a figure of 0
  pub group-none : (w : ℕ) → w ≡ 0 → [] ≡ group_text run quarter group (signed w)
  unfolding group_text
  group-none w e = rw e

  -- another figure
  pub group-line : (w : ℕ) → (w ≡ 0 → ⊥) → w < 2 ^ 64 → group_line run quarter group (signed w) ≡ group_text run quarter group (signed w)
  unfolding group_text
  group-line w ne h = rw (other (dec_lt w (2 ^ 63)))
    where
      other : Dec (w < 2 ^ 63) → eqb (nat_abs (signed w)) 0 ≡ false
      other (yes l) = rw (to_z_pos w64 l) (ne_eqb w 0 ne)
      other (no g) =
          let k : ℕ = 2 ^ 64 - 1 - w in
          let e : 2 ^ 64 - suc k ≡ w = omega arith in
          ap (λ (x : ℕ). eqb (nat_abs (signed x)) 0) (sym e) ∙ ap (λ (z : ℤ). eqb (nat_abs z) 0) (to_z-neg w64 k (omega arith)) ∙ ne_eqb (suc k) 0 (λ z. omega arith)

-- a group's text by the word that the book has
pub group-read : (s : List ℕ) (q run quarter group w : ℕ) → w ≡ word_of s q run quarter group → group_text run quarter group (signed w) ≡ group_text run quarter group (read_of s q run quarter group)
group-read s q run quarter group w e = ap (λ (x : ℕ). group_text run quarter group (signed x)) e

-- the line of a sum by the word that was worked out
pub total-read : (s : List ℕ) (q run quarter : ℕ) (w : ℕ) → Summed s q → IsPlace q run quarter → w ≡ total_of s q run quarter groups → total_line run quarter (signed w) ≡ total_line run quarter (sum_to groups (read_of s q run quarter))
total-read s q run quarter w S p e = ap (λ (x : ℕ). total_line run quarter (signed x)) e ∙ ap (total_line run quarter) (S run quarter p)

-- the next point's selection by the table of picks
pub pick-next : (run : ℕ) (t : List (PerRun Selection)) (i : ℕ) (s : Selection) → s ≡ selected_in run (get_or t i no_picks) → selection_text run (i + 1) s ≡ pick_text run t (i + 1)
pick-next run t i s e =
    let n : i + 1 - 1 ≡ i = omega arith in
    rw n (ap (selection_text run (i + 1)) e)

-- the table's picks are the selections
pub picks-read : (run : ℕ) (vs : List VersionRecord) (t : List (PerRun Selection)) → PicksIn vs t → picks_text run t ≡ each_to points (λ (p : ℕ). selection_text run p (selected run p vs))
picks-read run vs t k =
    each-same points (pick_text run t) (λ (p : ℕ). selection_text run p (selected run p vs))
    (λ p lo hi.
    let n : suc (p - 1) ≡ p = omega arith in
    ap (λ (x : PerRun Selection). selection_text run p (selected_in run x)) (k.each (p - 1) (omega arith)) ∙ ap (λ (m : ℕ). selection_text run p (selected run m vs)) n)

-- run 1, then run 2
each-run : (f : ℕ → List ℕ) → f 1 ++ f 2 ≡ each_to runs f
unfolding each_to
each-run f = refl

pub selections-read : (vs : List VersionRecord) (t : List (PerRun Selection)) → PicksIn vs t → picks_text 1 t ++ picks_text 2 t ≡ selections_text vs
unfolding selections_text
selections-read vs t k =
    ap₂ (λ (x y : List ℕ). x ++ y) (picks-read 1 vs t k) (picks-read 2 vs t k)
    ∙ each-run (λ (r : ℕ). each_to points (λ (p : ℕ). selection_text r p (selected r p vs)))

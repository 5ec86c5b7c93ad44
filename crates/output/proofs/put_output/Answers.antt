-- `put_output` meets its contract. Assumes nothing.
use Prim.Native.Nat.{◌≤◌}
use mathlib.Core.Path.{◌≡◌, sym}
use native.Mathlib.Omega.{arith}
use borrow.Author.Rules.{rules}
use lib.ListN.{length, take}
use Rattle.output.specs.Fill.{most_calls}
use Rattle.text.proofs.Texts.{puts-then, puts-as, puts-out}
use Rattle.output.proofs.Main.{answered-few, answers-within, answers-long, short, quarters-few, summed, text-is}
use Rattle.output.proofs.put_output.Goals.{After-replay-done, After-put_answers}
use Rattle.output.proofs.put_output.Goals as goal

-- how many answers there are, of those that the stores have room for
few : (c : After-replay-done) → c.replay-done.result.answered ≤ most_calls
few c = answered-few _ _ _ _ _ _ _ _ c.requires.0 c.requires.2 c.replay-done.ensures

long : (c : After-replay-done) → length (take c.replay-done.result.answered c.replay-done.new.answers) ≡ c.replay-done.result.answered
long c = answers-long _ _ _ _ _ _ _ _ c.requires.0 c.requires.2 c.replay-done.ensures c.replay-done.auto.answers

pub put_answers-requires : goal.put_answers-requires
put_answers-requires c =
    let p = c.requires in
    let d = (goal.at.put_answers-requires c).After-replay-done in
    (omega (arith, few d, long d), short _ _ _ _ _ _ _ _ p.0 p.2 c.replay-done.ensures, omega (arith, few d, long d, p.1))

pub invariant_of-put_ending-clause-few : goal.invariant_of-put_ending-clause-few
invariant_of-put_ending-clause-few c = quarters-few _ _ _ _ _ _ _ _ c.requires.0 c.requires.2 c.replay-done.ensures

pub invariant_of-put_ending-clause-summed : goal.invariant_of-put_ending-clause-summed
invariant_of-put_ending-clause-summed c =
    let s = (goal.at.invariant_of-put_ending-clause-summed c).After-put_answers in
    summed _ _ _ _ _ _ _ _ c.requires.0 c.requires.2 c.replay-done.ensures (λ i. (s.type_inv.book i).fits)

pub put_ending-requires : goal.put_ending-requires
put_ending-requires c =
    let d = (goal.at.put_ending-requires c).After-replay-done in
    omega (arith, few d, long d, c.put_answers.ensures.put.few, c.put_answers.ensures.room, c.requires.1)

pub slice_bounds-put_answers-end : goal.slice_bounds-put_answers-end
slice_bounds-put_answers-end c = answers-within _ _ _ _ _ _ _ _ c.requires.0 c.requires.2 c.replay-done.ensures c.replay-done.auto.answers

pub slice_bounds-put_answers-end-2 : goal.slice_bounds-put_answers-end-2
slice_bounds-put_answers-end-2 c = sym (long (goal.at.slice_bounds-put_answers-end-2 c).After-replay-done)

pub returns : goal.returns
returns c =
    let p = c.requires in
    let d = (goal.at.returns c).After-replay-done in
    puts-out
    (puts-as (puts-then c.put_answers.ensures c.put_ending.ensures) (omega (arith, few d, long d)) (text-is _ _ _ _ _ _ _ _ p.0 p.2 c.replay-done.ensures))
    (search rules)

-- `run_file` meets its contract: what remains of the file, done from here on, gives what the whole gives. Assumes nothing.
use mathlib.Core.Path.{refl, sym, ap, ◌∙◌}
use native.Mathlib.Omega.{arith}
use lib.ListN.{length-set}
use Rattle.std.specs.Prelude.{Ok}
use Rattle.replay.proofs.Reached.{reached-first, within, still-fresh}
use Rattle.replay.proofs.Runs.{going, energies-inside, again, full, ended, left-off}
use Rattle.replay.proofs.run.run_file.Goals as goal

pub loop-answered-init : goal.loop-answered-init
loop-answered-init c = rw c.fresh_desk-desk.ensures (going _ _ refl (reached-first _))

pub returns-in-Ok-None : goal.returns-in-Ok-None
returns-in-Ok-None c =
    let g = c.loop-answered.invariant in
    ended g (omega (arith, c.loop-answered-test.true, g.sized.answers))
    (sym c.read_call.ensures.0 ∙ c.in-Ok-None.is ∙ ap Ok c.in-Ok-None.field-0-is) c.read_call.ensures.1

pub returns-in-Err : goal.returns-in-Err
returns-in-Err c =
    let g = c.loop-answered.invariant in
    left-off g (omega (arith, c.loop-answered-test.true, g.sized.answers)) (sym c.read_call.ensures.0 ∙ c.in-Err.is) c.read_call.ensures.1

pub hand_on-answer-requires : goal.hand_on-answer-requires
hand_on-answer-requires c =
    let g = c.loop-answered.invariant in
    record {
      value = within _ _ g.reached;
      fresh = still-fresh _ _ g.reached;
      count = energies-inside g (sym c.read_call.ensures.0 ∙ c.in-Ok-Some.is ∙ ap Ok c.in-Ok-Some.field-0-is) c.read_call.ensures.1;
    }

pub loop-answered-preserved : goal.loop-answered-preserved
loop-answered-preserved c =
    let handed = c.hand_on-answer in
    let read = c.read_call in
    let g = c.loop-answered.invariant in
    again g (omega (arith, c.loop-answered-test.true, g.sized.answers)) (sym read.ensures.0 ∙ c.in-Ok-Some.is ∙ ap Ok c.in-Ok-Some.field-0-is) read.ensures.1 handed.ensures c.from.ensures
    (record {
      values = handed.auto.values;
      book = handed.auto.book;
      log = handed.auto.log;
      schedules = handed.auto.schedules;
      series = read.auto.series;
      answers = simp length-set;
    })

pub returns : goal.returns
returns c =
    let g = c.loop-answered.invariant in
    rw c.ended_at.ensures (full g (omega (arith, c.loop-answered-test.false, g.sized.answers)))

-- `run_file` meets its contract: what remains of the file, done from here on, gives what the whole gives. Assumes nothing.
use Prim.Native.Nat.{◌-◌}
use lib.ListN.{length}
use Rattle.checks.specs.Stepped.{stores_of}
use Rattle.replay.specs.Play.{starting}
use Rattle.replay.specs.Run.{playing_of}
use Rattle.replay.proofs.Runs.{Going}
use Rattle.replay.proofs.run.run_file.Given as goal

abbrev pub invariant-loop-answered : goal.invariant-loop-answered
invariant-loop-answered l =
    Going l.file (starting (stores_of l.initial.values l.initial.book l.initial.log l.initial.schedules) l.initial.series l.initial.answers) (playing_of l.desk (stores_of l.values l.book l.log l.schedules) l.series l.answers l.answered) l.at

abbrev pub decreases-loop-answered : goal.decreases-loop-answered
decreases-loop-answered l =
    length l.initial.answers - l.answered

-- `drive_script` meets its contract. Assumes nothing.
use lib.ListN.{length}
use Rattle.test_drive.proofs.script.drive_script.Given as goal

abbrev pub decreases-loop-record : goal.decreases-loop-record
decreases-loop-record l = length l.rest

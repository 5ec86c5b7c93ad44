-- `drive_walk` meets its contract. Assumes nothing.
use native.Mathlib.Omega.{arith}
use mathlib.Core.Path.{refl}
use Rattle.test_drive.proofs.walk.drive_walk.Goals.{else-table-eq-TABLE-via-then-table-eq-TABLE+else-out-ge-OUT, else-table-eq-TABLE-via-else-table-eq-TABLE}
use Rattle.test_drive.proofs.walk.drive_walk.Goals as goal

pub returns-then-out-ge-OUT : goal.returns-then-out-ge-OUT
returns-then-out-ge-OUT c =
    record { walks = λ e f. c.put_walks_of.ensures; other = λ n. absurd (n c.if-table-eq-TABLE.true); short = λ h. absurd (omega (arith, c.if-out-ge-OUT.true)) }

pub returns-else-table-eq-TABLE : goal.returns-else-table-eq-TABLE
returns-else-table-eq-TABLE c =
    elim c.else-table-eq-TABLE.branch [
      | else-table-eq-TABLE-via-then-table-eq-TABLE+else-out-ge-OUT w ↦
          record { walks = λ e f. absurd (omega (arith, w.if-out-ge-OUT.false)); other = λ n. refl; short = λ h. refl }
      | else-table-eq-TABLE-via-else-table-eq-TABLE w ↦
          record { walks = λ e f. absurd (w.if-table-eq-TABLE.false e); other = λ n. refl; short = λ h. refl }
    ]

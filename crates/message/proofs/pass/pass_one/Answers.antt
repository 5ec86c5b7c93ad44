-- `pass_one` meets its contract, by its first three bytes. Assumes nothing.
use native.Mathlib.Omega.{arith}
use Rattle.message.proofs.Bytes.{one-byte, two-bytes, three-bytes}
use Rattle.message.proofs.pass.pass_one.Goals as goal

pub returns-then-file-at-lt-TOP : goal.returns-then-file-at-lt-TOP
returns-then-file-at-lt-TOP c = one-byte c.args.file.now c.args.at (omega arith) c.if-file-at-lt-TOP.true

pub returns-then-b-lt-TOP : goal.returns-then-b-lt-TOP
returns-then-b-lt-TOP c = two-bytes c.args.file.now c.args.at c.if-file-at-lt-TOP.false (omega arith) c.if-b-lt-TOP.true c.if-b-eq0.false

pub returns-then-c-lt-TOP : goal.returns-then-c-lt-TOP
returns-then-c-lt-TOP c = three-bytes c.args.file.now c.args.at c.if-file-at-lt-TOP.false c.if-b-lt-TOP.false (omega arith) c.if-c-lt-TOP.true c.if-c-eq0.false

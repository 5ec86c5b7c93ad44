-- `pass_any` meets its contract: the kind, then the call. Assumes nothing.
use mathlib.Core.Path.{sym}
use Rattle.message.proofs.Placed.{found}
use Rattle.message.proofs.FileSteps.{call-goes}
use Rattle.message.proofs.file.pass_any.Goals as goal

pub pass_kind-requires : goal.pass_kind-requires
pass_kind-requires c = (found c.args.file.now c.args.at (sym c.in_ok-kind.ensures)).within

pub returns : goal.returns
returns c = call-goes c.args.room c.args.file.now c.args.at (sym c.in_ok-kind.ensures) c.pass_kind.ensures

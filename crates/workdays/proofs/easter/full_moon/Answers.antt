-- `full_moon` meets its contract. Assumes nothing.
use Rattle.workdays.proofs.Lengths.{moon-days}
use Rattle.workdays.specs.Rule.{full_moon}
use Rattle.workdays.proofs.easter.full_moon.Goals as goal

pub returns : goal.returns
unfolding full_moon
returns c = (c.excepted.ensures, rw c.excepted.ensures (moon-days c.args.year))

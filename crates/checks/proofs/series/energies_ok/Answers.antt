-- `energies_ok` meets its contract. Assumes nothing.
use Rattle.std.proofs.Common.{sym, ◌∙◌, rules}
use lib.Seq.{take_all}
use Rattle.quantity.specs.Limits.{energy_ok}
use Rattle.quantity.specs.Word.{signed}
use Rattle.quantity.proofs.Lists.{all-none, all-more, all-map}
use Rattle.checks.proofs.series.energies_ok.Invariants.{energy_word}
use Rattle.checks.proofs.series.energies_ok.Goals as goal

pub loop-energy-init : goal.loop-energy-init
loop-energy-init c = all-none energy_word c.args.series.now

pub loop-energy-preserved : goal.loop-energy-preserved
loop-energy-preserved c =
    let e = all-more energy_word c.args.series.now c.loop-energy.energy-index 0 (search rules) in cc

pub returns : goal.returns
returns c =
    let l = c.loop-energy in
    let s = c.args.series.now in
    l.invariant ∙ rw (take_all l.energy-index s (search rules)) (sym (all-map energy_ok signed s))

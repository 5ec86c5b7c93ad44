-- `glance` meets its contract: a table that is not walked is not asked for. Assumes nothing.
use mathlib.Core.Path.{◌≡◌, sym, ◌∙◌}
use Rattle.std.proofs.lemmas.Option.{none-some, same_Some}
use lib.ListN.{length}
use Rattle.quantity.proofs.Lists.{length-of}
use Rattle.checks.proofs.Found.{state-is}
use borrow.Author.Rules.{rules}
use Rattle.checks.proofs.looks.glance.Goals.{Start, in-Some, in-None, in-Some-version, in-None-version}
use Rattle.checks.proofs.looks.glance.Goals as goal

points-long : (c : Start) → length c.args.d.points ≡ 256
points-long c = search (rules, length-of)

versions-long : (c : Start) → length c.args.d.versions ≡ 512
versions-long c = search (rules, length-of)

pub returns : goal.returns
returns c = record {
  valid = c.is_open.ensures ∙ sym c.requires.d_value;
  here = rw (c.state_in-here.ensures, c.requires.p_value) (state-is c.args.d.points c.args.a.point.0 (points-long (goal.at.returns c).Start));
  taken = λ s e. elim c.match-a.branch [
    | in-Some w ↦ rw (same_Some _ _ (sym w.in-Some.is ∙ e)) at (w.taken-is ∙ w.has_series-taken.ensures)
    | in-None w ↦ absurd (none-some _ (sym w.in-None.is ∙ e))
  ];
  table = versions-long (goal.at.returns c).Start;
  survey = λ x e. elim c.match-a-2.branch [
    | in-Some-version w ↦ rw w.found-is (rw (same_Some _ _ (sym w.in-Some-version.is ∙ e)) at w.survey-found.ensures)
    | in-None-version w ↦ absurd (none-some _ (sym w.in-None-version.is ∙ e))
  ];
}

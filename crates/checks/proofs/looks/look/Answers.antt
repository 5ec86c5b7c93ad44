-- `look` meets its contract. Assumes nothing.
use mathlib.Core.Path.{◌≡◌}
use lib.ListN.{length}
use Rattle.quantity.proofs.Lists.{length-of}
use Rattle.state.specs.Valid.{valid_desk}
use borrow.Author.Rules.{rules}
use Rattle.checks.proofs.looks.look.Goals.{Start}
use Rattle.checks.proofs.looks.look.Goals as goal

table : (c : Start) → length c.args.d.versions ≡ 512
table c = search (rules, length-of)

pub returns : goal.returns
unfolding valid_desk
returns c =
    let s = rw c.rows_in.ensures at c.survey_tested-found.ensures in
    let n = c.scan-seen.ensures in
    record {
      valid = rw (c.frame_ok.ensures, n.fit, s.fit);
      here = c.state_at-here.ensures;
      taken = λ s e. rw (c.unwrap_or-series.ensures, e) at n.taken;
      table = table (goal.at.returns c).Start;
      survey = λ x e. rw (c.unwrap_or-version.ensures, e) at s.survey;
    }

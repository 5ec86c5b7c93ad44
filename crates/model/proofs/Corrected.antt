-- The month with corrections, computed on the plain desk. Assumes nothing.
use mathlib.Core.Path.{◌≡◌, refl}
use mathlib.Core.List.{List, [], map}
use lib.IntN.{pos}
use Rattle.quantity.specs.Lists.{all, any, fold}
use Rattle.quantity.specs.Sum.{sum_to}
use Rattle.state.specs.Change.{settle}
use Rattle.state.specs.Point.{series_ok}
use Rattle.state.specs.Selection.{best}
use Rattle.state.specs.Valid.{opening_ok}
use Rattle.state.specs.Version.{held}
use Rattle.state.specs.Walk.{walk}
use Rattle.model.specs.Call.{Told, telling}
use Rattle.model.specs.Causes.{or_if, first_of, opens_ok, other_lengths, is_absent, not_check, refusal}
use Rattle.model.specs.Corrected.{Corrected, delivered, corrected, issued, calls_of}
use Rattle.model.specs.Log.{differ, due, log_numbers}
use Rattle.model.specs.Plain.{opening_of, view_in, figure, outside, tab, answered, joined, plain_reply, plain_next, plain_replies, plain_end, worked_out, after}
use Rattle.model.specs.Sample.{plain_desk, room, activations, month}
use Rattle.model.specs.Series.{to_side, from_side, sides_of, on_side, adds, energy, figure_of, is_outside, outside_of}
use Rattle.model.specs.Step.{status_answer}

pub corrections : Corrected (plain_desk (room 2))
unfolding all any fold sum_to series_ok best opening_ok held walk settle or_if first_of opens_ok other_lengths is_absent not_check refusal differ due log_numbers view_in figure tab answered joined plain_reply plain_next plain_replies plain_end activations month delivered corrected issued to_side from_side sides_of on_side adds energy figure_of status_answer worked_out after
corrections =
    record {
      answers = refl;
      rows = refl;
      log = refl;
      delta1 = (refl, refl);
      group1 = (refl, refl);
      group5 = (refl, refl);
      group7 = (refl, refl);
      delta1_corrected = (refl, refl);
      group1_corrected = (refl, refl);
      group5_corrected = (refl, refl);
      group7_corrected = (refl, refl);
      delta2 = ((refl, refl), (refl, refl));
      group2 = ((refl, refl), (refl, refl));
      delta_t = ((refl, refl), (refl, refl));
      selects = ((refl, refl), ((refl, refl), ((refl, refl), (refl, refl))));
      selects_corrected = ((refl, refl), ((refl, refl), ((refl, refl), (refl, refl))));
    }

-- the list at its end
abbrev pub ended : List Told
ended = plain_end [] (map (telling (room 2)) (calls_of issued))

pub issued-quarters : (opening_of ended).quarters ≡ 2
unfolding all any fold series_ok best opening_ok held walk settle or_if first_of opens_ok other_lengths is_absent not_check refusal differ due view_in joined plain_next plain_end activations month delivered corrected issued worked_out after
issued-quarters = refl

-- the outside exchange of both runs
pub issued-outside : ((outside ended 1 0 ≡ pos 95000) × (outside ended 1 1 ≡ pos 85000)) × ((outside ended 2 0 ≡ pos 104000) × (outside ended 2 1 ≡ pos 79000))
unfolding all any fold sum_to series_ok best opening_ok held walk settle or_if first_of opens_ok other_lengths is_absent not_check refusal differ due view_in outside joined plain_next plain_end activations month delivered corrected issued energy is_outside outside_of worked_out after
issued-outside = ((refl, refl), (refl, refl))

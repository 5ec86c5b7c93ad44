-- P1 to P11 and the example file, computed on the plain desk. Assumes nothing.
use mathlib.Core.Path.{◌≡◌, refl}
use mathlib.Core.List.{[], map}
use Rattle.quantity.specs.Lists.{all, any, fold}
use Rattle.quantity.specs.Sum.{sum_to}
use Rattle.message.proofs.Theorems.{p12}
use Rattle.state.specs.Point.{series_ok}
use Rattle.state.specs.Selection.{best}
use Rattle.state.specs.Valid.{opening_ok}
use Rattle.state.specs.Version.{held}
use Rattle.state.specs.Walk.{walk}
use Rattle.model.specs.Causes.{or_if, first_of, opens_ok, other_lengths, is_absent, not_check, refusal}
use Rattle.model.specs.Log.{differ, due}
use Rattle.model.specs.Plain.{opening_of, view_in, figure, tab, answered, joined, plain_reply, plain_next, plain_replies, plain_end, worked_out, after}
use Rattle.model.specs.Call.{telling}
use Rattle.model.specs.Sample.{Sample, Example, plain_desk, room, activations, month, file}
use Rattle.model.specs.Series.{to_side, from_side, sides_of, on_side, adds, energy, figure_of}
use Rattle.model.specs.Step.{status_answer}

pub sample : Sample (plain_desk (room 2))
unfolding all any fold sum_to series_ok best opening_ok held walk or_if first_of opens_ok other_lengths is_absent not_check refusal differ due view_in figure tab answered joined plain_reply plain_next plain_replies plain_end activations month to_side from_side sides_of on_side adds energy figure_of status_answer worked_out after
sample =
    record {
      taken = refl;
      p1 = ((refl, refl), (refl, refl));
      p2 = ((refl, refl), (refl, refl));
      p3 = ((refl, refl), (refl, refl));
      p4 = ((refl, refl), (refl, refl));
      group5 = ((refl, refl), (refl, refl));
      group6 = ((refl, refl), (refl, refl));
      group1 = ((refl, refl), (refl, refl));
      group2 = ((refl, refl), (refl, refl));
      group4 = ((refl, refl), (refl, refl));
      group3 = ((refl, refl), (refl, refl));
      p5 = record { answer = refl; number = refl };
      p6 = record { answer = refl; number = refl };
      p7 = record { answer = refl; number = refl };
      p8 = record { answer = refl; number = refl };
      p9 = record { answer = refl; number = refl };
      p10 = (record { answer = refl; number = refl }, record { answer = refl; number = refl });
      p11 = (record { answer = refl; number = refl }, record { answer = refl; number = refl });
      p12 = p12;
    }

pub example : Example (plain_desk (room 1))
unfolding all any fold sum_to series_ok best opening_ok held walk or_if first_of opens_ok other_lengths is_absent not_check refusal differ due view_in figure tab answered joined plain_reply plain_next plain_replies plain_end file to_side from_side sides_of on_side adds energy figure_of status_answer worked_out after
example = record { answers = refl; figures = (refl, refl); totals = (refl, refl) }

pub month-quarters : (opening_of (plain_end [] (map (telling (room 2)) month))).quarters ≡ 2
unfolding all any fold sum_to series_ok best opening_ok held walk or_if first_of opens_ok other_lengths is_absent not_check refusal differ due view_in figure tab answered joined plain_reply plain_next plain_replies plain_end activations month to_side from_side sides_of on_side adds energy figure_of status_answer worked_out after
month-quarters = refl

pub file-quarters : (opening_of (plain_end [] (map (telling (room 1)) file))).quarters ≡ 1
unfolding all any fold sum_to series_ok best opening_ok held walk or_if first_of opens_ok other_lengths is_absent not_check refusal differ due view_in figure tab answered joined plain_reply plain_next plain_replies plain_end file to_side from_side sides_of on_side adds energy figure_of status_answer worked_out after
file-quarters = refl

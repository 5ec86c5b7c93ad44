-- Document 01's example, computed. Assumes nothing.
use Prim.Native.Nat.{ℕ, ◌-◌}
use mathlib.Core.Path.{◌≡◌, refl, ap, ap₂, ◌∙◌}
use mathlib.Core.List.{List, [], ◌++◌, map}
use lib.ListN.{length, take, drop}
use Rattle.quantity.specs.Lists.{all, any, fold}
use Rattle.quantity.specs.Sum.{sum_to}
use Rattle.message.specs.Energy.{received}
use Rattle.message.specs.File.{Ending, whole, calls_within}
use Rattle.message.specs.Named.{call_of, later_call_of}
use Rattle.message.specs.Number.{decode_in, numbers_in}
use Rattle.state.specs.Point.{series_ok}
use Rattle.state.specs.Selection.{best}
use Rattle.state.specs.Valid.{opening_ok}
use Rattle.state.specs.Version.{held}
use Rattle.state.specs.Walk.{walk}
use Rattle.model.specs.Call.{Told, telling}
use Rattle.model.specs.Causes.{or_if, first_of, opens_ok, other_lengths, is_absent, not_check, refusal}
use Rattle.model.specs.Log.{differ, due}
use Rattle.model.specs.Plain.{versions_of, view_in, figure, answered, joined, plain_reply, plain_next, plain_replies, plain_end, worked_out, after}
use Rattle.model.specs.Sample.{room, file}
use Rattle.model.specs.Series.{to_side, from_side, sides_of, on_side, adds, energy, figure_of}
use Rattle.model.specs.Step.{status_answer}
use Rattle.replay.specs.Feeding.{lent_of, lengths_for, tells}
use Rattle.dispatch.specs.Asked.{asked}
use Rattle.replay.specs.Given.{given, given_in}
use Rattle.replay.specs.Replay.{numbers_of}
use Rattle.text.specs.Text.{decimal_in, signed_text, each_to}
use Rattle.output.specs.Example.{example_input, example_output}
use Rattle.output.specs.Output.{lent, found_in, told_in, answers_text, group_text, quarter_text, month_text, figures_text, selection_text, selections_text, end_text, text_of, output_of}

-- the calls that the reader finds are open, activate, submit, submit again
calls-read : map given (given_in (found_in example_input).calls) ≡ file
unfolding calls_within decode_in numbers_in received call_of later_call_of asked given_in file
calls-read = refl

file-ends : (found_in example_input).ending ≡ whole
unfolding calls_within decode_in numbers_in received
file-ends = refl

-- what the plain desk is told of them
told-file : tells lent [] file ≡ map (telling (room 1)) file
unfolding all any fold series_ok best opening_ok held walk or_if first_of opens_ok other_lengths is_absent not_check refusal differ due view_in joined plain_next file lent_of lengths_for tells worked_out after
told-file = refl

-- the lines of the answers, of the figures and of the selections
answers-text : answers_text (numbers_of (plain_replies [] (map (telling (room 1)) file))) ≡ take 17 example_output
unfolding all any fold series_ok best opening_ok held walk or_if first_of opens_ok other_lengths is_absent not_check refusal differ due view_in answered joined plain_reply plain_next plain_replies file status_answer decimal_in each_to answers_text worked_out after
answers-text = refl

figures-text : figures_text (plain_end [] (map (telling (room 1)) file)) ≡ take 48 (drop 17 example_output)
unfolding all any fold sum_to series_ok best opening_ok held walk or_if first_of opens_ok other_lengths is_absent not_check refusal differ due view_in figure joined plain_next plain_end file to_side from_side sides_of on_side adds energy figure_of status_answer decimal_in signed_text each_to group_text quarter_text month_text figures_text worked_out after
figures-text = refl

selections-text : selections_text (versions_of (plain_end [] (map (telling (room 1)) file))) ≡ drop 65 example_output
unfolding all any fold series_ok best opening_ok held walk or_if first_of opens_ok other_lengths is_absent not_check refusal differ due view_in joined plain_next plain_end file status_answer decimal_in each_to selection_text selections_text worked_out after
selections-text = refl

-- "Hexadecimal input: .. Output: .."
pub example : output_of example_input ≡ example_output
unfolding text_of
example =
    let t : told_in example_input ≡ map (telling (room 1)) file = ap (tells lent []) calls-read ∙ told-file in
    ap₂ (λ (x y : List ℕ). x ++ y) (ap (λ (l : List Told). answers_text (numbers_of (plain_replies [] l))) t ∙ answers-text)
    (ap₂ (λ (e : Ending) (l : List Told). end_text e (length example_input - length (found_in example_input).left) (plain_end [] l)) file-ends t ∙ ap₂ (λ (x y : List ℕ). x ++ y) figures-text selections-text)

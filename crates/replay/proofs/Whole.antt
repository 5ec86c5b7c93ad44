-- A file that was run is replayed: its calls have room for their answers, and what they leave is the plain desk's. Assumes nothing.
use Prim.Native.Nat.{ℕ, ◌≤◌}
use mathlib.Core.Path.{sym, ap, ◌∙◌, subst}
use mathlib.Core.List.{List, []}
use native.Mathlib.Nat.{min-le_left}
use lib.ListN.{length, length-take}
use Rattle.message.specs.File.{calls_in}
use Rattle.state.specs.declared.Desk.{Desk}
use Rattle.model.specs.Call.{Stores}
use Rattle.model.specs.Plain.{plain_end}
use Rattle.replay.specs.Given.{given_in}
use Rattle.replay.specs.Play.{Playing, starting}
use Rattle.replay.specs.Replay.{calls_for, told_of, Holding, Gives, Replays}
use Rattle.replay.specs.Run.{playing_of, Ran}
use Rattle.replay.specs.declared.Ending.{Ending}
use Rattle.replay.proofs.Main.{answered, holds, gives}

pub ran-replays : (file : List ℕ) (s : Stores) (series answers : List ℕ) (d : Desk) (after : Stores) (series' answers' : List ℕ) (n : ℕ) (e : Ending)
    → Ran file (starting s series answers) (playing_of d after series' answers' n) e
    → Replays file s series answers (record { answered = n; ending = e; desk = d }) after series' answers'
ran-replays file s series answers d after series' answers' n e R =
    let cs = calls_for file (length series) (length answers) in
    let same = R.played in
    let room : length cs ≤ length answers = rw (length-take (length answers) (given_in (calls_in (length series) file).calls)) (min-le_left (length answers) (length (given_in (calls_in (length series) file).calls))) in
    record {
      answered = ap (λ (p : Playing). p.answered) same ∙ answered s series answers cs;
      ending = R.ended;
      desk = subst (λ (p : Playing). Holding (plain_end [] (told_of s cs)) p.running.desk) (sym same) (holds s series answers cs);
      gives = subst (λ (p : Playing). Gives cs s series answers p.running.stores p.series p.answers) (sym same) (gives s series answers cs room);
    }

-- A replay gives and leaves what the plain desk does. Assumes nothing.
use Prim.Native.Nat.{ℕ, suc, ◌+◌, ◌≤◌}
use mathlib.Core.Path.{◌≡◌, refl, ap, ◌∙◌}
use mathlib.Core.List.{List, [], ◌∷◌, map}
use native.Mathlib.Nat.{zero-add}
use native.Mathlib.Omega.{arith}
use lib.ListN.{length, set}
use lib.Seq.{sets, sets-eq}
use Rattle.model.specs.Call.{Stores, lengths_of, Told, Reply, answer_number}
use Rattle.model.specs.Plain.{plain_next, plain_replies, plain_end}
use Rattle.replay.specs.Feeding.{told_as, tells}
use Rattle.replay.specs.Given.{Given, given}
use Rattle.replay.specs.Play.{Playing, played, play, starting}
use Rattle.replay.specs.Replay.{numbers_of, series_left, told_of, Holding, Gives}
use Rattle.replay.proofs.Ends.{going-holding, going-leaving}
use Rattle.replay.proofs.Going.{Going, unopened, same-reply}
use Rattle.replay.proofs.Steps.{kept}

-- the series buffer
series-left : (p : Playing) (cs : List Given) → (play p cs).series ≡ series_left p.series cs
unfolding play played series_left
series-left p [] = refl
series-left p (c ∷ cs) = series-left (played p c) cs

-- how many are answered
all-answered : (p : Playing) (cs : List Given) → (play p cs).answered ≡ p.answered + length cs
unfolding play played
all-answered p [] = omega arith
all-answered p (c ∷ cs) = all-answered (played p c) cs ∙ omega arith

module _ (s : Stores) where
  -- the plain desk's answers to calls of a file, and its list after them
  abbrev numbers : List Told → List Given → List ℕ
  numbers h cs = numbers_of (plain_replies h (tells (lengths_of s) h (map given cs)))

  abbrev ends : List Told → List Given → List Told
  ends h cs = plain_end h (tells (lengths_of s) h (map given cs))

  length-numbers : (h : List Told) (cs : List Given) → length (numbers h cs) ≡ length cs
  unfolding plain_replies tells
  length-numbers h [] = refl
  length-numbers h (c ∷ cs) = ap suc (length-numbers (plain_next h (told_as (lengths_of s) h (given c))) cs)

  -- one call after the other
  goes : (p : Playing) (h : List Told) (cs : List Given) → Going s p.running h
      → Going s (play p cs).running (ends h cs) × ((play p cs).answers ≡ sets p.answers p.answered (numbers h cs))
  unfolding play played plain_replies plain_end tells
  goes p h [] G = (G, refl)
  goes p h (c ∷ cs) G =
      let next = plain_next h (told_as (lengths_of s) h (given c)) in
      let rest = goes (played p c) next cs (kept s p.running h c G) in
      let one = same-reply s p.running h (given c) G in
      (rest.0, rest.1 ∙ ap (λ (x : Reply). sets (set p.answers p.answered (answer_number x.answer)) (suc p.answered) (numbers next cs)) one)

module _ (s : Stores) (series answers : List ℕ) (cs : List Given) where
  -- every call is answered
  pub answered : (play (starting s series answers) cs).answered ≡ length cs
  answered = all-answered (starting s series answers) cs ∙ zero-add (length cs)

  -- the desk is the plain desk's
  pub holds : Holding (plain_end [] (told_of s cs)) (play (starting s series answers) cs).running.desk
  holds = going-holding s (play (starting s series answers) cs).running (ends s [] cs) (goes s (starting s series answers) [] cs (unopened refl refl)).0

  -- and so is what the calls give and leave, where there is room for the answers
  pub gives : length cs ≤ length answers
      → Gives cs s series answers (play (starting s series answers) cs).running.stores (play (starting s series answers) cs).series (play (starting s series answers) cs).answers
  gives room =
      let p = starting s series answers in
      let whole = goes s p [] cs (unopened refl refl) in
      let long : length (numbers s [] cs) ≡ length cs = length-numbers s [] cs in
      record {
        answers = whole.1 ∙ sets-eq (numbers s [] cs) answers 0 (omega arith) ∙ rw zero-add;
        series = series-left p cs;
        stores = going-leaving s (play p cs).running (ends s [] cs) whole.0;
      }

-- The summary of a replay, with its tables. Assumes nothing.
use Prim.Native.Nat.{ℕ, suc, ◌+◌, ◌≤◌}
use mathlib.Core.Path.{◌≡◌, refl, sym, ap, ◌∙◌}
use mathlib.Core.Bool.{Bool, true, false, ◌&&◌, true≢false}
use mathlib.Core.List.{List, [], ◌∷◌, ◌++◌, map, append_assoc}
use native.Mathlib.Nat.{min-le_left}
use native.Mathlib.Omega.{arith}
use borrow.Author.Tests.{leb-true}
use lib.Dec.{leb}
use lib.ListN.{length, take, drop, length-append, length-take, length-map}
use lib.Seq.{take_at, drop_at, drop-drop, length-take-le}
use Rattle.quantity.proofs.Tests.{and-left, and-right}
use Rattle.book.specs.Row.{splice}
use Rattle.message.specs.File.{calls_in}
use Rattle.model.specs.Call.{Call, Stores, Lengths, lengths_of, Told, Reply, answer_number}
use Rattle.model.specs.Plain.{view_in, plain_replies, plain_next}
use Rattle.model.specs.View.{View}
use Rattle.replay.specs.Feeding.{told_as, tells}
use Rattle.replay.specs.Given.{Given, given, given_in}
use Rattle.replay.specs.Replay.{calls_for, told_of, numbers_of, over, Replays}
use Rattle.replay.specs.declared.Replayed.{Replayed}
use Rattle.host.specs.Replay.{ending_number, ending_offset, summary_places, fits, fitting, listed, Places, Summarised}
use Rattle.summary.specs.Table.{points_places, versions_places, point_table, version_table, refusals, first_refused}
use Rattle.summary.specs.declared.Refusals.{Refusals}

-- places that are enough
module _ (r p v : ℕ) {b : Bool} (e : b ≡ fits r p v) (t : b ≡ true) where
  all : fits r p v ≡ true
  all = sym e ∙ t

  rest : (leb points_places p && leb versions_places v) ≡ true
  rest = and-right (leb summary_places r) (leb points_places p && leb versions_places v) all

  pub summary-fits : summary_places ≤ r
  summary-fits = leb-true summary_places r (and-left (leb summary_places r) (leb points_places p && leb versions_places v) all)

  pub points-fit : points_places ≤ p
  points-fit = leb-true points_places p (and-left (leb points_places p) (leb versions_places v) rest)

  pub versions-fit : versions_places ≤ v
  versions-fit = leb-true versions_places v (and-right (leb points_places p) (leb versions_places v) rest)

-- one row put behind another is both in one
pub rows-put : (old first second mid new : List ℕ) (at m n : ℕ) → at ≤ length old → length first ≡ m → length second ≡ n → mid ≡ splice old at (length first) first → new ≡ splice mid (at + m) (length second) second
    → new ≡ splice old at (m + n) (first ++ second)
unfolding splice
rows-put old first second mid new at m n fits e f k l =
    let behind = drop m (drop at old) in
    let front : length (take at old ++ first) ≡ at + m = length-append (take at old) first ∙ omega (arith, length-take-le at old fits) in
    let mid-is : mid ≡ (take at old ++ first) ++ behind = k ∙ rw e (sym (append_assoc (take at old) first behind)) in
    l ∙ rw (mid-is, f, take_at (take at old ++ first) behind (at + m) front, drop_at (take at old ++ first) behind (at + m) front, drop-drop n m (drop at old)) (simp append_assoc)

-- the plain desk answers each call that it is told
replies : (n : Lengths) (h : List Told) (cs : List Call) → length (plain_replies h (tells n h cs)) ≡ length cs
unfolding plain_replies tells
replies n h [] = refl
replies n h (c ∷ cs) = ap suc (replies n (plain_next h (told_as n h c)) cs)

answers-told : (s : Stores) (cs : List Given) → length (numbers_of (plain_replies [] (told_of s cs))) ≡ length cs
answers-told s cs = length-map (plain_replies [] (told_of s cs)) (λ (r : Reply). answer_number r.answer) ∙ replies (lengths_of s) [] (map given cs) ∙ length-map cs given

module _ (file : List ℕ) (s : Stores) (buffer output : List ℕ) where
  -- places that are too few
  pub too-few : (p : Places) {b : Bool} {number : ℕ} → b ≡ fitting p → b ≡ false → number ≡ 2 → Summarised file s buffer output p number s buffer output p
  too-few p {b} e f n =
      record {
        short = λ _. record { answer = n; stores = refl; series = refl; answers = refl; places = refl };
        runs = λ t. absurd (true≢false (sym t ∙ sym e ∙ f));
      }

  module _ (r : Replayed) (after : Stores) (buffer' output' : List ℕ) (R : Replays file s buffer output r after buffer' output') where
    -- no more calls are answered than there is room for
    pub answered-fits : r.answered ≤ length output
    answered-fits =
        rw (R.answered, length-take (length output) (given_in (calls_in (length buffer) file).calls))
        (min-le_left (length output) (length (given_in (calls_in (length buffer) file).calls)))

    answered-are : take r.answered output' ≡ numbers_of (plain_replies [] (told_of s (calls_for file (length buffer) (length output))))
    answered-are =
        let cs = calls_for file (length buffer) (length output) in
        let l = numbers_of (plain_replies [] (told_of s cs)) in
        rw R.gives.answers (take_at l (drop (length l) output) r.answered (answers-told s cs ∙ sym R.answered))

    -- a replay with its summary and tables
    pub summarised : (p q : Places) {b : Bool} {number offset : ℕ} {refused : Refusals} → b ≡ fitting p → b ≡ true
        → offset ≡ ending_offset (length file) r.ending
        → (refused.count ≡ refusals (take r.answered output')) × (refused.first ≡ first_refused 1 (take r.answered output'))
        → q.summary ≡ over (listed r.answered offset r.desk.frame.opening.quarters r.desk.frame.used r.desk.frame.count refused.count refused.first r.desk.frame.day.0 r.desk.frame.closed r.desk.frame.issued r.desk.frame.groups) p.summary
        → q.points ≡ over (point_table r.desk.points (take r.desk.frame.count r.desk.versions)) p.points
        → q.versions ≡ over (version_table (take r.desk.frame.count r.desk.versions)) p.versions
        → number ≡ ending_number r.ending → Summarised file s buffer output p number after buffer' output' q
    unfolding view_in
    summarised p q e t o f summary points versions n =
        let held = R.desk.view in
        let quarters = ap (λ (v : View). v.frame.opening.quarters) held in
        let used = ap (λ (v : View). v.frame.used) held in
        let count = ap (λ (v : View). v.frame.count) held in
        let day = ap (λ (v : View). v.frame.day.0) held in
        let closed = ap (λ (v : View). v.frame.closed) held in
        let issued = ap (λ (v : View). v.frame.issued) held in
        let groups = ap (λ (v : View). v.frame.groups) held in
        let ps = ap (λ (v : View). v.points) held in
        let vs = ap (λ (v : View). v.versions) held in
        record {
          short = λ g. absurd (true≢false (sym t ∙ e ∙ g));
          runs = λ _. record {
            answer = n ∙ ap ending_number R.ending;
            summary = summary ∙ rw (o, f.0, f.1, answered-are, R.answered, R.ending, quarters, used, count, day, closed, issued) (cc);
            points = points ∙ rw (ps, vs);
            versions = versions ∙ rw vs;
            gives = R.gives;
          };
        }

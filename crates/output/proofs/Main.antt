-- The output of a replay in the program's stores is that of the file. Assumes nothing.
use Prim.Native.Nat.{ℕ, suc, ◌-◌, ◌*◌, ◌^◌, ◌≤◌, ◌<◌}
use mathlib.Core.Path.{◌≡◌, refl, sym, ap, ap₂, ◌∙◌, subst}
use mathlib.Core.List.{List, [], ◌∷◌, ◌++◌, map}
use native.Mathlib.Omega.{arith}
use borrow.Author.Tests.{le-leb, lt-ltb}
use lib.IntN.{ℤ, nat_abs}
use lib.ListN.{length, get_or, take, drop, length-map}
use lib.Seq.{length-take-le, take_all, take-append_seam}
use Rattle.quantity.specs.Limits.{runs, groups, points, most_energy}
use Rattle.quantity.specs.Sum.{sum_to}
use Rattle.quantity.specs.Word.{signed}
use Rattle.quantity.proofs.Sums.{sum-same}
use Rattle.quantity.proofs.Words.{signed-word, small-fits}
use Rattle.book.specs.Place.{group_row}
use Rattle.message.specs.File.{Ending, whole, stopped, Found, calls_in}
use Rattle.message.proofs.Files.{few-calls}
use Rattle.state.specs.Desk.{versions_in}
use Rattle.state.specs.declared.VersionRecord.{VersionRecord}
use Rattle.model.specs.Call.{Call, Stores, Lengths, lengths_of, Told}
use Rattle.model.specs.Plain.{opening_of, versions_of, view_in, figure, outside, plain_replies, plain_next, plain_end}
use Rattle.model.specs.View.{View, view_of}
use Rattle.replay.specs.Feeding.{told_as, tells}
use Rattle.replay.specs.Given.{Given, given, given_in}
use Rattle.replay.specs.Replay.{calls_for, told_of, ending_of, numbers_of, over, Leaving, Replays}
use Rattle.replay.proofs.Sendings.{given-few}
use Rattle.replay.specs.declared.Ending.{Ending as EndingOf}
use Rattle.replay.specs.declared.Replayed.{Replayed}
use Rattle.text.specs.Line.{total_line}
use Rattle.text.specs.Text.{each_to}
use Rattle.text.proofs.Texts.{each-same}
use Rattle.output.specs.Figures.{Summed, read_of}
use Rattle.output.specs.Fill.{most_calls}
use Rattle.output.specs.Parts.{Short, Sized, ended_text}
use Rattle.output.specs.Output.{file_size, series_size, program_quarters, lent, found_in, told_in, answers_text, group_text, quarter_text, month_text, figures_text, selections_text, end_text, text_of}
use Rattle.output.proofs.Answers.{answers-short}
use Rattle.output.proofs.Feeds.{few_quarters, outside-small}
use Rattle.output.proofs.Totals.{total-word}

-- ---- figures

quarter-same : (r q : ℕ) (f g : ℕ → ℤ) → ((i : ℕ) → 1 ≤ i → i ≤ groups → f i ≡ g i) → quarter_text r q f ≡ quarter_text r q g
unfolding quarter_text
quarter-same r q f g h =
    ap₂ (λ (s t : List ℕ). s ++ t)
    (each-same groups (λ (i : ℕ). group_text r q i (f i)) (λ (i : ℕ). group_text r q i (g i)) (λ i lo hi. ap (group_text r q i) (h i lo hi)))
    (ap (total_line r q) (sum-same groups f g (λ i lo hi. h i lo hi)))

-- the same figures, the same text
month-same : (n : ℕ) (f g : ℕ → ℕ → ℕ → ℤ) → ((r q i : ℕ) → 1 ≤ r → r ≤ runs → 1 ≤ q → q ≤ n → 1 ≤ i → i ≤ groups → f r q i ≡ g r q i) → month_text n f ≡ month_text n g
unfolding month_text
month-same n f g h =
    each-same runs (λ (r : ℕ). each_to n (λ (q : ℕ). quarter_text r q (f r q))) (λ (r : ℕ). each_to n (λ (q : ℕ). quarter_text r q (g r q)))
    (λ r a b. each-same n (λ (q : ℕ). quarter_text r q (f r q)) (λ (q : ℕ). quarter_text r q (g r q)) (λ q c d. quarter-same r q (f r q) (g r q) (λ i lo hi. h r q i a b c d lo hi)))

module _ (h : List Told) (s after : Stores) (L : Leaving h s after) where
  -- the figures of the book are the plain desk's
  book-text : month_text (opening_of h).quarters (read_of after.book (opening_of h).quarters) ≡ figures_text h
  unfolding figures_text
  book-text =
      month-same (opening_of h).quarters (read_of after.book (opening_of h).quarters) (λ (r q g : ℕ). figure h r (group_row g) (q - 1))
      (λ r q i a b c d lo hi. L.figures r (group_row i) (q - 1) a b (omega arith) (omega arith))

  -- and their sums do not wrap
  book-summed : ((run q : ℕ) → nat_abs (outside h run q) ≤ points * most_energy) → ((i : ℕ) → get_or after.book i 0 < 2 ^ 64) → Summed after.book (opening_of h).quarters
  book-summed small fits run quarter p =
      let q = (opening_of h).quarters in
      let z = sum_to groups (read_of after.book q run quarter) in
      let e : z ≡ outside h run (quarter - 1) = L.sum run (quarter - 1) p.low p.high (omega arith) in
      ap signed (total-word after.book q run quarter fits groups)
      ∙ signed-word z (small-fits z (omega (arith, small run (quarter - 1), ap nat_abs e)))

-- ---- answers

-- as many answers as calls
pub length-answers : (n : Lengths) (h : List Told) (cs : List Call) → length (numbers_of (plain_replies h (tells n h cs))) ≡ length cs
unfolding plain_replies tells
length-answers n h [] = refl
length-answers n h (c ∷ cs) = ap suc (length-answers n (plain_next h (told_as n h c)) cs)

-- ---- how it ends

-- with room for more answers than the file has calls, what stands behind the answers is by the file's ending
ended : (file : List ℕ) (f : Found) (most n : ℕ) (g : ℕ → ℕ → ℕ → ℤ) (vs : List VersionRecord) (h : List Told) → length f.calls < most → month_text n g ≡ figures_text h → vs ≡ versions_of h
    → ended_text (ending_of (length file) most f) n g vs ≡ end_text f.ending (length file - length f.left) h
ended file f most n g vs h room same held = by f.ending refl
  where
    by : (e : Ending) → f.ending ≡ e → ended_text (ending_of (length file) most f) n g vs ≡ end_text e (length file - length f.left) h
    by whole e = rw (e, le-leb (length f.calls) most (omega arith)) (ap₂ (λ (x y : List ℕ). x ++ y) same (ap selections_text held))
    by (stopped x) e = rw (e, lt-ltb (length f.calls) most room)

-- ---- a replay in the program's stores

module _ (file : List ℕ) (s : Stores) (buffer output : List ℕ) (r : Replayed) (after : Stores) (buffer' output' : List ℕ) where
  module _ (small : length file ≤ file_size) (Z : Sized s.values s.book s.log s.schedules buffer output) (R : Replays file s buffer output r after buffer' output') where
    few : length (found_in file).calls < length output
    few = omega (arith, few-calls series_size file small, Z.answers)

    -- every call is answered
    calls-all : calls_for file (length buffer) (length output) ≡ given_in (found_in file).calls
    calls-all = ap (λ (n : ℕ). calls_for file n (length output)) Z.series ∙ take_all (length output) (given_in (found_in file).calls) (omega (arith, few, given-few (found_in file).calls))

    lengths-are : lengths_of s ≡ lent
    lengths-are = λ i. record { values = Z.values i; book = Z.book i; log = Z.log i; schedules = Z.schedules i }

    told-all : told_of s (calls_for file (length buffer) (length output)) ≡ told_in file
    told-all = ap₂ (λ (n : Lengths) (cs : List Given). tells n [] (map given cs)) lengths-are calls-all

    -- the plain desk's list
    abbrev list : List Told
    list = plain_end [] (told_in file)

    leaving : Leaving list s after
    leaving = subst (λ (l : List Told). Leaving (plain_end [] l) s after) told-all R.gives.stores

    -- the month's quarter hours
    pub quarters-is : (view_of r.desk).frame.opening.quarters ≡ (opening_of list).quarters
    unfolding view_in
    quarters-is = ap (λ (v : View). v.frame.opening.quarters) R.desk.view ∙ ap (λ (l : List Told). (opening_of (plain_end [] l)).quarters) told-all

    pub quarters-few : (view_of r.desk).frame.opening.quarters ≤ program_quarters
    quarters-few = omega (arith, quarters-is, few_quarters (map given (given_in (found_in file).calls)))

    pub summed : ((i : ℕ) → get_or after.book i 0 < 2 ^ 64) → Summed after.book (view_of r.desk).frame.opening.quarters
    summed fits =
        rw quarters-is
        (book-summed list s after leaving (λ run q. outside-small lent (map given (given_in (found_in file).calls)) run q) fits)

    -- how many answers there are
    pub answered-few : r.answered ≤ most_calls
    answered-few = omega (arith, R.answered, ap (λ (l : List Given). length l) calls-all, few-calls series_size file small, given-few (found_in file).calls)

    module _ (long : length output' ≡ length output) where
      pub answers-within : r.answered ≤ length output'
      answers-within = omega (arith, answered-few, long, Z.answers)

      pub answers-long : length (take r.answered output') ≡ r.answered
      answers-long = length-take-le r.answered output' answers-within

    pub answers-are : take r.answered output' ≡ numbers_of (plain_replies [] (told_in file))
    answers-are =
        let l = numbers_of (plain_replies [] (told_in file)) in
        let n : r.answered ≡ length l = R.answered ∙ ap (λ (x : List Given). length x) calls-all ∙ sym (length-map (given_in (found_in file).calls) given) ∙ sym (length-answers lent [] (map given (given_in (found_in file).calls))) in
        ap₂ take n (R.gives.answers ∙ ap (λ (x : List Told). over (numbers_of (plain_replies [] x)) output) told-all)
        ∙ take-append_seam l (drop (length l) output)

    pub short : Short (take r.answered output') (length (take r.answered output'))
    short i less = rw answers-are (answers-short (plain_replies [] (told_in file)) i)

    ending-is : r.ending ≡ ending_of (length file) (length output) (found_in file)
    ending-is = R.ending ∙ ap (λ (n : ℕ). ending_of (length file) (length output) (calls_in n file)) Z.series

    versions-are : versions_in r.desk ≡ versions_of list
    unfolding view_in
    versions-are = ap (λ (v : View). v.versions) R.desk.view ∙ ap (λ (l : List Told). versions_of (plain_end [] l)) told-all

    -- the whole output
    pub text-is : answers_text (take r.answered output') ++ ended_text r.ending (view_of r.desk).frame.opening.quarters (read_of after.book (view_of r.desk).frame.opening.quarters) (versions_in r.desk) ≡ text_of file
    unfolding text_of
    text-is =
        let n = (view_of r.desk).frame.opening.quarters in
        ap₂ (λ (x y : List ℕ). x ++ y) (ap answers_text answers-are)
        (ap (λ (e : EndingOf). ended_text e n (read_of after.book n) (versions_in r.desk)) ending-is
        ∙ ended file (found_in file) (length output) n (read_of after.book n) (versions_in r.desk) list few
        (ap (λ (q : ℕ). month_text q (read_of after.book q)) quarters-is ∙ book-text list s after leaving) versions-are)

-- The output is the lines that are due, each once, in the papers' order. Assumes nothing.
use Prim.Native.Nat.{ℕ, suc, ◌-◌, ◌≤◌, ◌<◌}
use mathlib.Core.Path.{◌≡◌, refl, sym, ap, ap₂, subst, ◌∙◌}
use mathlib.Core.Bool.{Bool, true, false, cond, true≢false}
use mathlib.Core.Logic.{◌⊎◌, inl, inr, ⊎_elim}
use mathlib.Core.List.{List, [], ◌∷◌, ◌++◌, map}
use native.Mathlib.Decide.{dec_le}
use native.Mathlib.Omega.{arith}
use borrow.Author.Tests.{eqb-true, eq-eqb, le-leb, lt-leb}
use lib.Dec.{eqb, leb}
use lib.IntN.{ℤ, pos, negsuc, nat_abs}
use lib.ListN.{length, get_or, take, drop, length-map}
use lib.Seq.{take-append_seam, drop_at}
use Rattle.quantity.specs.Meaning.{Between}
use Rattle.quantity.specs.Sum.{sum_to}
use Rattle.quantity.proofs.Tests.{by-test, within-low}
use Rattle.state.specs.Selection.{best, selected}
use Rattle.state.specs.Status.{status_number}
use Rattle.state.specs.Walk.{walk}
use Rattle.state.specs.declared.Selection.{Selection}
use Rattle.state.specs.declared.Selection.TheVariants.{None, Selected}
use Rattle.state.specs.declared.VersionRecord.{VersionRecord}
use Rattle.state.specs.declared.VersionRow.{VersionRow}
use Rattle.message.specs.Call.{Sent, is_kind}
use Rattle.message.specs.Cause.{cause_number}
use Rattle.message.specs.File.{Ending, whole, stopped, CarriedAll, calls_in, verdict_of, offset_of}
use Rattle.message.specs.Named.{call_of, later_call_of}
use Rattle.message.specs.declared.FileCause.{FileCause}
use Rattle.std.specs.Prelude.{Some}
use Rattle.message.specs.declared.DeskCall.{DeskCall}
use Rattle.message.proofs.ByKind.{each-kind}
use Rattle.message.proofs.Files.{read-carried}
use Rattle.message.proofs.Theorems.{answers}
use Rattle.model.specs.Call.{Told}
use Rattle.model.specs.Plain.{opening_of, versions_of, figure, plain_replies}
use Rattle.replay.specs.Given.{given, given_in}
use Rattle.replay.specs.Replay.{numbers_of, over}
use Rattle.text.specs.Laws.{Line, answer, refusal, group, total, chosen}
use Rattle.text.specs.Line.{answer_line, refusal_line, group_line}
use Rattle.text.specs.Text.{each_to}
use Rattle.text.proofs.Lines.{answer-shows, refusal-shows, group-shows, total-shows, selection-shows}
use Rattle.output.specs.Fill.{most, Fills}
use Rattle.output.specs.Laws.{place_of, Earlier, Printed, file_of, calls_of, told_of, accepted_of, refused_by, Due, Buffered}
use Rattle.std.specs.Prelude.{Option, Some, None as NoLength}
use Rattle.output.specs.Output.{lent, answers_text, group_text, quarter_text, month_text, figures_text, selection_text, selections_text, end_text, text_of, output_of}
use Rattle.output.proofs.Feeds.{none-held}
use Rattle.output.proofs.Lines.{both, no-line, one-line, Begins, before, each-line}
use Rattle.output.proofs.Main.{length-answers}

-- ---- the answers

-- a line for each answer
abbrev Answers : List ℕ → Line → Type 0
Answers l x = (n : ℕ) × Between 1 (length l) n × (x ≡ answer n (get_or l (n - 1) 0))

pub answers-printed : (l : List ℕ) → Printed (Answers l) (answers_text l)
unfolding answers_text
answers-printed l =
    each-line (1 ∷ []) (λ (n : ℕ) (x : Line). x ≡ answer n (get_or l (n - 1) 0)) (λ (n : ℕ). answer_line n (get_or l (n - 1) 0)) (length l)
    (λ n b. one-line (answer n (get_or l (n - 1) 0)) _ (answer-shows n (get_or l (n - 1) 0)) refl (λ y e. e))
    (λ n x b e. ([], ap place_of e))

-- ---- the figures

-- a group's line, where its figure is not 0
abbrev Figure : (run quarter group : ℕ) → ℤ → Line → Type 0
Figure r q g v x = (x ≡ group r q g v) × (v ≡ pos 0 → ⊥)

nought : (v : ℤ) → nat_abs v ≡ 0 → v ≡ pos 0
nought (pos n) e = ap pos e
nought (negsuc n) e = absurd (omega arith)

group-printed : (r q g : ℕ) (v : ℤ) → Printed (Figure r q g v) (group_text r q g v)
unfolding group_text
group-printed r q g v = by (eqb (nat_abs v) 0) refl
  where
    by : (t : Bool) → eqb (nat_abs v) 0 ≡ t → Printed (Figure r q g v) (cond t [] (group_line r q g v))
    by true e = no-line (λ x p. p.1 (nought v (eqb-true (nat_abs v) 0 e)))
    by false e =
        one-line (group r q g v) (group_line r q g v) (group-shows r q g v)
        (refl, λ z. true≢false (sym (eq-eqb (nat_abs v) 0 (ap nat_abs z)) ∙ e))
        (λ y p. p.0)

-- the lines of a run and quarter hour: its groups', and that of their sum
abbrev InQuarter : (run quarter : ℕ) → (ℕ → ℤ) → Line → Type 0
InQuarter r q f x = ((g : ℕ) × Between 1 64 g × Figure r q g (f g) x) ⊎ (x ≡ total r q (sum_to 64 f))

quarter-printed : (r q : ℕ) (f : ℕ → ℤ) → Printed (InQuarter r q f) (quarter_text r q f)
unfolding quarter_text
quarter-printed r q f =
    both
    (each-line (2 ∷ r ∷ q ∷ []) (λ (g : ℕ). Figure r q g (f g)) (λ (g : ℕ). group_text r q g (f g)) 64
    (λ g b. group-printed r q g (f g))
    (λ g x b p. ([], ap place_of p.0)))
    (one-line (total r q (sum_to 64 f)) _ (total-shows r q (sum_to 64 f)) refl (λ y e. e))
    (λ x y p e. before (2 ∷ r ∷ q ∷ []) x y (omega (arith, p.1)) ([], ap place_of p.2.0) ([], ap place_of e))
    (λ x s. s)
    (λ x s. s)

quarter-begins : (r q : ℕ) (f : ℕ → ℤ) (x : Line) → InQuarter r q f x → Begins (2 ∷ r ∷ q ∷ []) x
quarter-begins r q f x = ⊎_elim (λ p. (p.0 ∷ [], ap place_of p.2.0)) (λ e. (65 ∷ [], ap place_of e))

-- those of both runs and every quarter hour
abbrev InMonth : List Told → Line → Type 0
InMonth h x =
    (r : ℕ) × Between 1 2 r × ((q : ℕ) × Between 1 (opening_of h).quarters q × InQuarter r q (λ (g : ℕ). figure h r (g - 1) (q - 1)) x)

pub figures-printed : (h : List Told) → Printed (InMonth h) (figures_text h)
unfolding figures_text month_text
figures-printed h =
    each-line (2 ∷ []) (λ (r : ℕ) (x : Line). (q : ℕ) × Between 1 n q × InQuarter r q (f r q) x) (λ (r : ℕ). each_to n (λ (q : ℕ). quarter_text r q (f r q))) 2
    (λ r b. each-line (2 ∷ r ∷ []) (λ (q : ℕ). InQuarter r q (f r q)) (λ (q : ℕ). quarter_text r q (f r q)) n
    (λ q c. quarter-printed r q (f r q))
    (λ q x c. quarter-begins r q (f r q) x))
    (λ r x b p. let k = quarter-begins r p.0 (f r p.0) x p.2 in (p.0 ∷ k.0, k.1))
  where
    n : ℕ
    n = (opening_of h).quarters

    f : ℕ → ℕ → ℕ → ℤ
    f r q g = figure h r (g - 1) (q - 1)

-- ---- the selections

-- a point's line, where it has a selection
abbrev Chosen : (run point : ℕ) → Selection → Line → Type 0
Chosen r p s x = (v : VersionRow) × (s ≡ Selected v) × (x ≡ chosen r p v.version.0 (status_number v.status))

selection-printed : (r p : ℕ) (s : Selection) → Printed (Chosen r p s) (selection_text r p s)
unfolding selection_text
selection-printed r p None = no-line (λ x c. let e : None ≡ Selected c.0 = c.1 in let z : ◌≡◌ {A = ℕ} 0 1 = cc in omega arith)
selection-printed r p (Selected v) =
    one-line (chosen r p v.version.0 (status_number v.status)) _ (selection-shows r p v.version.0 (status_number v.status))
    (v, refl, refl)
    (λ y c. let e : Selected v ≡ Selected c.0 = c.1 in let w : c.0 ≡ v = cc in c.2 ∙ ap (λ (u : VersionRow). chosen r p u.version.0 (status_number u.status)) w)

-- those of both runs and every point
abbrev InRuns : List VersionRecord → Line → Type 0
InRuns vs x = (r : ℕ) × Between 1 2 r × ((p : ℕ) × Between 1 256 p × Chosen r p (selected r p vs) x)

pub selections-printed : (vs : List VersionRecord) → Printed (InRuns vs) (selections_text vs)
unfolding selections_text
selections-printed vs =
    each-line (3 ∷ []) (λ (r : ℕ) (x : Line). (p : ℕ) × Between 1 256 p × Chosen r p (selected r p vs) x) (λ (r : ℕ). each_to 256 (λ (p : ℕ). selection_text r p (selected r p vs))) 2
    (λ r b. each-line (3 ∷ r ∷ []) (λ (p : ℕ). Chosen r p (selected r p vs)) (λ (p : ℕ). selection_text r p (selected r p vs)) 256
    (λ p c. selection-printed r p (selected r p vs))
    (λ p x c d. ([], ap place_of d.2)))
    (λ r x b p. (p.0 ∷ [], ap place_of p.2.2))

-- ---- the whole output

-- a call of each kind has a name
named : (k : ℕ) → is_kind k ≡ true → (f : List ℕ) → (d : DeskCall) × (call_of k f ≡ Some d)
unfolding call_of later_call_of
named =
    each-kind (λ (k : ℕ). (f : List ℕ) → (d : DeskCall) × (call_of k f ≡ Some d))
    (λ f. (_, refl)) (λ f. (_, refl)) (λ f. (_, refl)) (λ f. (_, refl)) (λ f. (_, refl)) (λ f. (_, refl)) (λ f. (_, refl)) (λ f. (_, refl))

given-all : (cs : List Sent) → CarriedAll cs → length (given_in cs) ≡ length cs
unfolding given_in
given-all [] w = refl
given-all (c ∷ cs) (CarriedAll.one w ws) = rw (named c.kind w.known _).1 (ap suc (given-all cs ws))

-- without a version nothing is selected
none-of-none : (r p : ℕ) (v : VersionRow) → selected r p [] ≡ Selected v → ⊥
unfolding best walk
none-of-none r p v = by-test (λ (s : Selection). s ≡ Selected v → ⊥) (eqb r 1) None None (λ _. never) (λ _. never)
  where
    never : None ≡ Selected v → ⊥
    never e = let z : ◌≡◌ {A = ℕ} 0 1 = cc in omega arith

module _ (input : List ℕ) where
  -- the answers, and the accepted calls
  abbrev replies : List ℕ
  replies = numbers_of (plain_replies [] (told_of input))

  abbrev list : List Told
  list = accepted_of input

  -- an answer for each call
  replies-all : length replies ≡ length (calls_of input)
  replies-all =
      let cs = calls_of input in
      length-answers lent [] (map given (given_in cs)) ∙ length-map (given_in cs) given ∙ given-all cs (read-carried 2980 (file_of input))

  answers-due : (x : Line) → Answers replies x → Due input x
  answers-due x p = subst (Due input) (sym p.2) (omega (arith, p.1, replies-all), refl)

  due-answers : (n a : ℕ) → Due input (answer n a) → Answers replies (answer n a)
  due-answers n a d = (n, omega (arith, d.0, replies-all), ap (answer n) (sym d.1))

  -- behind the answers
  answers-first : (a : ℕ) (x y : Line) → 1 < a → Answers replies x → Begins (a ∷ []) y → Earlier (place_of x) (place_of y)
  answers-first a x y h p b = before [] x y h (p.0 ∷ [], ap place_of p.2) b

  month-begins : (x : Line) → InMonth list x → Begins (2 ∷ []) x
  month-begins x p = let k = quarter-begins p.0 p.2.0 _ x p.2.2 in (p.0 ∷ p.2.0 ∷ k.0, k.1)

  runs-begin : (x : Line) → InRuns (versions_of list) x → Begins (3 ∷ []) x
  runs-begin x p = (p.0 ∷ p.2.0 ∷ [], ap place_of p.2.2.2)

  -- a desk with a selection is open
  selected-open : (r p : ℕ) (v : VersionRow) → selected r p (versions_of list) ≡ Selected v → 1 ≤ (opening_of list).quarters
  selected-open r p v e = by (dec_le 1 (opening_of list).quarters)
    where
      by : Dec (1 ≤ (opening_of list).quarters) → 1 ≤ (opening_of list).quarters
      by (yes h) = h
      by (no g) = absurd (none-of-none r p v (ap (selected r p) (sym (none-held (map given (given_in (calls_of input))) (omega arith))) ∙ e))

  module _ (e : (calls_in 2980 (file_of input)).ending ≡ whole) where
    not-refused : refused_by input ≡ 0
    not-refused = rw e

    month-due : (x : Line) → InMonth list x → Due input x
    month-due x (r, b, (q, c, inl (g, d, (p, n)))) = subst (Due input) (sym p) (not-refused, b, c, d, refl, n)
    month-due x (r, b, (q, c, inr p)) = subst (Due input) (sym p) (not-refused, b, c, refl)

    runs-due : (x : Line) → InRuns (versions_of list) x → Due input x
    runs-due x (r, b, (p, c, (v, s, d))) = subst (Due input) (sym d) (not-refused, b, c, selected-open r p v s, (v, s, refl, refl))

    due-whole : (x : Line) → Due input x → Answers replies x ⊎ (InMonth list x ⊎ InRuns (versions_of list) x)
    due-whole (answer n a) d = inl (due-answers n a d)
    due-whole (refusal n o) d = absurd (omega (arith, d.0, d.1, not-refused))
    due-whole (group r q g v) d = inr (inl (r, d.1, (q, d.2, inl (g, d.3, (ap (group r q g) (sym d.4), λ z. d.5 (sym d.4 ∙ z))))))
    due-whole (total r q v) d = inr (inl (r, d.1, (q, d.2, inr (ap (total r q) (sym d.3)))))
    due-whole (chosen r p x s) d = inr (inr (r, d.1, (p, d.2, (d.4.0, d.4.1, ap₂ (chosen r p) (sym d.4.2) (sym d.4.3)))))

    -- answers, figures, selections
    whole-printed : Printed (Due input) (answers_text replies ++ (figures_text list ++ selections_text (versions_of list)))
    whole-printed =
        both (answers-printed replies)
        (both (figures-printed list) (selections-printed (versions_of list)) (λ x y p q. before [] x y (omega arith) (month-begins x p) (runs-begin y q)) (λ x s. s) (λ x s. s))
        (λ x y p. ⊎_elim (λ q. answers-first 2 x y (omega arith) p (month-begins y q)) (λ q. answers-first 3 x y (omega arith) p (runs-begin y q)))
        (λ x. ⊎_elim (answers-due x) (⊎_elim (month-due x) (runs-due x)))
        due-whole

  module _ (c : FileCause) (e : (calls_in 2980 (file_of input)).ending ≡ stopped c) where
    abbrev offset : ℕ
    offset = length (file_of input) - length (calls_in 2980 (file_of input)).left

    refused-so : refused_by input ≡ cause_number c
    refused-so = rw e

    offset-so : offset_of (verdict_of (file_of input)) ≡ offset
    offset-so = rw e

    -- a cause has a number
    numbered : 31 ≤ cause_number c
    numbered = within-low 31 35 (cause_number c) (answers c)

    due-stopped : (x : Line) → Due input x → Answers replies x ⊎ (x ≡ refusal (cause_number c) offset)
    due-stopped (answer n a) d = inl (due-answers n a d)
    due-stopped (refusal n o) d = inr (ap₂ refusal (sym d.1 ∙ refused-so) (sym d.2 ∙ offset-so))
    due-stopped (group r q g v) d = absurd (omega (arith, d.0, refused-so, numbered))
    due-stopped (total r q v) d = absurd (omega (arith, d.0, refused-so, numbered))
    due-stopped (chosen r p x s) d = absurd (omega (arith, d.0, refused-so, numbered))

    -- answers, the refusal
    stopped-printed : Printed (Due input) (answers_text replies ++ refusal_line (cause_number c) offset)
    stopped-printed =
        both (answers-printed replies)
        (one-line (refusal (cause_number c) offset) _ (refusal-shows (cause_number c) offset) refl (λ y z. z))
        (λ x y p z. answers-first 2 x y (omega arith) p ([], ap place_of z))
        (λ x. ⊎_elim (answers-due x) (λ z. subst (Due input) (sym z) (omega (arith, numbered), refused-so, offset-so)))
        due-stopped

  -- "It prints ..": the output is the lines that are due, each once, in their order
  pub output-printed : Printed (Due input) (output_of input)
  unfolding text_of
  output-printed = by (calls_in 2980 (file_of input)).ending refl
    where
      by : (w : Ending) → (calls_in 2980 (file_of input)).ending ≡ w
          → Printed (Due input) (answers_text replies ++ end_text w (length (file_of input) - length (calls_in 2980 (file_of input)).left) list)
      by whole e = whole-printed e
      by (stopped c) e = stopped-printed c e

-- so a buffer that was filled has them
pub fills-printed : (input before after : List ℕ) (r : Option ℕ) → Fills input before after r → Buffered input before after r
fills-printed input before after r F = record { enough = enough; small = small }
  where
    enough : 330781 ≤ length before → (n : ℕ) × (r ≡ Some n) × Printed (Due input) (take n after) × (drop n after ≡ drop n before)
    enough h =
        let t : leb most (length before) ≡ true = le-leb most (length before) h in
        let o = output_of input in
        let all : after ≡ over o before = rw t at F.buffer in
        (length o, rw t at F.answer, rw (all, take-append_seam o (drop (length o) before)) (output-printed input), rw (all, drop_at o (drop (length o) before) (length o) refl))

    small : length before < 330781 → (r ≡ NoLength) × (after ≡ before)
    small h = let t : leb most (length before) ≡ false = lt-leb most (length before) h in (rw t at F.answer, rw t at F.buffer)

-- What stays true of the plain desk's list as it is fed the calls of a file, with the program's store lengths: Q is at most 8, every energy is in
-- range, and without an opening there is no version. Assumes nothing.
use Prim.Native.Nat.{ℕ, ◌*◌, ◌≤◌, ◌<◌}
use mathlib.Core.Path.{◌≡◌, refl, sym, ap, ◌∙◌}
use mathlib.Core.Bool.{Bool, true, false, cond, not, true≢false}
use mathlib.Core.List.{List, [], ◌∷◌}
use native.Mathlib.Omega.{arith}
use borrow.Author.Tests.{eqb-true, leb-true, not-false}
use lib.Dec.{leb, eqb}
use lib.IntN.{ℤ, pos, nat_abs}
use lib.ListN.{length, get_or}
use Rattle.std.specs.Prelude.{Ok, Err}
use Rattle.quantity.specs.Limits.{points, most_energy, book_rows, quarters_ok, deadlines_ok, point_ok, version_ok, day_ok, energy_ok}
use Rattle.quantity.specs.Lists.{all, fold}
use Rattle.quantity.proofs.Lists.{all-at}
use Rattle.quantity.proofs.Sums.{sum-small}
use Rattle.quantity.proofs.Tests.{and-left, and-right, by-test}
use Rattle.state.specs.Desk.{is_open}
use Rattle.state.specs.Point.{point_at}
use Rattle.state.specs.Selection.{best, selected}
use Rattle.state.specs.Valid.{opening_ok}
use Rattle.state.specs.Walk.{walk}
use Rattle.state.specs.declared.Selection.{Selection}
use Rattle.state.specs.declared.Selection.TheVariants.{None, Selected}
use Rattle.model.specs.Call.{Call, opens, activates, deactivates, submits, notices, assigns, shows, asks, closes, issues, lodges, reports, Lengths, Told, answer_number}
use Rattle.model.specs.Causes.{opening_by, opens_ok, or_if, first_of, rules, refusal, Ruling}
use Rattle.model.specs.Plain.{opening_of, points_of, versions_of, energies_of, view_in, outside, answered, joined, plain_reply, plain_next, plain_end, worked_out, after}
use Rattle.model.specs.Series.{energy, is_outside, outside_of}
use Rattle.model.proofs.Invariant.{quarters-in}
use Rattle.model.proofs.Lists.{all-snoc}
use Rattle.model.proofs.Rules.{passed}
use Rattle.replay.specs.Feeding.{lent_of, lengths_for, told_as, tells}
use Rattle.text.specs.Text.{each_to}
use Rattle.output.specs.Output.{program_quarters, lent, selection_text, selections_text}

-- a call that is refused leaves the list
joins : (P : List Told → Type 0) (h : List Told) (t : Told) → P h → (refusal (view_in h) t ≡ Ok tt → P (t ∷ h)) → P (plain_next h t)
unfolding plain_next joined
joins P h t p f = by (refusal (view_in h) t) refl
  where
    by : (v : Ruling) → refusal (view_in h) t ≡ v → P (joined v h t)
    by (Ok tt) e = f e
    by (Err x) e = p

-- what each accepted call keeps stands at the end
module _ (P : List Told → Type 0) (n : Lengths) (next : (h : List Told) (c : Call) → P h → refusal (view_in h) (told_as n h c) ≡ Ok tt → P (told_as n h c ∷ h)) where
  kept : (h : List Told) (cs : List Call) → P h → P (plain_end h (tells n h cs))
  unfolding tells plain_end
  kept h [] p = p
  kept h (c ∷ cs) p = kept (plain_next h (told_as n h c)) cs (joins P h (told_as n h c) p (next h c p))

-- ---- "treats Q > 8 as cause 4"

-- of 162 × 8 figures an opening that is taken has 162 × Q
within : (q : ℕ) → lent_of book_rows lent.book q ≡ book_rows * q → q ≤ program_quarters
unfolding lent_of
within q e = by (leb (book_rows * q) lent.book) refl
  where
    by : (t : Bool) → leb (book_rows * q) lent.book ≡ t → q ≤ program_quarters
    by true z = omega (arith, leb-true (book_rows * q) lent.book z)
    by false z = let w : lent.book ≡ book_rows * q = rw z at e in omega arith

-- an opening that is taken has at most 8 quarter hours
taken-few : (m q f c k : ℕ) (gs : List ℕ) → opens_ok (opening_by q f c k (lengths_for lent m (opens q f c k gs))) gs ≡ true → q ≤ program_quarters
unfolding opens_ok opening_ok lengths_for
taken-few m q f c k gs e =
    within q
    (eqb-true _ _ (and-left _ _ (and-right (deadlines_ok f c k) _ (and-right (quarters_ok q) _ (and-left _ _ e)))))

-- the month's quarter hours
abbrev Few : List Told → Type 0
Few h = (opening_of h).quarters ≤ program_quarters

few-next : (h : List Told) (c : Call) → Few h → refusal (view_in h) (told_as lent h c) ≡ Ok tt → Few (told_as lent h c ∷ h)
unfolding refusal worked_out after fold
few-next h (opens q f c k gs) p e = taken-few (opening_of h).quarters q f c k gs (not-false _ (passed (rules (view_in h) _ (opens q f c k gs)) e).1.0)
few-next h (activates x k a b d) p e = p
few-next h (deactivates x d) p e = p
few-next h (submits x v d es) p e = p
few-next h (notices x v y d) p e = p
few-next h (assigns a g d) p e = p
few-next h (shows r g) p e = p
few-next h (asks x v) p e = p
few-next h (closes r d) p e = p
few-next h (issues r d) p e = p
few-next h (lodges g d es) p e = p
few-next h (reports r g) p e = p

pub few_quarters : (cs : List Call) → (opening_of (plain_end [] (tells lent [] cs))).quarters ≤ program_quarters
unfolding worked_out after fold
few_quarters cs = kept Few lent few-next [] cs (omega arith)

-- "treats Q > 8 as cause 4", after 6: an opening with more than 8 quarter hours is answered 6 on an open desk, else 4
pub nine-quarters : (h : List Told) (q f c k : ℕ) (gs : List ℕ) → program_quarters < q
    → answer_number (plain_reply h (told_as lent h (opens q f c k gs))).answer ≡ cond (is_open (opening_of h)) 6 4
unfolding plain_reply answered refusal first_of fold or_if view_in
nine-quarters h q f c k gs more = by (is_open (opening_of h)) refl (opens_ok (opening_by q f c k n) gs) refl
  where
    n : Lengths
    n = lengths_for lent (opening_of h).quarters (opens q f c k gs)

    by : (o : Bool) → is_open (opening_of h) ≡ o → (t : Bool) → opens_ok (opening_by q f c k n) gs ≡ t
        → answer_number (plain_reply h (told_as lent h (opens q f c k gs))).answer ≡ cond o 6 4
    by true e t z = rw e
    by false e true z = absurd (omega (arith, taken-few (opening_of h).quarters q f c k gs z))
    by false e false z = rw (e, z)

-- ---- energies

-- every energy of an accepted submission is in range
abbrev Fit : List Told → Type 0
Fit h = all (all energy_ok) (energies_of h) ≡ true

fit-next : (n : Lengths) (h : List Told) (c : Call) → Fit h → refusal (view_in h) (told_as n h c) ≡ Ok tt → Fit (told_as n h c ∷ h)
unfolding refusal worked_out after fold
fit-next n h (opens q f c k gs) p e = p
fit-next n h (activates x k a b d) p e = p
fit-next n h (deactivates x d) p e = p
fit-next n h (submits x v d es) p e =
    let ok = not-false _ (passed (rules (view_in h) _ (submits x v d es)) e).1.1.0 in
    all-snoc (all energy_ok) (energies_of h) es p (and-right (eqb (length es) (view_in h).frame.opening.quarters) _ (and-right (day_ok d) _ (and-right (version_ok v) _ (and-right (point_ok x) _ ok))))
fit-next n h (notices x v y d) p e = p
fit-next n h (assigns a g d) p e = p
fit-next n h (shows r g) p e = p
fit-next n h (asks x v) p e = p
fit-next n h (closes r d) p e = p
fit-next n h (issues r d) p e = p
fit-next n h (lodges g d es) p e = p
fit-next n h (reports r g) p e = p

fit-energies : (n : Lengths) (cs : List Call) → Fit (plain_end [] (tells n [] cs))
unfolding all worked_out after fold
fit-energies n cs = kept Fit n (fit-next n) [] cs refl

energy-small : (es : List (List ℤ)) → all (all energy_ok) es ≡ true → (s : Selection) (q : ℕ) → nat_abs (energy es s q) ≤ most_energy
unfolding energy all
energy-small es ok None q = omega arith
energy-small es ok (Selected r) q =
    leb-true (nat_abs (get_or (get_or es r.at []) q (pos 0))) most_energy
    (all-at energy_ok (get_or es r.at []) q (pos 0) refl (all-at (all energy_ok) es r.at [] refl ok))

-- the outside exchange is a sum of at most 256 energies
pub outside-small : (n : Lengths) (cs : List Call) (run q : ℕ) → nat_abs (outside (plain_end [] (tells n [] cs)) run q) ≤ points * most_energy
unfolding outside outside_of
outside-small n cs run q =
    let h = plain_end [] (tells n [] cs) in
    sum-small most_energy points (λ (p : ℕ). cond (is_outside (point_at (points_of h) p)) (energy (energies_of h) (selected run p (versions_of h)) q) (pos 0))
    (λ p lo hi. by-test (λ (z : ℤ). nat_abs z ≤ most_energy) (is_outside (point_at (points_of h) p)) (energy (energies_of h) (selected run p (versions_of h)) q) (pos 0)
    (λ _. energy-small (energies_of h) (fit-energies n cs) (selected run p (versions_of h)) q)
    (λ _. omega arith))

-- ---- a desk that is not open prints no selection

-- it holds no version
abbrev Bare : List Told → Type 0
Bare h = (opening_of h).quarters ≡ 0 → versions_of h ≡ []

-- where a call is accepted that needs an open desk
opened : {A : Type 0} (h : List Told) → not (is_open (opening_of h)) ≡ false → (opening_of h).quarters ≡ 0 → A
opened h e z = let shut : is_open (opening_of h) ≡ false = rw z in absurd (true≢false (sym (not-false _ e) ∙ shut))

bare-next : (h : List Told) (c : Call) → Bare h → refusal (view_in h) (told_as lent h c) ≡ Ok tt → Bare (told_as lent h c ∷ h)
unfolding refusal view_in worked_out after fold opens_ok
bare-next h (opens q f c k gs) p e =
    let n = lengths_for lent (opening_of h).quarters (opens q f c k gs) in
    let ok : opens_ok (opening_by q f c k n) gs ≡ true = not-false _ (passed (rules (view_in h) n (opens q f c k gs)) e).1.0 in
    λ z. absurd (omega (arith, z, quarters-in (opening_by q f c k n) (and-left _ _ ok)))
bare-next h (activates x k a b d) p e = p
bare-next h (deactivates x d) p e = p
bare-next h (submits x v d es) p e = λ z. opened h (passed (rules (view_in h) _ (submits x v d es)) e).0 z
bare-next h (notices x v y d) p e = λ z. opened h (passed (rules (view_in h) _ (notices x v y d)) e).0 z
bare-next h (assigns a g d) p e = p
bare-next h (shows r g) p e = p
bare-next h (asks x v) p e = p
bare-next h (closes r d) p e = λ z. opened h (passed (rules (view_in h) (told_as lent h (closes r d)).lengths (closes r d)) e).0 z
bare-next h (issues r d) p e = λ z. opened h (passed (rules (view_in h) (told_as lent h (issues r d)).lengths (issues r d)) e).0 z
bare-next h (lodges g d es) p e = p
bare-next h (reports r g) p e = p

-- a desk that is not open holds no version
pub none-held : (cs : List Call) → (opening_of (plain_end [] (tells lent [] cs))).quarters ≡ 0 → versions_of (plain_end [] (tells lent [] cs)) ≡ []
unfolding worked_out
none-held cs = kept Bare lent bare-next [] cs (λ _. refl)

none-selected : selections_text [] ≡ []
unfolding best walk each_to selection_text selections_text
none-selected = refl

-- "for points with a selection": there is none on a desk that is not open
pub not-open-silent : (cs : List Call) → (opening_of (plain_end [] (tells lent [] cs))).quarters ≡ 0 → selections_text (versions_of (plain_end [] (tells lent [] cs))) ≡ []
not-open-silent cs z = ap selections_text (none-held cs z) ∙ none-selected

-- What depends on the delta groups: a run's figures on its own alone, its total on none. Assumes nothing.
use Prim.Native.Nat.{ℕ, ◌≤◌, ◌<◌}
use mathlib.Core.Path.{◌≡◌, refl, sym, ap, ◌∙◌}
use mathlib.Core.Bool.{true}
use mathlib.Core.List.{List, [], ◌∷◌, ◌++◌, map}
use native.Mathlib.Omega.{arith}
use borrow.Author.Tests.{le-leb}
use lib.IntN.{ℤ}
use lib.ListN.{set}
use Rattle.quantity.specs.Lists.{all, fold}
use Rattle.state.specs.Groups.{alike}
use Rattle.state.specs.Valid.{point_record_ok, deltas_ok}
use Rattle.state.specs.declared.PerRun.{PerRun}
use Rattle.state.specs.declared.PointRecord.{PointRecord}
use Rattle.state.specs.declared.VersionRecord.{VersionRecord}
use Rattle.model.specs.Agreement.{Chained, end, fresh, book_figure}
use Rattle.model.specs.Call.{Call, opens, activates, deactivates, submits, notices, assigns, shows, asks, closes, issues, lodges, reports, Stores, Lengths, Lent, Told, told, telling}
use Rattle.model.specs.Causes.{rules}
use Rattle.model.specs.Laws.{Passed, beside_groups, groupless, SameTotals}
use Rattle.model.specs.Plain.{Worked, worked, opening_of, day_of, groups_of, view_in, figure, outside, plain_end, worked_out, after}
use Rattle.model.specs.Series.{figure_of, outside_of}
use Rattle.model.proofs.Corollaries.{reached}
use Rattle.model.proofs.Figures.{groups-sum}
use Rattle.model.proofs.Main.{agree}
use Rattle.model.proofs.Onward.{day-grows, always-kept, same-flags}

-- ---- "each run under its own delta groups"

module _ (ps : List PointRecord) (vs : List VersionRecord) (es : List (List ℤ)) (f s : List ℕ) (k q : ℕ) where
  -- run 1's figures do not depend on run 2's groups
  pub first-alone : (t : List ℕ) → figure_of ps (record { first = f; second = s }) vs es 1 k q ≡ figure_of ps (record { first = f; second = t }) vs es 1 k q
  unfolding figure_of
  first-alone t = refl

  -- nor run 2's on run 1's
  pub second-alone : (t : List ℕ) → figure_of ps (record { first = f; second = s }) vs es 2 k q ≡ figure_of ps (record { first = t; second = s }) vs es 2 k q
  unfolding figure_of
  second-alone t = refl

-- ---- "Assign up to day C sets both, as before": up to then both runs have the same groups

abbrev AlikeEarly : List Told → Type 0
AlikeEarly h = day_of h ≤ (opening_of h).clearing.0 → (groups_of h).first ≡ (groups_of h).second

alike-after : (h : List Told) → AlikeEarly h → (n : Lengths) (c : Call) → Passed (rules (view_in h) n c) → AlikeEarly (telling n c ∷ h)
unfolding view_in worked_out after fold
alike-after h A n (opens q f c k gs) P z = refl
alike-after h A n (assigns a u d) P z =
    rw (le-leb d (opening_of h).clearing.0 z) (ap (λ (l : List ℕ). set l a u) (A (omega (arith, z, day-grows (view_in h) n (assigns a u d) P))))
alike-after h A n (activates p k a b d) P z = A (omega (arith, z, day-grows (view_in h) n (activates p k a b d) P))
alike-after h A n (deactivates p d) P z = A (omega (arith, z, day-grows (view_in h) n (deactivates p d) P))
alike-after h A n (submits p x d es) P z = A (omega (arith, z, day-grows (view_in h) n (submits p x d es) P))
alike-after h A n (notices p x y d) P z = A (omega (arith, z, day-grows (view_in h) n (notices p x y d) P))
alike-after h A n (shows r u) P z = A (omega (arith, z, day-grows (view_in h) n (shows r u) P))
alike-after h A n (asks p x) P z = A (omega (arith, z, day-grows (view_in h) n (asks p x) P))
alike-after h A n (closes r d) P z = A (omega (arith, z, day-grows (view_in h) n (closes r d) P))
alike-after h A n (issues r d) P z = A (omega (arith, z, day-grows (view_in h) n (issues r d) P))
alike-after h A n (lodges u d es) P z = A (omega (arith, z, day-grows (view_in h) n (lodges u d es) P))
alike-after h A n (reports r u) P z = A (omega (arith, z, day-grows (view_in h) n (reports r u) P))

pub alike-plain : (l : List Told) → let h = plain_end [] l in day_of h ≤ (opening_of h).clearing.0 → (groups_of h).first ≡ (groups_of h).second
unfolding worked_out
alike-plain = always-kept AlikeEarly (λ h _ A n c P. alike-after h A n c P) (λ z. refl)

pub alike-running : (s : Stores) (l : List Lent) → Chained (fresh s) l → let f = (end (fresh s) l).desk.frame in f.day.0 ≤ f.opening.clearing.0 → f.groups.first ≡ f.groups.second
alike-running s l c z =
    let A = agree s l c in
    let same = (same-flags (end (fresh s) l) (plain_end [] (map told l)) (reached s l c)).day in
    rw A.delta_groups (alike-plain (map told l) (rw (A.opening, same) at z))

-- ---- "the total of a run does not depend on them"

-- any two assignments of groups, for any points within their limits, versions and energies
pub any-totals : (ps : List PointRecord) (vs : List VersionRecord) (es : List (List ℤ)) → all point_record_ok ps ≡ true → (gs hs : PerRun (List ℕ)) → deltas_ok gs ≡ true → deltas_ok hs ≡ true
    → (n : ℕ) → SameTotals n (figure_of ps gs vs es) (figure_of ps hs vs es)
any-totals ps vs es in_p gs hs in_g in_h n run q a b z = groups-sum ps gs vs es in_p in_g run q ∙ sym (groups-sum ps hs vs es in_p in_h run q)

-- what is worked out, without the day and the delta groups
abbrev apart : Worked → Worked
apart w = worked w.opening 0 w.points (alike []) w.versions w.energies w.log w.closed w.issued w.schedules

-- a call makes the rest of the rest
apart-after : (n : Lengths) (c : Call) (w : Worked) → apart (after (telling n c) w) ≡ apart (after (telling n c) (apart w))
unfolding after fold
apart-after n (opens q f c k gs) w = refl
apart-after n (activates p k a b d) w = refl
apart-after n (deactivates p d) w = refl
apart-after n (submits p x d es) w = refl
apart-after n (notices p x y d) w = refl
apart-after n (assigns a g d) w = refl
apart-after n (shows r g) w = refl
apart-after n (asks p x) w = refl
apart-after n (closes r d) w = refl
apart-after n (issues r d) w = refl
apart-after n (lodges g d es) w = refl
apart-after n (reports r g) w = refl

apart-call : (n : Lengths) (c : Call) (v w : Worked) → apart v ≡ apart w → apart (after (telling n c) v) ≡ apart (after (telling n c) w)
apart-call n c v w e = apart-after n c v ∙ ap (λ (x : Worked). apart (after (telling n c) x)) e ∙ sym (apart-after n c w)

-- so does what it says beside delta groups
apart-told : (h g : List Told) (n : Lengths) (c : Call) → apart (worked_out h) ≡ apart (worked_out g) → apart (after (telling n c) (worked_out h)) ≡ apart (worked_out (beside_groups (telling n c) ++ g))
unfolding worked_out after fold
apart-told h g n (opens q f c k gs) e = apart-call n (opens q f c k []) (worked_out h) (worked_out g) e
apart-told h g n (activates p k a b d) e = apart-call n (activates p k a b d) (worked_out h) (worked_out g) e
apart-told h g n (deactivates p d) e = apart-call n (deactivates p d) (worked_out h) (worked_out g) e
apart-told h g n (submits p x d es) e = apart-call n (submits p x d es) (worked_out h) (worked_out g) e
apart-told h g n (notices p x y d) e = apart-call n (notices p x y d) (worked_out h) (worked_out g) e
apart-told h g n (assigns a u d) e = e
apart-told h g n (shows r u) e = apart-call n (shows r u) (worked_out h) (worked_out g) e
apart-told h g n (asks p x) e = apart-call n (asks p x) (worked_out h) (worked_out g) e
apart-told h g n (closes r d) e = apart-call n (closes r d) (worked_out h) (worked_out g) e
apart-told h g n (issues r d) e = apart-call n (issues r d) (worked_out h) (worked_out g) e
apart-told h g n (lodges u d es) e = apart-call n (lodges u d es) (worked_out h) (worked_out g) e
apart-told h g n (reports r u) e = apart-call n (reports r u) (worked_out h) (worked_out g) e

-- and a list without them gives all of it
beside : (h : List Told) → apart (worked_out h) ≡ apart (worked_out (groupless h))
unfolding worked_out groupless
beside [] = refl
beside (t ∷ h) = apart-told h (groupless h) t.lengths t.call (beside h)

outside-beside : (h g : List Told) → groupless h ≡ groupless g → (run q : ℕ) → outside h run q ≡ outside g run q
unfolding outside
outside-beside h g e run q = ap (λ (w : Worked). outside_of w.points w.versions w.energies run q) (beside h ∙ ap (λ (l : List Told). apart (worked_out l)) e ∙ sym (beside g))

-- two lists of accepted calls that differ in delta groups only, from a fresh desk on: both desks' totals
module _ (s t : Stores) (l m : List Lent) (c : Chained (fresh s) l) (e : Chained (fresh t) m) where
  abbrev h : List Told
  h = plain_end [] (map told l)

  abbrev g : List Told
  g = plain_end [] (map told m)

  module _ (same : groupless h ≡ groupless g) where
    same-opening : opening_of h ≡ opening_of g
    same-opening = ap (λ (w : Worked). w.opening) (beside h ∙ ap (λ (x : List Told). apart (worked_out x)) same ∙ sym (beside g))

    in-other : {q : ℕ} → q < (end (fresh s) l).desk.frame.opening.quarters → q < (end (fresh t) m).desk.frame.opening.quarters
    in-other z = rw ((agree t m e).opening, sym same-opening, sym (agree s l c).opening) z

    pub same-totals : SameTotals (end (fresh s) l).desk.frame.opening.quarters (book_figure (end (fresh s) l)) (book_figure (end (fresh t) m))
    same-totals run q a b z = (agree s l c).sum run q a b z ∙ outside-beside h g same run q ∙ sym ((agree t m e).sum run q a b (in-other z))

    pub same-plain : SameTotals (end (fresh s) l).desk.frame.opening.quarters (figure h) (figure g)
    same-plain run q a b z = (agree s l c).plain_sum run q a b z ∙ outside-beside h g same run q ∙ sym ((agree t m e).plain_sum run q a b (in-other z))

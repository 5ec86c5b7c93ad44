-- Laws of the pick of a version, for any table: the selected version counts and no higher one does, the version found is the one asked for,
-- and which changes leave them. Assumes nothing.
use Prim.Native.Nat.{ℕ, zero, suc, ◌≤◌, ◌<◌}
use mathlib.Core.Path.{◌≡◌, refl, sym, ap, ◌∙◌, subst}
use mathlib.Core.Bool.{Bool, true, false, cond, not, ◌||◌, and-false, or-false, or_assoc, false≢true}
use mathlib.Core.List.{List, [], ◌∷◌}
use mathlib.Core.Logic.{◌⊎◌, inl, inr}
use native.Mathlib.Decide.{ℕ_discrete}
use native.Mathlib.Omega.{arith}
use borrow.Author.Tests.{leb-true, leb-false, ltb-true, ltb-false, eqb-true, ne_eqb, lt-ltb}
use lib.Dec.{leb, ltb, eqb}
use lib.ListN.{length, set, length-set}
use lib.Seq.{get_or-set_same, get_or-set_other}
use Rattle.std.specs.Prelude.{Option, Some, None}
use Rattle.quantity.proofs.Lists.{all-in}
use Rattle.quantity.proofs.Tests.{by-test, and-left, and-right}
use Rattle.quantity.specs.Limits.{point_ok, version_ok}
use Rattle.quantity.specs.Lists.{all, any}
use Rattle.quantity.specs.declared.Version.{Version}
use Rattle.state.proofs.Lists.{walk-last, walk-set, walk-keeps}
use Rattle.state.specs.Change.{submitted}
use Rattle.state.specs.Selection.{row_at, raise, raise_earlier, raise_if, best, is_selected, version_of, highest, no_version, higher_of, is_counted, own, or_else, with_status, SameVersion, in_run, selected, IsHighest, Highest, Tells}
use Rattle.state.specs.Status.{status_number, counts}
use Rattle.state.specs.Valid.{version_record_ok}
use Rattle.state.specs.Walk.{walk}
use Rattle.state.specs.Version.{empty_version, record_at, is_at, is_version, or_held, held, HeldIn, held_version}
use Rattle.state.specs.declared.HeldVersion.{HeldVersion}
use Rattle.state.specs.declared.Selection.{Selection}
use Rattle.state.specs.declared.Selection.TheVariants.{None, Selected}
use Rattle.state.specs.declared.Status.{Status}
use Rattle.state.specs.declared.Status.TheVariants.{Check, Settlement, Settled, Correction, CorrectionSettled}
use Rattle.state.specs.declared.VersionRecord.{VersionRecord}
use Rattle.state.specs.declared.VersionRow.{VersionRow}

-- what holds of each index below i, and of i, holds of each below i + 1
up_to : (P : ℕ → Type 0) (i : ℕ) → ((j : ℕ) → j < i → P j) → P i → (j : ℕ) → j < suc i → P j
up_to P i h p j k = go (ℕ_discrete j i)
  where
    go : Dec (j ≡ i) → P j
    go (yes e) = subst P (sym e) p
    go (no ne) = h j (omega arith)

never : {A : Type 0} (t : Bool) → t ≡ false → t ≡ true → A
never t e h = absurd (false≢true (sym e ∙ h))

module _ (f : VersionRecord → Bool) (vs : List VersionRecord) where
  raise-right : (s : Selection) (i : ℕ) → f (record_at vs i) ≡ true → Highest f vs i s → Highest f vs (suc i) (raise s (row_at i (record_at vs i)))
  raise-right None i t h =
      record {
        within = omega arith;
        here = refl;
        passes = t;
        most = up_to _ i (λ j k e. never (f (record_at vs j)) (h j k) e) (λ _. omega arith);
        first = λ j k e. never (f (record_at vs j)) (h j k) e;
      }
  raise-right (Selected r) i t h =
      let n = (record_at vs i).version in
      by-test (Highest f vs (suc i)) (ltb r.version.0 n.0) _ _
      (λ e. record {
        within = omega arith;
        here = refl;
        passes = t;
        most = up_to _ i (λ j k p. omega (arith, h.most j k p, ltb-true r.version.0 n.0 e)) (λ _. omega arith);
        first = λ j k p. omega (arith, h.most j k p, ltb-true r.version.0 n.0 e);
      })
      (λ e. record {
        within = omega (arith, h.within);
        here = h.here;
        passes = h.passes;
        most = up_to _ i h.most (λ _. ltb-false r.version.0 n.0 e);
        first = h.first;
      })

  keep-right : (s : Selection) (i : ℕ) → f (record_at vs i) ≡ false → Highest f vs i s → Highest f vs (suc i) s
  keep-right None i t h = up_to _ i h t
  keep-right (Selected r) i t h =
      record {
        within = omega (arith, h.within);
        here = h.here;
        passes = h.passes;
        most = up_to _ i h.most (λ e. never (f (record_at vs i)) t e);
        first = h.first;
      }

  -- "the highest version of status 2 or 3": whatever the test, the one picked passes it, and none that passes is higher
  pub best-highest : Highest f vs (length vs) (best f vs)
  unfolding best
  best-highest =
      walk-keeps (raise_if f) (Highest f vs) vs empty_version
      (λ s i _ h. by-test (Highest f vs (suc i)) (f (record_at vs i)) (raise s (row_at i (record_at vs i))) s (λ t. raise-right s i t h) (λ t. keep-right s i t h))
      None (λ j k. absurd (omega arith))

  -- one record more
  pub best-last : (v : VersionRecord) → best f (submitted v vs) ≡ raise_if f (best f vs) (length vs) v
  unfolding best
  best-last v = walk-last (raise_if f) None vs v

  -- one that does not pass leaves the pick
  pub best-skips : (v : VersionRecord) → f v ≡ false → best f (submitted v vs) ≡ best f vs
  best-skips v e = best-last v ∙ rw e

  -- one that passes and is higher than all before is picked
  pub best-newest : (v : VersionRecord) → f v ≡ true → version_of (best f vs) < v.version.0 → best f (submitted v vs) ≡ Selected (row_at (length vs) v)
  best-newest v e h = best-last v ∙ rw e (go (best f vs) h)
    where
      go : (s : Selection) → version_of s < v.version.0 → raise s (row_at (length vs) v) ≡ Selected (row_at (length vs) v)
      go None k = refl
      go (Selected r) k = rw (lt-ltb r.version.0 v.version.0 k)

  -- a record that does not pass, replaced by one that does not, leaves the pick
  pub best-set : (k : ℕ) (w : VersionRecord) → f (record_at vs k) ≡ false → f w ≡ false → best f (set vs k w) ≡ best f vs
  unfolding best
  best-set k w p q =
      walk-set (raise_if f) vs k w empty_version
      (λ s i. ap (λ (t : Bool). cond t (raise s (row_at i w)) s) q ∙ sym (ap (λ (t : Bool). cond t (raise s (row_at i (record_at vs k))) s) p)) None 0

abbrev number : VersionRow → ℕ
number r = r.version.0

-- of the first n records there is one highest, or none
pub highest-one : (f : VersionRecord → Bool) (vs : List VersionRecord) (n : ℕ) (s t : Selection) → Highest f vs n s → Highest f vs n t → s ≡ t
highest-one f vs n None None h k = refl
highest-one f vs n None (Selected r) h k = never (f (record_at vs r.at)) (h r.at k.within) k.passes
highest-one f vs n (Selected r) None h k = never (f (record_at vs r.at)) (k r.at h.within) h.passes
highest-one f vs n (Selected r) (Selected q) h k =
    let before = not-before r q h k in
    let after = not-before q r k h in
    let e : r.at ≡ q.at = omega arith in
    ap Selected (sym h.here ∙ ap (λ (i : ℕ). row_at i (record_at vs i)) e ∙ k.here)
  where
    not-before : (r q : VersionRow) → IsHighest f vs n r → IsHighest f vs n q → r.at < q.at → ⊥
    not-before r q h k l =
        let a : (record_at vs r.at).version.0 ≡ r.version.0 = ap number h.here in
        let b : (record_at vs q.at).version.0 ≡ q.version.0 = ap number k.here in
        omega (arith, k.first r.at l h.passes, h.most q.at k.within k.passes)

-- the same place of another table
abbrev pub reread : List VersionRecord → Selection → Selection
reread ws None = None
reread ws (Selected r) = Selected (row_at r.at (record_at ws r.at))

-- a change of the records that leaves their numbers and the test leaves the place of the pick
pub best-reread : (f : VersionRecord → Bool) (vs ws : List VersionRecord) → length ws ≡ length vs → ((i : ℕ) → f (record_at ws i) ≡ f (record_at vs i))
    → ((i : ℕ) → (record_at ws i).version.0 ≡ (record_at vs i).version.0) → best f ws ≡ reread ws (best f vs)
best-reread f vs ws long passing numbers = highest-one f ws (length ws) _ _ (best-highest f ws) (go (best f vs) (best-highest f vs))
  where
    go : (s : Selection) → Highest f vs (length vs) s → Highest f ws (length ws) (reread ws s)
    go None h = λ j l. passing j ∙ h j (omega arith)
    go (Selected r) h =
        let top : (record_at ws r.at).version.0 ≡ r.version.0 = numbers r.at ∙ ap number h.here in
        record {
          within = omega (arith, h.within);
          here = refl;
          passes = passing r.at ∙ h.passes;
          most = λ j l t. omega (arith, numbers j, h.most j (omega arith) (sym (passing j) ∙ t));
          first = λ j l t. omega (arith, numbers j, h.first j l (sym (passing j) ∙ t));
        }

module _ (f : VersionRecord → Bool) (vs : List VersionRecord) (k : ℕ) (w : VersionRecord) (in_table : k < length vs) where
  -- what holds of the record set and of every other
  set-either : (Q : ℕ → VersionRecord → Type 0) → Q k w → ((j : ℕ) → (j ≡ k → ⊥) → Q j (record_at vs j)) → (j : ℕ) → Q j (record_at (set vs k w) j)
  set-either Q a b j = go (ℕ_discrete j k)
    where
      go : Dec (j ≡ k) → Q j (record_at (set vs k w) j)
      go (yes e) = rw (e, get_or-set_same vs k w empty_version in_table) a
      go (no ne) = rw (get_or-set_other vs k j w empty_version ne) (b j ne)

  -- a record that comes to pass, where none before it with its number does
  pub best-comes : f (record_at vs k) ≡ false → f w ≡ true → ((j : ℕ) → j < k → f (record_at vs j) ≡ true → (record_at vs j).version.0 ≡ w.version.0 → ⊥)
      → best f (set vs k w) ≡ raise_earlier (best f vs) (row_at k w)
  best-comes off on first =
      highest-one f (set vs k w) (length vs) _ _ (rw (length-set vs k w) at (best-highest f (set vs k w))) (go (best f vs) (best-highest f vs))
    where
      Most : (top j : ℕ) → VersionRecord → Type 0
      Most top j v = j < length vs → f v ≡ true → v.version.0 ≤ top

      Before : (at top j : ℕ) → VersionRecord → Type 0
      Before at top j v = j < at → f v ≡ true → v.version.0 < top

      here : record_at (set vs k w) k ≡ w
      here = get_or-set_same vs k w empty_version in_table

      go : (s : Selection) → Highest f vs (length vs) s → Highest f (set vs k w) (length vs) (raise_earlier s (row_at k w))
      go None h =
          record {
            within = in_table;
            here = ap (row_at k) here;
            passes = rw here on;
            most = set-either (Most w.version.0) (λ _ _. omega arith) (λ j ne l e. never (f (record_at vs j)) (h j l) e);
            first = set-either (Before k w.version.0) (λ l _. absurd (omega arith)) (λ j ne l e. never (f (record_at vs j)) (h j (omega arith)) e);
          }
      go (Selected r) h =
          by-test (Highest f (set vs k w) (length vs)) (leb r.version.0 w.version.0) (Selected (row_at k w)) (Selected r)
          (λ t.
          let up = leb-true r.version.0 w.version.0 t in
          record {
            within = in_table;
            here = ap (row_at k) here;
            passes = rw here on;
            most = set-either (Most w.version.0) (λ _ _. omega arith) (λ j ne l e. omega (arith, h.most j l e));
            first = set-either (Before k w.version.0) (λ l _. absurd (omega arith)) (λ j ne l e. omega (arith, h.most j (omega arith) e, first j l e));
          })
          (λ t.
          let down = leb-false r.version.0 w.version.0 t in
          let ne : r.at ≡ k → ⊥ = λ e. never (f (record_at vs k)) off (subst (λ (i : ℕ). f (record_at vs i) ≡ true) e h.passes) in
          let kept = get_or-set_other vs k r.at w empty_version ne in
          record {
            within = h.within;
            here = ap (row_at r.at) kept ∙ h.here;
            passes = rw kept h.passes;
            most = set-either (Most r.version.0) (λ _ _. omega arith) (λ j ne. h.most j);
            first = set-either (Before r.at r.version.0) (λ _ _. omega arith) (λ j ne. h.first j);
          })

raise-selected : (f : VersionRecord → Bool) (s : Selection) (i : ℕ) (v : VersionRecord) → is_selected (raise_if f s i v) ≡ (is_selected s || f v)
raise-selected f s i v = by-test (λ (t : Selection). is_selected t ≡ (is_selected s || f v)) (f v) (raise s (row_at i v)) s (λ e. rw e (go s)) (λ e. rw (e, or-false))
  where
    go : (s : Selection) → is_selected (raise s (row_at i v)) ≡ (is_selected s || true)
    go None = refl
    go (Selected r) = by-test (λ (t : Selection). is_selected t ≡ true) (ltb r.version.0 v.version.0) (Selected (row_at i v)) (Selected r) (λ _. refl) (λ _. refl)

-- there is a pick exactly where some record passes
pub best-any : (f : VersionRecord → Bool) (vs : List VersionRecord) → is_selected (best f vs) ≡ any f vs
unfolding best walk any
best-any f vs = go None 0 vs
  where
    go : (s : Selection) (i : ℕ) (l : List VersionRecord) → is_selected (walk (raise_if f) s i l) ≡ (is_selected s || any f l)
    go s i [] = sym (or-false (is_selected s))
    go s i (v ∷ l) = go (raise_if f s i v) (suc i) l ∙ rw (raise-selected f s i v, or_assoc)

-- a record put beside the highest so far has its number or keeps the one so far
pub number-raised : (s : Selection) (t : Version) (c : Bool) (i : ℕ) (v : VersionRecord) → t.0 ≡ version_of s → version_of (cond c (raise s (row_at i v)) s) ≡ (higher_of t c v.version).0
number-raised s t false i v e = sym e
number-raised None t true i v e = rw e (go v.version.0)
  where
    number : ℕ → Version
    number n = record { 0 = n }

    go : (n : ℕ) → n ≡ (cond (ltb 0 n) (number n) no_version).0
    go zero = refl
    go (suc n) = rw (lt-ltb 0 (suc n) (omega arith))
number-raised (Selected r) t true i v e = rw e (go (ltb r.version.0 v.version.0))
  where
    go : (b : Bool) → version_of (cond b (Selected (row_at i v)) (Selected r)) ≡ (cond b v.version r.version).0
    go true = refl
    go false = refl

-- "the highest as 0 without a version": of versions with numbers from 1 on it is 0 only there
pub highest-any : (p rows : ℕ) (vs : List VersionRecord) → all (version_record_ok rows) vs ≡ true → not (eqb (highest p vs) 0) ≡ any (is_at p) vs
highest-any p rows vs ok = go (best (is_at p) vs) (best-highest (is_at p) vs) (best-any (is_at p) vs)
  where
    go : (s : Selection) → Highest (is_at p) vs (length vs) s → is_selected s ≡ any (is_at p) vs → not (eqb (version_of s) 0) ≡ any (is_at p) vs
    go None h e = e
    go (Selected r) h e =
        let x = (record_at vs r.at).version.0 in
        let there = and-left (version_ok x) _ (and-right (point_ok (record_at vs r.at).point.0) _ (all-in (version_record_ok rows) vs r.at empty_version ok h.within)) in
        let some : 1 ≤ r.version.0 = omega (arith, leb-true 1 x (and-left (leb 1 x) _ there), ap number h.here) in
        rw (ne_eqb r.version.0 0 (λ z. omega arith)) e

module _ (p x : ℕ) (vs : List VersionRecord) where
  -- the version found is the one asked for, and the first record of it
  pub held-right : HeldIn p x vs (length vs) (held p x vs)
  unfolding held
  held-right = walk-keeps (or_held p x) (HeldIn p x vs) vs empty_version (λ h i _ k. go h i k) None (λ j k. absurd (omega arith))
    where
      go : (h : Option HeldVersion) (i : ℕ) → HeldIn p x vs i h → HeldIn p x vs (suc i) (or_held p x h i (record_at vs i))
      go None i k =
          by-test (HeldIn p x vs (suc i)) (is_version p x (record_at vs i)) (Some (held_version i (record_at vs i))) None
          (λ e. record { within = omega arith; found = e; here = refl; first = k })
          (λ e. up_to _ i k e)
      go (Some h) i k = record { within = omega (arith, k.within); found = k.found; here = k.here; first = k.first }

-- ---- selections

-- run 1 counts "status 2 or 3"
pub counts-first : (s : Status) → counts 1 s ≡ (eqb (status_number s) 2 || eqb (status_number s) 3)
counts-first Check = refl
counts-first Settlement = refl
counts-first Settled = refl
counts-first Correction = refl
counts-first CorrectionSettled = refl

-- run 2's own are "of status 4 or 5"
pub counts-second : (s : Status) → counts 2 s ≡ (eqb (status_number s) 4 || eqb (status_number s) 5)
counts-second Check = refl
counts-second Settlement = refl
counts-second Settled = refl
counts-second Correction = refl
counts-second CorrectionSettled = refl

-- the selected version has a status that counts at the point, and no higher one of the point counts
pub own-highest : (run p : ℕ) (vs : List VersionRecord) → Highest (is_counted run p) vs (length vs) (own run p vs)
own-highest run p vs = best-highest (is_counted run p) vs

-- and it is no higher than the point's highest
pub own-most : (run p : ℕ) (vs : List VersionRecord) → version_of (own run p vs) ≤ highest p vs
own-most run p vs = go (own run p vs) (best (is_at p) vs) (own-highest run p vs) (best-highest (is_at p) vs)
  where
    go : (s t : Selection) → Highest (is_counted run p) vs (length vs) s → Highest (is_at p) vs (length vs) t → version_of s ≤ version_of t
    go None t h k = omega arith
    go (Selected r) None h k =
        absurd (false≢true (sym (k r.at h.within) ∙ and-left (is_at p (record_at vs r.at)) _ h.passes))
    go (Selected r) (Selected q) h k =
        omega (arith, k.most r.at h.within (and-left (is_at p (record_at vs r.at)) _ h.passes), ap (λ (z : VersionRow). z.version.0) h.here)

-- "The lookup of a point's selected version for a run gives its status along with it"
pub own-tells : (run p : ℕ) (vs : List VersionRecord) (r : VersionRow) → own run p vs ≡ Selected r → Tells p vs r
own-tells run p vs r e =
    let h : IsHighest (is_counted run p) vs (length vs) r = subst (Highest (is_counted run p) vs (length vs)) e (own-highest run p vs) in
    record {
      within = h.within;
      point = eqb-true (record_at vs r.at).point.0 p (and-left (is_at p (record_at vs r.at)) _ h.passes);
      version = ap (λ (x : VersionRow). x.version) h.here;
      row = ap (λ (x : VersionRow). x.row) h.here;
      status = ap (λ (x : VersionRow). x.status) h.here;
    }

-- of either run, the fallback too
pub selected-tells : (run p : ℕ) (vs : List VersionRecord) (r : VersionRow) → selected run p vs ≡ Selected r → Tells p vs r
selected-tells run p vs r e = go (eqb run 1) (own 2 p vs) refl e
  where
    go : (t : Bool) (s : Selection) → own 2 p vs ≡ s → cond t (own 1 p vs) (or_else s (own 1 p vs)) ≡ Selected r → Tells p vs r
    go true s q z = own-tells 1 p vs r z
    go false None q z = own-tells 1 p vs r z
    go false (Selected x) q z = own-tells 2 p vs r (q ∙ z)

-- what is told of a version counted in the run
own-counts : (run p : ℕ) (vs : List VersionRecord) (r : VersionRow) → own run p vs ≡ Selected r → counts run r.status ≡ true
own-counts run p vs r e =
    let h : IsHighest (is_counted run p) vs (length vs) r = subst (Highest (is_counted run p) vs (length vs)) e (own-highest run p vs) in
    ap (counts run) (sym (own-tells run p vs r e).status) ∙ and-right (is_at p (record_at vs r.at)) _ h.passes

-- run 1's selection has status 2 or 3
pub first-status : (p : ℕ) (vs : List VersionRecord) (r : VersionRow) → own 1 p vs ≡ Selected r → (status_number r.status ≡ 2) ⊎ (status_number r.status ≡ 3)
first-status p vs r e = go r.status (own-counts 1 p vs r e)
  where
    go : (s : Status) → counts 1 s ≡ true → (status_number s ≡ 2) ⊎ (status_number s ≡ 3)
    go Check z = absurd (false≢true z)
    go Settlement z = inl refl
    go Settled z = inr refl
    go Correction z = absurd (false≢true z)
    go CorrectionSettled z = absurd (false≢true z)

-- and run 2's own 4 or 5
pub second-status : (p : ℕ) (vs : List VersionRecord) (r : VersionRow) → own 2 p vs ≡ Selected r → (status_number r.status ≡ 4) ⊎ (status_number r.status ≡ 5)
second-status p vs r e = go r.status (own-counts 2 p vs r e)
  where
    go : (s : Status) → counts 2 s ≡ true → (status_number s ≡ 4) ⊎ (status_number s ≡ 5)
    go Check z = absurd (false≢true z)
    go Settlement z = absurd (false≢true z)
    go Settled z = absurd (false≢true z)
    go Correction z = inl refl
    go CorrectionSettled z = inr refl

-- "Run 1 selects for a point the highest version of status 2 or 3."
pub first-run : (p : ℕ) (vs : List VersionRecord) → selected 1 p vs ≡ own 1 p vs
first-run p vs = refl

-- "Run 2 selects the highest of status 4 or 5 (its own)"
pub second-run : (p : ℕ) (vs : List VersionRecord) (r : VersionRow) → own 2 p vs ≡ Selected r → selected 2 p vs ≡ Selected r
second-run p vs r e = rw e

-- "and without one what run 1 selects"
pub second-falls-back : (p : ℕ) (vs : List VersionRecord) → own 2 p vs ≡ None → selected 2 p vs ≡ selected 1 p vs
second-falls-back p vs e = rw e

-- where run 1's and run 2's own stay, so does what each run selects
pub selected-kept : (run p : ℕ) (vs ws : List VersionRecord) → ((r : ℕ) → own r p ws ≡ own r p vs) → selected run p ws ≡ selected run p vs
selected-kept run p vs ws e = rw (e 1, e 2)

-- and where they stay but for their status, so does what each run selects
pub selected-same : (run p : ℕ) (vs ws : List VersionRecord) → ((r : ℕ) → SameVersion (own r p ws) (own r p vs)) → SameVersion (selected run p ws) (selected run p vs)
selected-same run p vs ws e = bare (own 1 p ws) (own 2 p ws) ∙ rw (e 1, e 2) (sym (bare (own 1 p vs) (own 2 p vs)))
  where
    bare : (s t : Selection) → with_status Check (in_run run s t) ≡ in_run run (with_status Check s) (with_status Check t)
    bare s None = go (eqb run 1)
      where
        go : (b : Bool) → with_status Check (cond b s s) ≡ cond b (with_status Check s) (with_status Check s)
        go true = refl
        go false = refl
    bare s (Selected r) = go (eqb run 1)
      where
        go : (b : Bool) → with_status Check (cond b s (Selected r)) ≡ cond b (with_status Check s) (with_status Check (Selected r))
        go true = refl
        go false = refl

-- a submission at one point leaves the selection of every other
pub submit-other : (run q : ℕ) (v : VersionRecord) (vs : List VersionRecord) → (v.point.0 ≡ q → ⊥) → own run q (submitted v vs) ≡ own run q vs
submit-other run q v vs ne = best-skips (is_counted run q) vs v (rw (ne_eqb v.point.0 q ne))

-- a version of status 1 leaves all selections
pub submit-check : (run q : ℕ) (v : VersionRecord) (vs : List VersionRecord) → v.status ≡ Check → own run q (submitted v vs) ≡ own run q vs
submit-check run q v vs e = best-skips (is_counted run q) vs v (rw (e, and-false))

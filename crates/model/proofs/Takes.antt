-- What a run takes of a point is what its selection has; so each figure, and the outside exchange, is the sum that document 01 says. Any tables. Assumes nothing.
use Prim.Native.Nat.{ℕ, zero, suc, ◌-◌, ◌≤◌, ◌<◌}
use mathlib.Core.Path.{◌≡◌, refl, ap, ◌∙◌}
use mathlib.Core.Bool.{Bool, true, false, cond, ◌||◌}
use mathlib.Core.List.{List}
use native.Mathlib.Omega.{arith}
use borrow.Author.Tests.{ltb-true, ltb-false}
use lib.Dec.{ltb, eqb}
use lib.IntN.{ℤ, pos}
use lib.ListN.{length, get_or, get_or-eq_default}
use Rattle.quantity.specs.Meaning.{Means, Each}
use Rattle.quantity.specs.Sum.{sum_to}
use Rattle.quantity.proofs.Sums.{sum-same}
use Rattle.quantity.proofs.Meanings.{means-eq, means-so, means-and, means-or}
use Rattle.state.specs.Point.{free_point, point_at}
use Rattle.state.specs.Selection.{is_counted, own, or_else, selected, IsHighest, Highest}
use Rattle.state.specs.Status.{status_number, counts}
use Rattle.state.specs.Version.{record_at, is_at}
use Rattle.state.specs.Within.{StateIn}
use Rattle.state.specs.declared.PerRun.{PerRun}
use Rattle.state.specs.declared.PointRecord.{PointRecord}
use Rattle.state.specs.declared.Selection.{Selection}
use Rattle.state.specs.declared.Selection.TheVariants.{None, Selected}
use Rattle.state.specs.declared.Status.{Status}
use Rattle.state.specs.declared.VersionRecord.{VersionRecord}
use Rattle.state.specs.declared.VersionRow.{VersionRow}
use Rattle.state.proofs.Picks.{own-highest, counts-first, counts-second}
use Rattle.model.specs.Series.{sides_of, adds, energy, figure_of, is_outside, outside_of}
use Rattle.model.specs.Takes.{IsOne, IsTop, Takes, top, none, TakesFirst, TakesSecond, Taken, Line, Added, IsSum, Figured, in_list}
use Rattle.model.proofs.SeriesTable.{series-adds, series-outside, line_of}

-- what is read of a selection, and without one something else
abbrev ReadOf : (reads : ℕ → ℤ) (without : ℤ → Type 0) → Selection → ℤ → Type 0
ReadOf reads without None v = without v
ReadOf reads without (Selected r) v = v ≡ reads r.at

-- a run by the two statuses that it counts
module _ (run low high : ℕ) (counting : (s : Status) → counts run s ≡ (eqb (status_number s) low || eqb (status_number s) high)) (p : ℕ) (vs : List VersionRecord) where
  counted : (i : ℕ) → i < length vs → Means (is_counted run p (record_at vs i)) (IsOne low high p vs i)
  counted i h =
      let v = record_at vs i in
      means-so
      (means-and (is_at p v) (counts run v.status) (means-eq v.point.0 p)
      (λ _. rw (counting v.status) (means-or _ _ (means-eq (status_number v.status) low) (means-eq (status_number v.status) high))))
      (λ q. record { within = h; here = q.0; status = q.1 }) (λ o. (o.here, o.status))

  passes : (i : ℕ) → IsOne low high p vs i → is_counted run p (record_at vs i) ≡ true
  passes i o = go (is_counted run p (record_at vs i)) (counted i o.within)
    where
      go : (t : Bool) → Means t (IsOne low high p vs i) → t ≡ true
      go true m = refl
      go false m = absurd (m.fails refl o)

  -- the run's own is the top
  module _ (r : VersionRow) (h : IsHighest (is_counted run p) vs (length vs) r) where
    numbered : (record_at vs r.at).version.0 ≡ r.version.0
    numbered = ap (λ (x : VersionRow). x.version.0) h.here

    own-top : IsTop low high p vs r.at
    own-top =
        record {
          one = (counted r.at h.within).holds h.passes;
          highest = λ j o. omega (arith, numbered, h.most j o.within (passes j o));
          first = λ j o e. from j o e (ltb j r.at) refl;
        }
      where
        from : (j : ℕ) → IsOne low high p vs j → (record_at vs j).version.0 ≡ (record_at vs r.at).version.0 → (t : Bool) → ltb j r.at ≡ t → r.at ≤ j
        from j o e true z = absurd (omega (arith, numbered, h.first j (ltb-true j r.at z) (passes j o)))
        from j o e false z = ltb-false j r.at z

    one-top : (i : ℕ) → IsTop low high p vs i → i ≡ r.at
    one-top i t =
        let up = t.highest r.at own-top.one in
        let down = own-top.highest i t.one in
        omega (arith, t.first r.at own-top.one (omega arith), own-top.first i t.one (omega arith))

  module _ (reads : ℕ → ℤ) (without : ℤ → Type 0) (v : ℤ) where
    takes-own : Takes low high p vs reads without v → ReadOf reads without (own run p vs) v
    takes-own = go (own run p vs) (own-highest run p vs)
      where
        go : (s : Selection) → Highest (is_counted run p) vs (length vs) s → Takes low high p vs reads without v → ReadOf reads without s v
        go None h (top i t e) = absurd ((counted i t.one.within).fails (h i t.one.within) t.one)
        go None h (none n w) = w
        go (Selected r) h (top i t e) = e ∙ ap reads (one-top r h i t)
        go (Selected r) h (none n w) = absurd (n r.at (own-top r h).one)

    own-takes : ReadOf reads without (own run p vs) v → Takes low high p vs reads without v
    own-takes = go (own run p vs) (own-highest run p vs)
      where
        go : (s : Selection) → Highest (is_counted run p) vs (length vs) s → ReadOf reads without s v → Takes low high p vs reads without v
        go None h w = none (λ i o. (counted i o.within).fails (h i o.within) o) w
        go (Selected r) h e = top r.at (own-top r h) e

-- what is read of a selection, and 0 without one
abbrev pub read_by : (reads : ℕ → ℤ) → Selection → ℤ
read_by reads None = pos 0
read_by reads (Selected r) = reads r.at

module _ (vs : List VersionRecord) (reads : ℕ → ℤ) (p : ℕ) where
  -- run 1 takes what is read of its selection
  first-taken : (s : Selection) (v : ℤ) → ReadOf reads (λ (x : ℤ). x ≡ pos 0) s v → v ≡ read_by reads s
  first-taken None v e = e
  first-taken (Selected r) v e = e

  pub takes-first : (v : ℤ) → TakesFirst vs reads p v → v ≡ read_by reads (selected 1 p vs)
  takes-first v t = first-taken (own 1 p vs) v (takes-own 1 2 3 counts-first p vs reads (λ (x : ℤ). x ≡ pos 0) v t)

  -- and so does run 2
  pub takes-second : (v : ℤ) → TakesSecond vs reads p v → v ≡ read_by reads (selected 2 p vs)
  takes-second v t = go (own 2 p vs) (takes-own 2 4 5 counts-second p vs reads (TakesFirst vs reads p) v t)
    where
      go : (s : Selection) → ReadOf reads (TakesFirst vs reads p) s v → v ≡ read_by reads (or_else s (own 1 p vs))
      go None e = takes-first v e
      go (Selected r) e = e

  -- there is always one
  pub first-takes : TakesFirst vs reads p (read_by reads (selected 1 p vs))
  first-takes = own-takes 1 2 3 counts-first p vs reads (λ (x : ℤ). x ≡ pos 0) (read_by reads (own 1 p vs)) (go (own 1 p vs))
    where
      go : (s : Selection) → ReadOf reads (λ (x : ℤ). x ≡ pos 0) s (read_by reads s)
      go None = refl
      go (Selected r) = refl

  pub second-takes : TakesSecond vs reads p (read_by reads (selected 2 p vs))
  second-takes = own-takes 2 4 5 counts-second p vs reads (TakesFirst vs reads p) (read_by reads (selected 2 p vs)) (go (own 2 p vs))
    where
      go : (s : Selection) → ReadOf reads (TakesFirst vs reads p) s (read_by reads (or_else s (own 1 p vs)))
      go None = first-takes
      go (Selected r) = refl

-- whatever is read, there is an energy for each point that the run takes
pub taken-first : (vs : List VersionRecord) (reads : ℕ → ℤ) → Taken (TakesFirst vs reads)
taken-first vs reads = record { energy = λ (p : ℕ). read_by reads (selected 1 p vs); each = λ p lo hi. first-takes vs reads p }

pub taken-second : (vs : List VersionRecord) (reads : ℕ → ℤ) → Taken (TakesSecond vs reads)
taken-second vs reads = record { energy = λ (p : ℕ). read_by reads (selected 2 p vs); each = λ p lo hi. second-takes vs reads p }

-- and a line for each point within its limits
pub added : (ps : List PointRecord) (gs : List ℕ) (k : ℕ) (e : ℕ → ℤ) → Each free_point (λ (r : PointRecord). StateIn r.state) ps → Added ps gs k e
added ps gs k e ok = record { row = λ (p : ℕ). (has p).0; outside = λ (p : ℕ). (has p).1; lines = λ p _ _. (has p).2 }
  where
    inside : (i : ℕ) (t : Bool) → ltb i (length ps) ≡ t → StateIn (get_or ps i free_point).state
    inside i true z = ok i (ltb-true i (length ps) z)
    inside i false z = rw (get_or-eq_default ps free_point (ltb-false i (length ps) z)) tt

    has : (p : ℕ) → (a : ℤ) × (o : ℤ) × Line gs k (e p) (get_or ps (p - 1) free_point).state a o
    has p = line_of gs k (e p) (get_or ps (p - 1) free_point).state (inside (p - 1) (ltb (p - 1) (length ps)) refl)

-- the energy of a submission that is selected
reads-energy : (es : List (List ℤ)) (q : ℕ) (s : Selection) → read_by (in_list es q) s ≡ energy es s q
unfolding energy
reads-energy es q None = refl
reads-energy es q (Selected r) = refl

-- "Points are 1 to 256": point p is the p-th record
pub point-at : (ps : List PointRecord) (p : ℕ) → 1 ≤ p → point_at ps p ≡ (get_or ps (p - 1) free_point).state
point-at ps zero lo = absurd (omega arith)
point-at ps (suc p) lo = ap (λ (i : ℕ). (get_or ps i free_point).state) (omega arith)

-- the sums over the points, where x is what is taken of each
summed : (ps : List PointRecord) (gs : List ℕ) (k : ℕ) (e x : ℕ → ℤ) → ((p : ℕ) → 1 ≤ p → p ≤ 256 → e p ≡ x p)
    → IsSum ps gs k e (sum_to 256 (λ (p : ℕ). adds (sides_of gs (point_at ps p)) k (x p))) (sum_to 256 (λ (p : ℕ). cond (is_outside (point_at ps p)) (x p) (pos 0)))
summed ps gs k e x same =
    record {
      figures = λ a. sum-same 256 _ a.row (λ p lo hi. rw (point-at ps p lo, ← same p lo hi) (series-adds gs k (e p) (a.lines p lo hi)));
      outsides = λ a. sum-same 256 _ a.outside (λ p lo hi. rw (point-at ps p lo, ← same p lo hi) (series-outside gs k (e p) (a.lines p lo hi)));
    }

pub figured : (ps : List PointRecord) (gs : PerRun (List ℕ)) (vs : List VersionRecord) (es : List (List ℤ)) (quarters : ℕ) → Figured ps gs vs quarters (in_list es) (figure_of ps gs vs es) (outside_of ps vs es)
unfolding figure_of outside_of
figured ps gs vs es n =
    record {
      first = λ k q _ _ t.
          summed ps gs.first k t.energy (λ (p : ℕ). energy es (selected 1 p vs) q)
          (λ p lo hi. takes-first vs (in_list es q) p (t.energy p) (t.each p lo hi) ∙ reads-energy es q (selected 1 p vs));
      second = λ k q _ _ t.
          summed ps gs.second k t.energy (λ (p : ℕ). energy es (selected 2 p vs) q)
          (λ p lo hi. takes-second vs (in_list es q) p (t.energy p) (t.each p lo hi) ∙ reads-energy es q (selected 2 p vs));
    }

-- What a valid desk gives the functions that stand on it: the bounds of its numbers, one by one. Assumes nothing.
use Prim.Native.Nat.{ℕ, zero, suc, ◌+◌, ◌*◌, ◌%◌, ◌≤◌, ◌<◌}
use mathlib.Core.Path.{◌≡◌, refl}
use mathlib.Core.Bool.{Bool, true, ◌&&◌, false≢true}
use mathlib.Core.List.{List}
use native.Mathlib.Nat.{le-div_iff_mul-le}
use native.Mathlib.Omega.{arith}
use borrow.Author.Tests.{leb-true, ltb-true, eqb-true, le-leb, eq-eqb}
use lib.Dec.{leb, ltb, eqb}
use lib.ListN.{length, get_or}
use lib.Seq.{get_or-take, length-take-le}
use Rattle.quantity.proofs.Lists.{all-at, all-in}
use Rattle.quantity.proofs.Tests.{by-test, and-left, and-right, and-both, within-low, within-high}
use Rattle.quantity.specs.Limits.{quarters_ok, deadlines_ok, day_ok, group_ok, area_ok, point_ok, version_ok}
use Rattle.quantity.specs.Lists.{all}
use Rattle.state.specs.Desk.{rows_in, log_rows_in, versions_in, rows_used}
use Rattle.state.specs.Groups.{groups_in}
use Rattle.state.specs.Point.{free_point, point_at, series_ok}
use Rattle.state.specs.Valid.{opening_ok, state_ok, point_record_ok, version_record_ok, deltas_ok, frame_ok, valid_desk, SeriesIn, Sound}
use Rattle.state.specs.Version.{empty_version}
use Rattle.state.specs.declared.PerRun.{PerRun}
use Rattle.state.specs.declared.Desk.{Desk}
use Rattle.state.specs.declared.Opening.{Opening}

-- "kind, area and partner .. together in the table above": each is in its range
pub series-in : (k a b : ℕ) → series_ok k a b ≡ true → SeriesIn k a b
unfolding series_ok
series-in k a b =
    by-test P (eqb k 1) _ _ (λ e t. made (omega arith) (eqb-true k 1 e) (ltb b a) t (omega (arith, area (ltb b a) t, ltb-true b a (and-right (area_ok a) _ t))))
    (λ _. by-test P (eqb k 2) _ _ (λ e t. made (omega arith) (eqb-true k 2 e) (group_ok b) t (within-high 1 64 b (and-right (area_ok a) _ t)))
    (λ _. by-test P (eqb k 3) _ _ (λ e t. made (omega arith) (eqb-true k 3 e) (eqb b 0) t (omega (arith, eqb-true b 0 (and-right (area_ok a) _ t))))
    (λ _. by-test P (eqb k 4) _ _ (λ e t. record { kind = omega (arith, eqb-true k 4 e); area = omega (arith, eqb-true a 0 (and-left (eqb a 0) _ t)); partner = within-high 1 64 b (and-right (eqb a 0) _ t) })
    (λ _. by-test P (eqb k 5) _ _ (λ e t. made (omega arith) (eqb-true k 5 e) (eqb b 0) t (omega (arith, eqb-true b 0 (and-right (area_ok a) _ t))))
    (λ _ t. absurd (false≢true t))))))
  where
    P : Bool → Type 0
    P t = t ≡ true → SeriesIn k a b

    area : (t : Bool) → (area_ok a && t) ≡ true → a ≤ 16
    area t e = within-high 1 16 a (and-left (area_ok a) t e)

    made : {n : ℕ} → n ≤ 5 → k ≡ n → (t : Bool) → (area_ok a && t) ≡ true → b ≤ 64 → SeriesIn k a b
    made l e t h p = record { kind = omega arith; area = area t h; partner = p }

module _ (o : Opening) (low : 1 ≤ o.quarters) where
  -- "a used row lies within values", by rows and by numbers
  pub rows-fit : (n : ℕ) → n ≤ rows_in o → n * o.quarters ≤ o.values
  rows-fit n h = (le-div_iff_mul-le {k = o.quarters} {x = n} {y = o.values} (omega arith)).0 h

  pub fit-rows : (n : ℕ) → n * o.quarters ≤ o.values → n ≤ rows_in o
  fit-rows n h = (le-div_iff_mul-le {k = o.quarters} {x = n} {y = o.values} (omega arith)).1 h

-- the delta groups of each run
pub deltas-in : (gs : PerRun (List ℕ)) → deltas_ok gs ≡ true → (run : ℕ) → all group_ok (groups_in run gs) ≡ true
unfolding deltas_ok
deltas-in gs h run =
    by-test (λ (l : List ℕ). all group_ok l ≡ true) (eqb run 1) gs.first gs.second (λ _. and-left (all group_ok gs.first) _ h) (λ _. and-right (all group_ok gs.first) _ h)

pub sound : (d : Desk) → valid_desk d ≡ true → Sound d
unfolding valid_desk frame_ok opening_ok
sound d v =
    let o = d.frame.opening in
    let f = and-left (frame_ok d.frame) _ v in
    let t = and-right (frame_ok d.frame) _ v in
    let f0 = and-left (opening_ok o) _ f in
    let f1 = and-right (opening_ok o) _ f in
    let f2 = and-right (day_ok d.frame.day.0) _ f1 in
    let f3 = and-right (deltas_ok d.frame.groups) _ f2 in
    let f4 = and-right (leb d.frame.count 512) _ f3 in
    let q = and-left (quarters_ok o.quarters) _ f0 in
    let o1 = and-right (quarters_ok o.quarters) _ f0 in
    let o2 = and-right (deadlines_ok o.first.0 o.clearing.0 o.correction.0) _ o1 in
    let o3 = and-right (eqb o.book (162 * o.quarters)) _ o2 in
    let low = within-low 1 2980 o.quarters q in
    record {
      quarters = low;
      most = within-high 1 2980 o.quarters q;
      deadlines = and-left (deadlines_ok o.first.0 o.clearing.0 o.correction.0) _ o1;
      book = eqb-true o.book (162 * o.quarters) (and-left (eqb o.book (162 * o.quarters)) _ o2);
      log = eqb-true (o.log % 4) 0 (and-left (eqb (o.log % 4) 0) _ o3);
      schedules = eqb-true o.schedules (64 * o.quarters) (and-right (eqb (o.log % 4) 0) _ o3);
      day = leb-true d.frame.day.0 400 (and-left (day_ok d.frame.day.0) _ f1);
      groups = and-left (deltas_ok d.frame.groups) _ f2;
      count = leb-true d.frame.count 512 (and-left (leb d.frame.count 512) _ f3);
      rows = rows-fit o low (rows_used d.frame) (leb-true (rows_used d.frame) (rows_in o) (and-left (leb (rows_used d.frame) (rows_in o)) _ f4));
      used = omega (arith, leb-true d.frame.used (log_rows_in o) (and-right (leb (rows_used d.frame) (rows_in o)) _ f4));
      points = and-left (all point_record_ok d.points) _ t;
      versions = and-right (all point_record_ok d.points) _ t;
    }

-- and it is what is asked of one: no other desk is refused by cause 1
pub whole : (d : Desk) → Sound d → valid_desk d ≡ true
unfolding valid_desk frame_ok opening_ok
whole d s =
    let o = d.frame.opening in
    let q = and-both _ _ (le-leb 1 o.quarters s.quarters) (le-leb o.quarters 2980 s.most) in
    let f0 = and-both _ _ q (and-both _ _ s.deadlines (and-both _ _ (eq-eqb _ _ s.book) (and-both _ _ (eq-eqb _ _ s.log) (eq-eqb _ _ s.schedules)))) in
    let n = le-leb (rows_used d.frame) (rows_in o) (fit-rows o s.quarters (rows_used d.frame) s.rows) in
    let f3 = and-both _ _ (le-leb d.frame.count 512 s.count) (and-both _ _ n (le-leb d.frame.used (log_rows_in o) (omega (arith, s.used)))) in
    let f = and-both _ _ f0 (and-both _ _ (le-leb d.frame.day.0 400 s.day) (and-both _ _ s.groups f3)) in
    and-both _ _ f (and-both _ _ s.points s.versions)

module _ (d : Desk) (s : Sound d) where
  -- a delta's group is one of 1 to 64, in each run
  pub group_low : (run i : ℕ) → i < length (groups_in run d.frame.groups) → 1 ≤ get_or (groups_in run d.frame.groups) i 0
  group_low run i h = within-low 1 64 _ (all-in group_ok (groups_in run d.frame.groups) i 0 (deltas-in d.frame.groups s.groups run) h)

  pub group_high : (run i : ℕ) → i < length (groups_in run d.frame.groups) → get_or (groups_in run d.frame.groups) i 0 ≤ 64
  group_high run i h = within-high 1 64 _ (all-in group_ok (groups_in run d.frame.groups) i 0 (deltas-in d.frame.groups s.groups run) h)

  -- the state of any point is within the limits
  pub state-in : (p : ℕ) → state_ok (point_at d.points p) ≡ true
  state-in zero = refl
  state-in (suc i) = all-at point_record_ok d.points i free_point refl s.points

  -- a version held is within the limits
  pub version-in : (i : ℕ) → length d.versions ≡ 512 → i < d.frame.count → version_record_ok (rows_in d.frame.opening) (get_or d.versions i empty_version) ≡ true
  version-in i l h =
      let c = s.count in
      rw (get_or-take d.frame.count d.versions i empty_version h) at
      (all-in (version_record_ok (rows_in d.frame.opening)) (versions_in d) i empty_version s.versions (rw (length-take-le d.frame.count d.versions (omega arith)) h))

  -- and its row lies within values
  pub row-in : (i : ℕ) → length d.versions ≡ 512 → i < d.frame.count → ((get_or d.versions i empty_version).row.0 + 1) * d.frame.opening.quarters ≤ d.frame.opening.values
  row-in i l h =
      let v = get_or d.versions i empty_version in
      let n = rows_in d.frame.opening in
      let r = ltb-true v.row.0 n (and-right (version_ok v.version.0) _ (and-right (point_ok v.point.0) _ (version-in i l h))) in
      rows-fit d.frame.opening s.quarters (v.row.0 + 1) (omega arith)

-- Cause 1 and the table of series by the numbers of document 01, both ways. Assumes nothing.
use Prim.Native.Nat.{ℕ, ◌+◌, ◌*◌, ◌%◌, ◌≤◌, ◌<◌}
use mathlib.Core.Path.{◌≡◌, refl}
use mathlib.Core.Bool.{Bool, true, false, cond, true≢false}
use mathlib.Core.Logic.{◌⊎◌, inl, inr}
use native.Mathlib.Nat.{le-div_iff_mul-le}
use native.Mathlib.Omega.{arith}
use borrow.Author.Tests.{leb-true, le-leb}
use lib.Dec.{leb, ltb, eqb}
use mathlib.Core.List.{List}
use Rattle.quantity.specs.Limits.{quarters_ok, deadlines_ok, day_ok, area_ok, group_ok, point_ok, version_ok}
use Rattle.quantity.specs.Lists.{all}
use Rattle.quantity.specs.Meaning.{Means, Between}
use Rattle.quantity.proofs.Meanings.{means-le, means-lt, means-eq, means-and, means-all, means-so, means-never}
use Rattle.quantity.proofs.Ranges.{means-quarters, means-day, means-deadlines, means-version, means-point, means-area, means-group}
use Rattle.state.specs.Desk.{rows_in, log_rows_in, versions_in, rows_used}
use Rattle.state.specs.Point.{free_point, series_ok}
use Rattle.state.specs.Valid.{opening_ok, state_ok, point_record_ok, version_record_ok, deltas_ok, frame_ok, valid_desk}
use Rattle.state.specs.Version.{empty_version}
use Rattle.state.specs.Within.{InTable, OpeningIn, StateIn, RecordIn, Within}
use Rattle.state.specs.declared.PerRun.{PerRun}
use Rattle.state.specs.declared.Desk.{Desk}
use Rattle.state.specs.declared.Opening.{Opening}
use Rattle.state.specs.declared.PointState.{PointState}
use Rattle.state.specs.declared.PointState.TheVariants.{Free, Active}
use Rattle.state.specs.declared.PointRecord.{PointRecord}
use Rattle.state.specs.declared.VersionRecord.{VersionRecord}

-- a line of the table of series, and those below it, whose kinds are higher
in-line : {P Q : Type 0} (k n : ℕ) (s t : Bool) → Means s P → Means t Q → (Q → n < k) → Means (cond (eqb k n) s t) (((k ≡ n) × P) ⊎ Q)
in-line {P} {Q} k n s t m w above = go (eqb k n) (means-eq k n)
  where
    go : (e : Bool) → Means e (k ≡ n) → Means (cond e s t) (((k ≡ n) × P) ⊎ Q)
    go true i = record { holds = λ h. inl (i.holds refl, m.holds h); fails = here }
      where
        here : s ≡ false → ((k ≡ n) × P) ⊎ Q → ⊥
        here h (inl p) = m.fails h p.1
        here h (inr q) = omega (arith, above q, i.holds refl)
    go false i = record { holds = λ h. inr (w.holds h); fails = there }
      where
        there : t ≡ false → ((k ≡ n) × P) ⊎ Q → ⊥
        there h (inl p) = i.fails refl p.0
        there h (inr q) = w.fails h q

above-line : {P Q : Type 0} (k n m : ℕ) → m < n → (Q → n < k) → ((k ≡ n) × P) ⊎ Q → m < k
above-line k n m h f (inl p) = omega (arith, p.0)
above-line k n m h f (inr q) = omega (arith, f q)

-- "kind, area and partner not together in the table above"
pub means-series : (k a b : ℕ) → Means (series_ok k a b) (InTable k a b)
unfolding series_ok
means-series k a b =
    in-line k 1 _ _ (means-and (area_ok a) (ltb b a) (means-area a) (λ _. means-lt b a))
    (in-line k 2 _ _ (means-and (area_ok a) (group_ok b) (means-area a) (λ _. means-group b))
    (in-line k 3 _ _ (means-and (area_ok a) (eqb b 0) (means-area a) (λ _. means-eq b 0))
    (in-line k 4 _ _ (means-and (eqb a 0) (group_ok b) (means-eq a 0) (λ _. means-group b))
    (means-so (in-line k 5 _ _ (means-and (area_ok a) (eqb b 0) (means-area a) (λ _. means-eq b 0)) (means-never {P = ⊥} (λ n. n)) (λ n. absurd n)) only inl)
    (λ q. omega (arith, q.0))) four) three) two
  where
    only : {P : Type 0} → P ⊎ ⊥ → P
    only (inl p) = p
    only (inr n) = absurd n

    four : ((k ≡ 4) × ((a ≡ 0) × Between 1 64 b)) ⊎ ((k ≡ 5) × (Between 1 16 a × (b ≡ 0))) → 3 < k
    four = above-line k 4 3 (omega arith) (λ q. omega (arith, q.0))

    three : ((k ≡ 3) × (Between 1 16 a × (b ≡ 0))) ⊎ (((k ≡ 4) × ((a ≡ 0) × Between 1 64 b)) ⊎ ((k ≡ 5) × (Between 1 16 a × (b ≡ 0)))) → 2 < k
    three = above-line k 3 2 (omega arith) four

    two : ((k ≡ 2) × (Between 1 16 a × Between 1 64 b)) ⊎ (((k ≡ 3) × (Between 1 16 a × (b ≡ 0))) ⊎ (((k ≡ 4) × ((a ≡ 0) × Between 1 64 b)) ⊎ ((k ≡ 5) × (Between 1 16 a × (b ≡ 0))))) → 1 < k
    two = above-line k 2 1 (omega arith) three

-- "open: Q, deadlines, .. or store lengths not allowed"
pub means-opening : (o : Opening) → Means (opening_ok o) (OpeningIn o)
unfolding opening_ok
means-opening o =
    means-and (quarters_ok o.quarters) _ (means-quarters o.quarters)
    (λ _. means-and (deadlines_ok o.first.0 o.clearing.0 o.correction.0) _ (means-deadlines o.first.0 o.clearing.0 o.correction.0)
    (λ _. means-and (eqb o.book (162 * o.quarters)) _ (means-eq o.book (162 * o.quarters))
    (λ _. means-and (eqb (o.log % 4) 0) _ (means-eq (o.log % 4) 0)
    (λ _. means-eq o.schedules (64 * o.quarters)))))

-- a field of a point record
means-state : (s : PointState) → Means (state_ok s) (StateIn s)
means-state Free = record { holds = λ _. tt; fails = λ e _. true≢false e }
means-state (Active since kind area partner) = means-and (day_ok since.0) _ (means-day since.0) (λ _. means-series kind.0 area.0 partner.0)

-- rows and numbers of the values
means-rows : (o : Opening) (n : ℕ) → 1 ≤ o.quarters → Means (leb n (rows_in o)) (n * o.quarters ≤ o.values)
means-rows o n low =
    let both = le-div_iff_mul-le {k = o.quarters} {x = n} {y = o.values} (omega arith) in
    means-so (means-le n (rows_in o)) both.0 both.1

-- a field of a version record
means-record : (o : Opening) → 1 ≤ o.quarters → (v : VersionRecord) → Means (version_record_ok (rows_in o) v) (RecordIn o v)
means-record o low v =
    means-and (point_ok v.point.0) _ (means-point v.point.0)
    (λ _. means-and (version_ok v.version.0) _ (means-version v.version.0)
    (λ _. means-so (means-lt v.row.0 (rows_in o)) (λ h. (means-rows o (v.row.0 + 1) low).holds (le-leb (v.row.0 + 1) (rows_in o) (omega (arith, h)))) back))
  where
    back : (v.row.0 + 1) * o.quarters ≤ o.values → v.row.0 < rows_in o
    back h = go (leb (v.row.0 + 1) (rows_in o)) refl
      where
        go : (t : Bool) → leb (v.row.0 + 1) (rows_in o) ≡ t → v.row.0 < rows_in o
        go true e = omega (arith, leb-true (v.row.0 + 1) (rows_in o) e)
        go false e = absurd ((means-rows o (v.row.0 + 1) low).fails e h)

-- cause 1
pub means-valid : (d : Desk) → Means (valid_desk d) (Within d)
unfolding valid_desk frame_ok deltas_ok
means-valid d =
    means-and (frame_ok d.frame) _
    (means-and (opening_ok o) _ (means-opening o)
    (λ i. means-and (day_ok d.frame.day.0) _ (means-day d.frame.day.0)
    (λ _. means-and (deltas_ok gs) _ (means-and (all group_ok gs.first) _ (means-all group_ok (Between 1 64) 0 means-group gs.first) (λ _. means-all group_ok (Between 1 64) 0 means-group gs.second))
    (λ _. means-and (leb d.frame.count 512) _ (means-le d.frame.count 512)
    (λ _. means-and (leb (rows_used d.frame) (rows_in o)) _ (means-rows o d.frame.count i.0.0)
    (λ _. means-so (means-le d.frame.used (log_rows_in o)) (λ h. omega (arith, h)) (λ h. omega (arith, h))))))))
    (λ f. means-and (all point_record_ok d.points) _ (means-all point_record_ok (λ (r : PointRecord). StateIn r.state) free_point (λ r. means-state r.state) d.points)
    (λ _. means-all (version_record_ok (rows_in o)) (RecordIn o) empty_version (means-record o f.0.0.0) (versions_in d)))
  where
    o : Opening
    o = d.frame.opening

    gs : PerRun (List ℕ)
    gs = d.frame.groups

-- Activate and deactivate, accepted: the points follow, and no figure changes. Assumes nothing.
use Prim.Native.Nat.{ℕ, zero, suc, ◌≤◌, ◌<◌}
use mathlib.Core.Path.{◌≡◌, refl, sym, ap, ◌∙◌}
use mathlib.Core.Bool.{Bool, true, false, cond, not, ◌&&◌, true≢false}
use mathlib.Core.List.{List}
use native.Mathlib.Omega.{arith}
use native.Mathlib.Decide.{ℕ_discrete}
use borrow.Author.Tests.{eqb-true, eqb-false, not-false, not-true}
use lib.Dec.{eqb}
use lib.ListN.{length, length-set}
use Rattle.quantity.specs.Limits.{points, point_ok, day_ok}
use Rattle.quantity.specs.Lists.{all, fold}
use Rattle.quantity.proofs.Lists.{all-in, all-set, all-mono, any-false}
use Rattle.quantity.proofs.Tests.{and-left, and-right, within-low, within-high}
use Rattle.state.specs.Desk.{versions_in, desk_with, the_day, the_points}
use Rattle.state.specs.Point.{free_point, active_point, point_at, with_point, is_active, series_ok}
use Rattle.state.specs.Selection.{selected, is_counted, own}
use Rattle.state.specs.Valid.{point_record_ok}
use Rattle.state.specs.Version.{record_at, empty_version, is_at}
use Rattle.state.specs.declared.Desk.{Desk}
use Rattle.state.specs.declared.PointRecord.{PointRecord}
use Rattle.state.specs.declared.Selection.{Selection}
use Rattle.state.specs.declared.Selection.TheVariants.{None}
use Rattle.state.specs.declared.VersionRecord.{VersionRecord}
use Rattle.model.specs.Call.{activates, deactivates, Stores, lengths_of, Told}
use Rattle.model.specs.Plain.{after, worked_out, energies_of}
use Rattle.model.proofs.Books.{booked-same}
use Rattle.model.proofs.Figures.{figure-point}
use Rattle.model.proofs.Invariant.{Holds, Kept, Granted, tenanted, works_out, finish}
use Rattle.model.proofs.Selections.{best-none}
use Rattle.state.proofs.PointTable.{put-same, put-other}

-- no version at the point
abbrev pub empty : (point : ℕ) → List VersionRecord → Type 0
empty p vs = all (λ (v : VersionRecord). not (is_at p v)) vs ≡ true

-- then it has no selection
pub selected-none : (p : ℕ) (vs : List VersionRecord) → empty p vs → (run : ℕ) → selected run p vs ≡ None
selected-none p vs a run = rw (own-none 1, own-none 2) (go (eqb run 1))
  where
    own-none : (r : ℕ) → own r p vs ≡ None
    own-none r = best-none (is_counted r p) vs (λ j h. rw (not-true (is_at p (record_at vs j)) (all-in (λ (v : VersionRecord). not (is_at p v)) vs j empty_version a h)))

    go : (t : Bool) → ◌≡◌ {A = Selection} (cond t None None) None
    go true = refl
    go false = refl

-- a free point has no versions
pub free-empty : (ps : List PointRecord) (p : ℕ) (vs : List VersionRecord) → is_active (point_at ps p) ≡ false → all (tenanted ps) vs ≡ true → empty p vs
free-empty ps p vs n a = all-mono (tenanted ps) (tenanted ps) (λ (v : VersionRecord). not (is_at p v)) (λ v t _. go v t (is_at p v) refl) vs a a
  where
    go : (v : VersionRecord) → tenanted ps v ≡ true → (b : Bool) → is_at p v ≡ b → not b ≡ true
    go v t true e = absurd (true≢false (sym t ∙ ap (λ (i : ℕ). is_active (point_at ps i)) (eqb-true v.point.0 p e) ∙ n))
    go v t false e = refl

module _ (ps : List PointRecord) (p : ℕ) (r : PointRecord) where
  pub put-each : (f : PointRecord → Bool) → all f ps ≡ true → f r ≡ true → all f (with_point ps p r) ≡ true
  put-each f a b = go p
    where
      go : (p : ℕ) → all f (with_point ps p r) ≡ true
      go zero = a
      go (suc i) = all-set f ps i r a b

  pub put-length : length (with_point ps p r) ≡ length ps
  put-length = go p
    where
      go : (p : ℕ) → length (with_point ps p r) ≡ length ps
      go zero = refl
      go (suc i) = length-set ps i r

  -- versions stay at active points, if the point becomes active or has none
  homes-after : (vs : List VersionRecord) → (is_active r.state ≡ true) × (0 < p) × (p ≤ length ps) → all (tenanted ps) vs ≡ true → all (tenanted (with_point ps p r)) vs ≡ true
  homes-after vs (on, lo, hi) a = all-mono (tenanted ps) (tenanted ps) (tenanted (with_point ps p r)) (λ v t _. go v t (ℕ_discrete v.point.0 p)) vs a a
    where
      go : (v : VersionRecord) → tenanted ps v ≡ true → Dec (v.point.0 ≡ p) → tenanted (with_point ps p r) v ≡ true
      go v t (yes e) = ap (λ (i : ℕ). is_active (point_at (with_point ps p r) i)) e ∙ ap is_active (put-same ps p r lo hi) ∙ on
      go v t (no ne) = ap is_active (put-other ps p v.point.0 r ne) ∙ t

  pub homes-freed : (vs : List VersionRecord) → empty p vs → all (tenanted ps) vs ≡ true → all (tenanted (with_point ps p r)) vs ≡ true
  homes-freed vs n a =
      all-mono (λ (v : VersionRecord). not (is_at p v)) (tenanted ps) (tenanted (with_point ps p r))
      (λ v x t. ap is_active (put-other ps p v.point.0 r (eqb-false v.point.0 p (not-true (is_at p v) x))) ∙ t) vs n a

-- the invariant with another record at a point that has no versions
module _ (d : Desk) (s : Stores) (h : List Told) (H : Holds d s h) (p e : ℕ) (r : PointRecord) (good : point_record_ok r ≡ true) (day : day_ok e ≡ true)
    (none : empty p (versions_in d)) (homes : all (tenanted (with_point d.points p r)) (versions_in d) ≡ true) where
  put-kept : Kept (works_out (desk_with (desk_with d (the_points (with_point d.points p r))) (the_day e)) (worked_out h)) s
  put-kept =
      let K = H.kept in
      record {
        framed = record { opening = K.framed.opening; day = day; used = K.framed.used };
        grouped = K.grouped;
        pointed = record { each = put-each d.points p r point_record_ok K.pointed.each good; size = put-length d.points p r ∙ K.pointed.size };
        versioned = record { count = K.versioned.count; rows = K.versioned.rows; each = K.versioned.each; homes = homes };
        stored = K.stored;
        booked = booked-same d.frame.opening.quarters s.book _ _ (λ run k j _ _ _ _. figure-point d.points d.frame.groups (versions_in d) (energies_of h) p r (selected-none p (versions_in d) none) run k j) K.booked;
        values_long = K.values_long;
        log_long = K.log_long;
        logged = K.logged;
        scheduled = K.scheduled;
      }

pub activate-granted : (p k a b e : ℕ) → Granted (activates p k a b e)
unfolding after fold
activate-granted p k a b e d s h st H o P =
    let fields = not-false (point_ok p && (day_ok e && series_ok k a b)) P.1.0 in
    let in_p = and-left (point_ok p) _ fields in
    let rest = and-right (point_ok p) _ fields in
    let K = H.kept in
    let none = free-empty d.points p (versions_in d) P.1.1.1.1.0 K.versioned.homes in
    let homes = homes-after d.points p (active_point k a b e) (versions_in d) (refl, within-low 1 points p in_p, omega (arith, within-high 1 points p in_p, K.pointed.size)) K.versioned.homes in
    record {
      reply = refl;
      holds =
          finish d s h H (record { call = activates p k a b e; lengths = lengths_of st }) (desk_with (desk_with d (the_points (with_point d.points p (active_point k a b e)))) (the_day e)) s H.table H.used refl
          (put-kept d s h H p e (active_point k a b e) rest (and-left (day_ok e) _ rest) none homes);
    }

pub deactivate-granted : (p e : ℕ) → Granted (deactivates p e)
unfolding after fold
deactivate-granted p e d s h st H o P =
    let fields = not-false (point_ok p && day_ok e) P.1.0 in
    let K = H.kept in
    let none = any-false (is_at p) (versions_in d) P.1.1.1.1.1.0 in
    let homes = homes-freed d.points p free_point (versions_in d) none K.versioned.homes in
    record {
      reply = refl;
      holds =
          finish d s h H (record { call = deactivates p e; lengths = lengths_of st }) (desk_with (desk_with d (the_points (with_point d.points p free_point))) (the_day e)) s H.table H.used refl
          (put-kept d s h H p e free_point refl (and-right (point_ok p) _ fields) none homes);
    }

-- Submit, accepted: the series stands in its row of values, and book and log follow. Assumes nothing.
use Prim.Native.Nat.{ℕ, ◌+◌, ◌*◌, ◌≤◌, ◌<◌}
use mathlib.Core.Path.{◌≡◌, refl, sym, ap, ◌∙◌, subst}
use mathlib.Core.Bool.{true, false, ◌&&◌, ◌||◌}
use mathlib.Core.List.{List, ◌∷◌, ◌++◌, [], map}
use native.Mathlib.Omega.{arith}
use borrow.Author.Tests.{eqb-true, leb-false, ltb-false, lt-ltb, not-false}
use lib.Dec.{leb, ltb, eqb}
use lib.IntN.{ℤ}
use lib.ListN.{length, length-set, length-append, length-map, get_or-append}
use Rattle.quantity.specs.Limits.{points, versions, point_ok, version_ok, day_ok, energy_ok}
use Rattle.quantity.specs.Lists.{all, fold}
use Rattle.quantity.specs.Word.{word}
use Rattle.quantity.proofs.Tests.{and-left, and-right, and-both, or-left, or-right, within-low, within-high}
use Rattle.book.specs.Row.{splice}
use Rattle.book.proofs.Rows.{length-splice}
use Rattle.state.specs.Change.{submitted, submitted_desk}
use Rattle.state.specs.Desk.{rows_in, versions_in}
use Rattle.state.specs.Point.{point_at, is_active}
use Rattle.state.specs.Valid.{version_record_ok}
use Rattle.state.specs.Version.{new_version, empty_version}
use Rattle.state.specs.declared.Desk.{Desk}
use Rattle.state.specs.declared.VersionRecord.{VersionRecord}
use Rattle.state.proofs.Bounds.{fit-rows}
use Rattle.state.proofs.Kept.{submitted-versions}
use Rattle.state.proofs.Picks.{submit-other}
use Rattle.model.specs.Call.{submits, Stores, lengths_of, Told}
use Rattle.model.specs.Causes.{rules, submit_ok}
use Rattle.model.specs.Laws.{Passed}
use Rattle.model.specs.Log.{due, add_row, used_after}
use Rattle.model.specs.Plain.{worked, after, energies_of, log_of, schedules_of}
use Rattle.model.specs.Step.{followed, followed_desk, with_schedules}
use Rattle.model.specs.View.{view_of}
use Rattle.model.proofs.Books.{booked-same}
use Rattle.model.proofs.Changing.{changed-kept, left-holds, on-own}
use Rattle.model.proofs.Figures.{figure-energies}
use Rattle.model.proofs.Invariant.{Holds, Versioned, Done, Granted, tenanted, count-is, quarters-in, finish}
use Rattle.model.proofs.Lists.{all-snoc}
use Rattle.model.proofs.Logs.{used-rows}
use Rattle.model.proofs.Rules.{past}
use Rattle.model.proofs.Storing.{stored-more}

module _ (p x e : ℕ) (es : List ℤ) (d : Desk) (s : Stores) (h : List Told) (H : Holds d s h) (st : Stores) (P : Passed (rules (view_of d) (lengths_of st) (submits p x e es))) where
  -- the version that the call makes, the versions, the desk and the stores then, if its row of values is m
  abbrev new : ℕ → VersionRecord
  new m = new_version d.frame.opening.first.0 m p x e

  abbrev more : ℕ → List VersionRecord
  more m = submitted (new m) (versions_in d)

  abbrev desk : ℕ → Desk
  desk m = followed_desk d p e (more m) (submitted_desk d (new m))

  abbrev values : ℕ → List ℕ
  values m = splice s.values (m * d.frame.opening.quarters) d.frame.opening.quarters (map word es)

  abbrev stores : ℕ → Stores
  stores m = followed d s p e (more m) (values m)

  n : length (versions_in d) ≡ d.frame.count
  n = count-is d H.table

  fields : submit_ok p x e d.frame.opening.quarters es ≡ true
  fields = not-false (submit_ok p x e d.frame.opening.quarters es) (past 3 (rules (view_of d) (lengths_of st) (submits p x e es)) P)

  in_p : point_ok p ≡ true
  in_p = and-left (point_ok p) _ fields

  in_x : version_ok x ≡ true
  in_x = and-left (version_ok x) _ (and-right (point_ok p) _ fields)

  rest : (day_ok e && (eqb (length es) d.frame.opening.quarters && all energy_ok es)) ≡ true
  rest = and-right (version_ok x) _ (and-right (point_ok p) _ fields)

  -- a series of Q energies
  pub full : length es ≡ d.frame.opening.quarters
  full = eqb-true (length es) d.frame.opening.quarters (and-left (eqb (length es) d.frame.opening.quarters) _ (and-right (day_ok e) _ rest))

  free : (leb versions (length (versions_in d)) || ltb d.frame.opening.values ((length (versions_in d) + 1) * d.frame.opening.quarters)) ≡ false
  free = past 16 (rules (view_of d) (lengths_of st) (submits p x e es)) P

  below : length (versions_in d) < versions
  below = leb-false versions (length (versions_in d)) (or-left _ _ free)

  fits : (length (versions_in d) + 1) * d.frame.opening.quarters ≤ d.frame.opening.values
  fits = ltb-false d.frame.opening.values _ (or-right (leb versions (length (versions_in d))) _ free)

  room : length (versions_in d) * d.frame.opening.quarters + d.frame.opening.quarters ≤ length s.values
  room = omega (arith, fits, H.kept.values_long)

  row-in : length (versions_in d) < rows_in d.frame.opening
  row-in =
      let q = quarters-in d.frame.opening H.kept.framed.opening in
      omega (arith, fit-rows d.frame.opening q (length (versions_in d) + 1) fits)

  versioned : Versioned d.frame.opening d.points (more (length (versions_in d)))
  versioned =
      let O = H.kept.versioned in
      let m = length (versions_in d) in
      let longer = length-append (versions_in d) (new m ∷ []) in
      record {
        count = omega (arith, below);
        rows = omega (arith, row-in);
        each = all-snoc (version_record_ok (rows_in d.frame.opening)) (versions_in d) (new m) O.each (and-both (point_ok p) _ in_p (and-both (version_ok x) _ in_x (lt-ltb m (rows_in d.frame.opening) row-in)));
        homes = all-snoc (tenanted d.points) (versions_in d) (new m) O.homes (not-false (is_active (point_at d.points p)) (past 12 (rules (view_of d) (lengths_of st) (submits p x e es)) P));
      }

  -- with the next unused row, which is as many as there are versions
  holds : Holds (desk (length (versions_in d))) (stores (length (versions_in d))) (record { call = submits p x e es; lengths = lengths_of st } ∷ h)
  unfolding after fold
  holds =
      let K = H.kept in
      let T = H.table in
      let m = length (versions_in d) in
      let row = due (versions_in d) (more m) p e in
      let small = and-right (eqb (length es) d.frame.opening.quarters) _ (and-right (day_ok e) _ rest) in
      finish d s h H (record { call = submits p x e es; lengths = lengths_of st }) (desk m) (stores m)
      (record { size = length-set d.versions d.frame.count (new m) ∙ T.size; count = omega (arith, below, n) })
      (ap (used_after row) H.used ∙ used-rows row (log_of h))
      (ap (λ (l : List VersionRecord). worked d.frame.opening e d.points d.frame.groups l (energies_of h ++ (es ∷ [])) (add_row row (log_of h)) d.frame.closed d.frame.issued (schedules_of h))
      (submitted-versions d (new m) (omega (arith, below, n, T.size))))
      (changed-kept d s h H p e (within-low 1 points p in_p) (within-high 1 points p in_p) (and-left (day_ok e) _ rest) (more m) (values m) (energies_of h ++ (es ∷ [])) versioned
      (stored-more d.frame.opening.quarters s.values (versions_in d) (energies_of h) K.stored (new m) refl es room full small)
      (length-splice s.values (map word es) (m * d.frame.opening.quarters) d.frame.opening.quarters room (length-map es word ∙ full) ∙ K.values_long)
      (omega (arith, length-append (versions_in d) (new m ∷ [])))
      (λ i l. ap (λ (v : VersionRecord). v.row.0) (get_or-append (versions_in d) (new m ∷ []) empty_version i l))
      (λ r i ne. submit-other r i (new m) (versions_in d) (λ z. ne (sym z)))
      (booked-same d.frame.opening.quarters s.book _ _ (λ run k j _ _ _ _. figure-energies d.points d.frame.groups (versions_in d) (energies_of h) es K.stored.long run k j) K.booked)
      (past 17 (rules (view_of d) (lengths_of st) (submits p x e es)) P))

pub submit-granted : (p x e : ℕ) (es : List ℤ) → Granted (submits p x e es)
submit-granted p x e es d s h st H o P = on-own (submits p x e es) d s h st H o P.1.0 done P
  where
    done : (l : List ℕ) → Passed (rules (view_of d) (lengths_of (with_schedules s l)) (submits p x e es)) → Done d s h (submits p x e es) (with_schedules s l)
    done l P =
        let lent = with_schedules s l in
        let m = d.frame.count in
        record {
          reply = refl;
          holds =
              left-holds (desk p x e es d s h H lent P m) s (with_schedules (stores p x e es d s h H lent P m) l) (record { call = submits p x e es; lengths = lengths_of lent } ∷ h)
              (subst (λ (k : ℕ). Holds (desk p x e es d s h H lent P k) (stores p x e es d s h H lent P k) (record { call = submits p x e es; lengths = lengths_of lent } ∷ h)) (n p x e es d s h H lent P) (holds p x e es d s h H lent P));
        }

-- What accepted shows, reports and statuses tell, on a running desk in any state and on the plain desk. Assumes nothing.
use Prim.Native.Nat.{ℕ, ◌+◌, ◌-◌, ◌≤◌, ◌<◌}
use mathlib.Core.Path.{◌≡◌, refl, sym, ap, ◌∙◌}
use mathlib.Core.Bool.{false, ◌&&◌, true≢false}
use mathlib.Core.List.{List}
use native.Mathlib.Omega.{arith}
use borrow.Author.Tests.{eqb-true, eq-eqb, not-false}
use lib.Dec.{eqb}
use lib.IntN.{pos}
use lib.ListN.{length, take, length-take}
use lib.Seq.{get_or-take}
use Rattle.std.specs.Prelude.{Option, Some, None}
use Rattle.quantity.specs.Limits.{runs, groups, run_ok, group_ok}
use Rattle.quantity.proofs.Tests.{and-left, and-right, and-both, or-left, within-low, within-high}
use Rattle.book.specs.Place.{group_row, row_start}
use Rattle.book.proofs.Places.{row-within}
use Rattle.book.proofs.Rows.{length-part, part-at}
use Rattle.state.specs.Desk.{versions_in}
use Rattle.state.specs.Valid.{valid_desk}
use Rattle.state.specs.Version.{empty_version, record_at, is_at, is_version, held, HeldIn}
use Rattle.state.specs.declared.Desk.{Desk}
use Rattle.state.specs.declared.HeldVersion.{HeldVersion}
use Rattle.state.specs.declared.Status.{Status}
use Rattle.state.specs.declared.Status.TheVariants.{Check, Settlement, Settled, Correction, CorrectionSettled}
use Rattle.state.specs.declared.VersionRecord.{VersionRecord}
use Rattle.state.proofs.Bounds.{sound}
use Rattle.state.proofs.Picks.{held-right}
use Rattle.model.specs.Call.{shows, asks, reports, Stores, Lengths, lengths_of, Lent, Told, telling, answer_number}
use Rattle.model.specs.Causes.{rules, is_absent, other_lengths}
use Rattle.model.specs.Plain.{opening_of, versions_of, figure, schedule, view_in, plain_reply}
use Rattle.model.specs.Replies.{IsAccepted, Shows, PlainShows, PlainReports, HasNumber, TellsStatus}
use Rattle.model.specs.Step.{status_answer, step}
use Rattle.model.specs.View.{view_of}
use Rattle.model.specs.declared.Answer.TheVariants.{HasStatus}
use Rattle.model.proofs.Accepting.{lines-passed, is-granted, plain-passed, plain-granted}
use Rattle.model.proofs.Lists.{length-tab, tab-at}
use Rattle.model.proofs.Rules.{past}

-- ---- show and report

pub shows-there : (d : Desk) (s : Stores) (r g : ℕ) → IsAccepted (step d (record { call = shows r g; stores = s })).answer
    → Shows d.frame.opening.quarters r g s.book (step d (record { call = shows r g; stores = s })).part
unfolding other_lengths
shows-there d s r g ok =
    let l : Lent = record { call = shows r g; stores = s } in
    let P = lines-passed d l ok in
    let Q = d.frame.opening.quarters in
    let S = sound d (not-false (valid_desk d) P.0) in
    let long : length s.book ≡ d.frame.opening.book = eqb-true (length s.book) d.frame.opening.book (not-false (eqb (length s.book) d.frame.opening.book) (or-left _ _ P.1.1.0)) in
    let fields = not-false (run_ok r && group_ok g) P.1.1.1.0 in
    let in_r = and-left (run_ok r) _ fields in
    let row = row-within Q r (group_row g) (within-low 1 runs r in_r) (within-high 1 runs r in_r) (omega (arith, within-high 1 groups g (and-right (run_ok r) _ fields))) in
    let fits : row_start Q r (group_row g) + Q ≤ length s.book = omega (arith, row, long, S.book) in
    rw (is-granted d l ok)
    (record {
      some = S.quarters;
      size = length-part s.book (row_start Q r (group_row g)) Q fits;
      within = fits;
      there = λ n low high. part-at s.book (row_start Q r (group_row g)) Q (n - 1) 0 (omega arith);
    })

module _ (h : List Told) (m : Lengths) (r g : ℕ) where
  pub plain-shows : IsAccepted (plain_reply h (telling m (shows r g))).answer → PlainShows (opening_of h).quarters r g (figure h) (plain_reply h (telling m (shows r g))).row
  plain-shows ok =
      let Q = (opening_of h).quarters in
      rw (plain-granted h (telling m (shows r g)) ok)
      (record { size = length-tab Q (figure h r (group_row g)); there = λ n low high. tab-at Q (figure h r (group_row g)) (n - 1) (pos 0) (omega arith) })

  pub plain-reports : IsAccepted (plain_reply h (telling m (reports r g))).answer
      → PlainReports (opening_of h).quarters r g (schedule h) (figure h) (plain_reply h (telling m (reports r g))).surplus (plain_reply h (telling m (reports r g))).shortfall
  plain-reports ok = rw (plain-granted h (telling m (reports r g)) ok) (record { surplus = refl; shortfall = refl })

-- ---- status

-- the five numbers
numbered : (s : Status) → HasNumber s (answer_number (HasStatus s))
numbered Check = refl
numbered Settlement = refl
numbered Settled = refl
numbered Correction = refl
numbered CorrectionSettled = refl

-- what is found among the first records of a table stands in the table
pub held-within : (p x n : ℕ) (vs : List VersionRecord) (h : Option HeldVersion) → HeldIn p x (take n vs) (length (take n vs)) h → HeldIn p x vs (length (take n vs)) h
held-within p x n vs h q = go h q
  where
    same : (j : ℕ) → j < length (take n vs) → record_at vs j ≡ record_at (take n vs) j
    same j l = sym (get_or-take n vs j empty_version (omega (arith, length-take n vs)))

    go : (h : Option HeldVersion) → HeldIn p x (take n vs) (length (take n vs)) h → HeldIn p x vs (length (take n vs)) h
    go None q = λ j l. ap (is_version p x) (same j l) ∙ q j l
    go (Some h) q =
        record {
          within = q.within;
          found = ap (is_version p x) (same h.at q.within) ∙ q.found;
          here = same h.at q.within ∙ q.here;
          first = λ j l. ap (is_version p x) (same j (omega (arith, q.within))) ∙ q.first j l;
        }

-- the version found tells its status
tells : (p x n count : ℕ) (vs : List VersionRecord) (h : Option HeldVersion) → HeldIn p x vs n h → n ≤ count → is_absent h ≡ false → TellsStatus p x count vs (answer_number (status_answer h))
unfolding is_absent status_answer
tells p x n count vs None q few e = absurd (true≢false e)
tells p x n count vs (Some h) q few e =
    record {
      at = h.at;
      within = omega (arith, q.within);
      of_point = eqb-true (record_at vs h.at).point.0 p (and-left (is_at p (record_at vs h.at)) _ q.found);
      numbered = eqb-true (record_at vs h.at).version.0 x (and-right (is_at p (record_at vs h.at)) _ q.found);
      first = λ j l a b. true≢false (sym (and-both (is_at p (record_at vs j)) _ (eq-eqb (record_at vs j).point.0 p a) (eq-eqb (record_at vs j).version.0 x b)) ∙ q.first j l);
      number = rw q.here (numbered h.record.status);
    }

pub status-told : (d : Desk) (s : Stores) (p x : ℕ) → IsAccepted (step d (record { call = asks p x; stores = s })).answer
    → TellsStatus p x d.frame.count d.versions (answer_number (step d (record { call = asks p x; stores = s })).answer)
status-told d s p x ok =
    let l : Lent = record { call = asks p x; stores = s } in
    let n = d.frame.count in
    rw (is-granted d l ok)
    (tells p x (length (versions_in d)) n d.versions (held p x (versions_in d)) (held-within p x n d.versions (held p x (versions_in d)) (held-right p x (versions_in d))) (omega (arith, length-take n d.versions))
    (past 24 (rules (view_of d) (lengths_of s) (asks p x)) (lines-passed d l ok).1))

pub plain-status-told : (h : List Told) (m : Lengths) (p x : ℕ) → IsAccepted (plain_reply h (telling m (asks p x))).answer
    → TellsStatus p x (length (versions_of h)) (versions_of h) (answer_number (plain_reply h (telling m (asks p x))).answer)
unfolding view_in
plain-status-told h m p x ok =
    let vs = versions_of h in
    rw (plain-granted h (telling m (asks p x)) ok)
    (tells p x (length vs) (length vs) vs (held p x vs) (held-right p x vs) (omega arith) (past 24 (rules (view_in h) m (asks p x)) (plain-passed h (telling m (asks p x)) ok)))

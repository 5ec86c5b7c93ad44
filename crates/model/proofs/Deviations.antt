-- Lodge and report, accepted: the group's schedule is replaced, and the sums are the plain desk's. Assumes nothing.
use Prim.Native.Nat.{ℕ, zero, suc, ◌+◌, ◌-◌, ◌*◌, ◌≤◌}
use mathlib.Core.Path.{◌≡◌, refl, sym, ap, ◌∙◌}
use mathlib.Core.Bool.{true, false, not, ◌&&◌}
use mathlib.Core.List.{List, [], map}
use mathlib.Core.Logic.{⊎_elim}
use native.Mathlib.Nat.{suc-mul}
use native.Mathlib.Omega.{arith}
use borrow.Author.Tests.{eqb-true, not-false}
use lib.Dec.{eqb}
use lib.IntN.{ℤ, pos}
use lib.ListN.{length, length-map, get_or-map}
use Rattle.quantity.specs.Limits.{runs, groups, most_quarters, group_ok, day_ok, run_ok, quarters_ok}
use Rattle.quantity.specs.Lists.{fold}
use Rattle.quantity.specs.Sum.{sum_to}
use Rattle.quantity.specs.Word.{word, signed}
use Rattle.quantity.proofs.Tests.{and-left, and-right, or-left, within-low, within-high}
use Rattle.book.specs.Place.{group_row}
use Rattle.book.specs.Row.{splice}
use Rattle.book.proofs.Rows.{length-splice, splice-in, splice-before, splice-after}
use Rattle.deviation.specs.Laws.{Sums}
use Rattle.deviation.specs.Month.{month_surplus, month_shortfall}
use Rattle.deviation.specs.Place.{schedule_start}
use Rattle.deviation.proofs.Months.{month-sums, surplus-exact, shortfall-exact}
use Rattle.deviation.proofs.Reports.{planned-within}
use Rattle.state.specs.Desk.{desk_with, the_day}
use Rattle.state.specs.Valid.{opening_ok, frame_ok, valid_desk}
use Rattle.state.specs.declared.Desk.{Desk}
use Rattle.model.specs.Agreement.{left}
use Rattle.model.specs.Call.{lodges, reports, the_schedules, book_and_schedules, Stores, lengths_of, Lent, Told, told, Reply}
use Rattle.model.specs.Causes.{lodge_ok, other_lengths}
use Rattle.model.specs.Laws.{Lodges}
use Rattle.model.specs.Plain.{Worked, after, figure, schedule, surplus_at, shortfall_at, schedules_of}
use Rattle.model.specs.Step.{with_schedules, lines, refusal_by, decided, step}
use Rattle.model.specs.declared.Answer.TheVariants.{Accepted}
use Rattle.model.proofs.CauseLaws.{accepted-passed}
use Rattle.model.proofs.Ends.{figure-word, schedule-word, small-figure, small-schedule}
use Rattle.model.proofs.Invariant.{Holds, Granted, finish, holds-open, schedules-is}
use Rattle.model.proofs.Lending.{schedules-own, both-own, left-own, left-schedules}
use Rattle.model.proofs.Rules.{passed-fine}
use Rattle.model.proofs.Schedules.{lodged-scheduled}

pub lodge-granted : (g e : ℕ) (es : List ℤ) → Granted (lodges g e es)
unfolding after fold
lodge-granted g e es d s h st H o P =
    let Q = d.frame.opening.quarters in
    let fields = not-false (lodge_ok g e Q es) P.1.1.0 in
    let in_g = and-left (group_ok g) _ fields in
    let rest = and-right (group_ok g) _ fields in
    let series = and-right (day_ok e) _ rest in
    let K = H.kept in
    let own : st.schedules ≡ s.schedules = schedules-own d.frame.opening s st (holds-open d s h H) o P.1.0 in
    let lodging : List ℕ → List ℕ = λ (l : List ℕ). splice l (schedule_start Q g) Q (map word es) in
    let S = lodged-scheduled Q s.schedules (schedules_of h) K.scheduled (group_row g) (omega (arith, within-low 1 groups g in_g, within-high 1 groups g in_g)) es (eqb-true (length es) Q (and-left (eqb (length es) Q) _ series)) (and-right (eqb (length es) Q) _ series) in
    let kept : left d.frame.opening the_schedules s (with_schedules st (lodging st.schedules)) ≡ with_schedules s (lodging s.schedules) =
    left-schedules d.frame.opening s (with_schedules st (lodging st.schedules)) (ap (λ (l : List ℕ). length (lodging l)) own ∙ S.size ∙ sym (schedules-is d.frame.opening K.framed.opening))
    ∙ ap (λ (l : List ℕ). with_schedules s (lodging l)) own in
    record {
      reply = refl;
      holds =
          rw kept
          (finish d s h H (record { call = lodges g e es; lengths = lengths_of st }) (desk_with d (the_day e)) (with_schedules s (lodging s.schedules)) H.table H.used refl
          (record {
            framed = record { opening = K.framed.opening; day = and-left (day_ok e) _ rest; used = K.framed.used };
            grouped = K.grouped;
            pointed = K.pointed;
            versioned = K.versioned;
            stored = K.stored;
            booked = K.booked;
            values_long = K.values_long;
            log_long = K.log_long;
            logged = K.logged;
            scheduled = S;
          }));
    }

-- the sums from the two stores, read as signed numbers, are exact
module _ (d : Desk) (s : Stores) (h : List Told) (H : Holds d s h) (r g : ℕ) (r1 : 1 ≤ r) (r2 : r ≤ runs) (g1 : 1 ≤ g) (g2 : g ≤ groups) where
  few : d.frame.opening.quarters ≤ most_quarters
  unfolding opening_ok
  few = within-high 1 2980 d.frame.opening.quarters (and-left (quarters_ok d.frame.opening.quarters) _ H.kept.framed.opening)

  sum-surplus : signed (month_surplus s.schedules s.book d.frame.opening.quarters r g) ≡ sum_to d.frame.opening.quarters (λ (n : ℕ). surplus_at h r g (n - 1))
  sum-surplus =
      surplus-exact s.schedules s.book d.frame.opening.quarters r g few (schedule h g) (figure h r (group_row g))
      (λ k l. (schedule-word d s h H g k g1 g2 l, omega (arith, small-schedule d s h H g k)))
      (λ k l. (figure-word d s h H r (group_row g) k r1 r2 (omega arith) l, omega (arith, small-figure d s h H r (group_row g) k)))

  sum-shortfall : signed (month_shortfall s.schedules s.book d.frame.opening.quarters r g) ≡ sum_to d.frame.opening.quarters (λ (n : ℕ). shortfall_at h r g (n - 1))
  sum-shortfall =
      shortfall-exact s.schedules s.book d.frame.opening.quarters r g few (schedule h g) (figure h r (group_row g))
      (λ k l. (schedule-word d s h H g k g1 g2 l, omega (arith, small-schedule d s h H g k)))
      (λ k l. (figure-word d s h H r (group_row g) k r1 r2 (omega arith) l, omega (arith, small-figure d s h H r (group_row g) k)))

pub report-granted : (r g : ℕ) → Granted (reports r g)
unfolding after fold
report-granted r g d s h st H o P =
    let Q = d.frame.opening.quarters in
    let fields = not-false (run_ok r && group_ok g) P.1.1.0 in
    let in_r = and-left (run_ok r) _ fields in
    let in_g = and-right (run_ok r) _ fields in
    let r1 = within-low 1 runs r in_r in
    let r2 = within-high 1 runs r in_r in
    let g1 = within-low 1 groups g in_g in
    let g2 = within-high 1 groups g in_g in
    let e = holds-open d s h H in
    let own = both-own d.frame.opening s st e o P.1.0 in
    let over : signed (month_surplus st.schedules st.book Q r g) ≡ sum_to Q (λ (n : ℕ). surplus_at h r g (n - 1)) = rw (own.0, own.1) (sum-surplus d s h H r g r1 r2 g1 g2) in
    let under : signed (month_shortfall st.schedules st.book Q r g) ≡ sum_to Q (λ (n : ℕ). shortfall_at h r g (n - 1)) = rw (own.0, own.1) (sum-shortfall d s h H r g r1 r2 g1 g2) in
    record {
      reply =
          (λ i. reported (over i) (under i))
          ∙ ap (λ (w : Worked). reported (sum_to w.opening.quarters (λ (n : ℕ). surplus_at h r g (n - 1))) (sum_to w.opening.quarters (λ (n : ℕ). shortfall_at h r g (n - 1)))) H.works;
      holds =
          rw (left-own d.frame.opening s st e book_and_schedules o)
          (finish d s h H (record { call = reports r g; lengths = lengths_of st }) d s H.table H.used refl H.kept);
    }
  where
    reported : ℤ → ℤ → Reply
    reported a b = record { answer = Accepted; row = []; surplus = a; shortfall = b }

-- ---- said in other words, on a desk in any state

-- row g - 1 ends at g × Q
row-ends : (g q : ℕ) → 1 ≤ g → (g - 1) * q + q ≡ g * q
row-ends zero q h = absurd (omega arith)
row-ends (suc g) q h = let e : suc g - 1 ≡ g = omega arith in rw (e, suc-mul g q)

module _ (d : Desk) (s : Stores) where
  -- the desk is within its limits where a call of an open desk is accepted
  opened : not (valid_desk d) ≡ false → opening_ok d.frame.opening ≡ true
  unfolding valid_desk frame_ok
  opened v = and-left (opening_ok d.frame.opening) _ (and-left (frame_ok d.frame) _ (not-false (valid_desk d) v))

  -- an accepted lodging
  pub lodges-there : (g day : ℕ) (es : List ℤ) → (step d (record { call = lodges g day es; stores = s })).answer ≡ Accepted
      → Lodges d.frame.opening.quarters g es s.schedules (step d (record { call = lodges g day es; stores = s })).stores.schedules
  unfolding step decided refusal_by other_lengths word
  lodges-there g day es e =
      let l : Lent = record { call = lodges g day es; stores = s } in
      let P = accepted-passed d l e in
      let Q = d.frame.opening.quarters in
      let fields = not-false (lodge_ok g day Q es) P.1.1.1.0 in
      let in_g = and-left (group_ok g) _ fields in
      let low = within-low 1 groups g in_g in
      let high = within-high 1 groups g in_g in
      let series = and-right (day_ok day) _ (and-right (group_ok g) _ fields) in
      let long = eqb-true (length s.schedules) d.frame.opening.schedules (not-false _ (or-left _ _ P.1.1.0)) ∙ schedules-is d.frame.opening (opened P.0) in
      let fits : schedule_start Q g + Q ≤ length s.schedules = omega (arith, planned-within Q g low high, long) in
      let full : length (map word es) ≡ Q = length-map es word ∙ eqb-true (length es) Q (and-left (eqb (length es) Q) _ series) in
      let row = map word es in
      rw (passed-fine (lines d (told l)) P)
      (record {
        there = λ n lo hi. splice-in s.schedules row (schedule_start Q g) Q fits full (n - 1) 0 (omega arith) ∙ get_or-map word es (n - 1) (pos 0);
        others = λ i. ⊎_elim (splice-before s.schedules row (schedule_start Q g) Q fits full i 0)
            (λ h. splice-after s.schedules row (schedule_start Q g) Q fits full i 0 (omega (arith, h, row-ends g Q low)));
        size = length-splice s.schedules row (schedule_start Q g) Q fits full;
      })

  -- an accepted report: "the larger of 0 and schedule minus figure" of this run and group, summed over the month
  pub report-sums : (r g : ℕ) → (step d (record { call = reports r g; stores = s })).answer ≡ Accepted
      → Sums s.schedules s.book d.frame.opening.quarters r g (step d (record { call = reports r g; stores = s })).surplus (step d (record { call = reports r g; stores = s })).shortfall
  unfolding step decided refusal_by
  report-sums r g e =
      let l : Lent = record { call = reports r g; stores = s } in
      rw (passed-fine (lines d (told l)) (accepted-passed d l e)) (month-sums s.schedules s.book d.frame.opening.quarters r g)

-- When a submission or a notice makes a log row due, in the paper's words. Assumes nothing.
use Prim.Native.Nat.{ℕ, ◌+◌, ◌*◌, ◌≤◌, ◌<◌}
use mathlib.Core.Path.{◌≡◌, refl, sym, ap, ◌∙◌, subst}
use mathlib.Core.Bool.{Bool, true, false, and-false, true≢false, false≢true}
use mathlib.Core.List.{List}
use native.Mathlib.Omega.{arith}
use borrow.Author.Tests.{leb-true, leb-false, eqb-true, eqb-false, eq-eqb, ne_eqb, le-leb, lt-leb, not-false}
use lib.Dec.{leb, eqb}
use lib.ListN.{length}
use Rattle.std.specs.Prelude.{Option, Some, None}
use Rattle.quantity.specs.Meaning.{Means}
use Rattle.quantity.proofs.Meanings.{means-lt, means-so, means-never, means-le, means-eq}
use Rattle.quantity.proofs.Tests.{and-right}
use Rattle.state.specs.Change.{submitted, noticed}
use Rattle.state.specs.Selection.{row_at, raise_earlier, version_of, is_counted, own, with_status, highest, Highest}
use Rattle.state.specs.Status.{is_check, counts, confirmed_status}
use Rattle.state.specs.Version.{new_version, restatus, record_at, is_at, held, HeldIn, held_version}
use Rattle.state.specs.declared.HeldVersion.{HeldVersion}
use Rattle.state.specs.declared.Selection.{Selection}
use Rattle.state.specs.declared.Selection.TheVariants.{None, Selected}
use Rattle.state.specs.declared.Status.TheVariants.{Check}
use Rattle.state.specs.declared.VersionRecord.{VersionRecord}
use Rattle.state.specs.declared.VersionRow.{VersionRow}
use Rattle.state.proofs.Kept.{is-check, notice-negative, notice-own}
use Rattle.state.proofs.Picks.{best-newest, held-right, own-highest, own-most, submit-check}
use Rattle.model.specs.Causes.{not_check, log_full}
use Rattle.model.specs.Log.{differ, log_row, due}
use Rattle.model.specs.declared.LogRow.{LogRow}
use Rattle.model.proofs.Logs.{differ-same, due-same}

-- what holds passes its test
yes-of : {P : Type 0} (t : Bool) → Means t P → P → t ≡ true
yes-of true m p = refl
yes-of false m p = absurd (m.fails refl p)

-- a row is due exactly where a test holds
by-change : {P : Type 0} (used log : ℕ) (o : Option LogRow) (t : Bool) → Means t P → (t ≡ true → (r : LogRow) × (o ≡ Some r)) → (t ≡ false → o ≡ None) → Means (log_full used log o) (P × (log < 4 * (used + 1)))
by-change used log o true m row none =
    let r = row refl in
    rw r.1 (means-so (means-lt log (4 * (used + 1))) (λ h. (m.holds refl, h)) (λ q. q.1))
by-change used log o false m row none = rw (none refl) (means-never (λ q. m.fails refl q.0))

module _ (vs ws : List VersionRecord) (p d : ℕ) where
  changed-first : differ (own 1 p vs) (own 1 p ws) ≡ true → due vs ws p d ≡ Some (log_row d p 1 (own 1 p ws))
  unfolding due
  changed-first e = rw e

  changed-second : own 1 p ws ≡ own 1 p vs → differ (own 2 p vs) (own 2 p ws) ≡ true → due vs ws p d ≡ Some (log_row d p 2 (own 2 p ws))
  unfolding due
  changed-second e h = rw (e, differ-same (own 1 p vs), h)

  changed-neither : differ (own 1 p vs) (own 1 p ws) ≡ false → differ (own 2 p vs) (own 2 p ws) ≡ false → due vs ws p d ≡ None
  unfolding due
  changed-neither e h = rw (e, h)

same-differ : (s t : Selection) → t ≡ s → differ s t ≡ false
same-differ s t e = rw e (differ-same s)

-- ---- a submission whose version is above all of its point

module _ (vs : List VersionRecord) (f row p x d : ℕ) (above : highest p vs < x) where
  -- the version that it makes
  abbrev new : VersionRecord
  new = new_version f row p x d

  outside : (s : Selection) → Highest (is_counted 1 p) vs (length vs) s → differ s (Selected (row_at (length vs) new)) ≡ true
  unfolding differ
  outside None h = refl
  outside (Selected r) h = rw (ne_eqb r.at (length vs) (λ e. omega (arith, h.within, e)))

  -- "Status 2 if day ≤ F, else 1.": by F run 1 selects it
  submit-chosen : leb d f ≡ true → own 1 p (submitted new vs) ≡ Selected (row_at (length vs) new)
  submit-chosen e =
      let passes : is_counted 1 p new ≡ true = rw (e, eq-eqb p p refl) in
      best-newest (is_counted 1 p) vs new passes (omega (arith, above, own-most 1 p vs))

  pub submit-taken : leb d f ≡ true → version_of (own 1 p (submitted new vs)) ≡ x
  submit-taken e = ap version_of (submit-chosen e)

  -- so a row is due exactly by F
  pub submit-due : leb d f ≡ true → due vs (submitted new vs) p d ≡ Some (log_row d p 1 (own 1 p (submitted new vs)))
  submit-due e = changed-first vs (submitted new vs) p d (ap (differ (own 1 p vs)) (submit-chosen e) ∙ outside (own 1 p vs) (own-highest 1 p vs))

  pub submit-undue : leb d f ≡ false → due vs (submitted new vs) p d ≡ None
  submit-undue e = due-same vs (submitted new vs) p d (λ r. ap (with_status Check) (submit-check r p new vs (rw e)))

  pub means-submit-due : (used log : ℕ) → Means (log_full used log (due vs (submitted new vs) p d)) ((d ≤ f) × (log < 4 * (used + 1)))
  means-submit-due used log = by-change used log (due vs (submitted new vs) p d) (leb d f) (means-le d f) (λ e. (_, submit-due e)) submit-undue

-- ---- a notice on the highest version of its point, which is check data

-- a negative one owes no row
pub notice-undue : (vs : List VersionRecord) (c p x y d : ℕ) → eqb y 1 ≡ false → due vs (noticed c p x y d vs) p d ≡ None
notice-undue vs c p x y d e =
    let same = notice-negative c p x y d vs (eqb-false y 1 e) in
    due-same vs (noticed c p x y d vs) p d (λ r. ap (λ (l : List VersionRecord). with_status Check (own r p l)) same)

-- where 25 does not hold, the version found is check data
pub check-held : (h : Option HeldVersion) → not_check h ≡ false → (i : ℕ) × ((v : VersionRecord) × ((h ≡ Some (held_version i v)) × (v.status ≡ Check)))
unfolding not_check
check-held None e = absurd (true≢false e)
check-held (Some h) e = (h.at, (h.record, (refl, is-check h.record.status (not-false (is_check h.record.status) e))))

module _ (vs : List VersionRecord) (c p x d i : ℕ) (v : VersionRecord) (found : held p x vs ≡ Some (held_version i v)) (check : v.status ≡ Check) (top : highest p vs ≤ x) where
  held_right : HeldIn p x vs (length vs) (Some (held_version i v))
  held_right = subst (HeldIn p x vs (length vs)) found (held-right p x vs)

  number : v.version.0 ≡ x
  number = let named = rw held_right.here at held_right.found in eqb-true v.version.0 x (and-right (is_at p v) _ named)

  -- the record as the notice leaves it
  abbrev turned : VersionRow
  turned = row_at i (restatus (confirmed_status c d) v)

  -- a run has not selected it before: check data counts in none
  another : (run : ℕ) → differ (own run p vs) (Selected turned) ≡ true
  unfolding differ
  another run = go (own run p vs) (own-highest run p vs)
    where
      go : (s : Selection) → Highest (is_counted run p) vs (length vs) s → differ s (Selected turned) ≡ true
      go None h = refl
      go (Selected r) h = rw (ne_eqb r.at i apart)
        where
          apart : r.at ≡ i → ⊥
          apart e =
              let uncounted : is_counted run p (record_at vs i) ≡ false = rw (held_right.here, check, and-false (is_at p v)) in
              false≢true (sym uncounted ∙ subst (λ (j : ℕ). is_counted run p (record_at vs j) ≡ true) e h.passes)

  -- the run in which its status then counts selects it
  notice-chosen : (run : ℕ) → counts run (confirmed_status c d) ≡ true → own run p (noticed c p x 1 d vs) ≡ Selected turned
  notice-chosen run e = notice-own run c p x d i v vs found check ∙ rw e (go (own run p vs) (own-most run p vs))
    where
      go : (s : Selection) → version_of s ≤ highest p vs → raise_earlier s turned ≡ Selected turned
      go None h = refl
      go (Selected r) h = rw (le-leb r.version.0 v.version.0 (omega (arith, h, top, number)))

  pub notice-taken : (run : ℕ) → counts run (confirmed_status c d) ≡ true → version_of (own run p (noticed c p x 1 d vs)) ≡ x
  notice-taken run e = ap version_of (notice-chosen run e) ∙ number

  -- so a row is due: of run 1 up to C, of run 2 after it
  pub notice-first : d ≤ c → due vs (noticed c p x 1 d vs) p d ≡ Some (log_row d p 1 (own 1 p (noticed c p x 1 d vs)))
  notice-first h =
      changed-first vs (noticed c p x 1 d vs) p d (ap (differ (own 1 p vs)) (notice-chosen 1 (rw (le-leb d c h))) ∙ another 1)

  pub notice-second : c < d → due vs (noticed c p x 1 d vs) p d ≡ Some (log_row d p 2 (own 2 p (noticed c p x 1 d vs)))
  notice-second h =
      changed-second vs (noticed c p x 1 d vs) p d (notice-own 1 c p x d i v vs found check ∙ rw (lt-leb d c h))
      (ap (differ (own 2 p vs)) (notice-chosen 2 (rw (lt-leb d c h))) ∙ another 2)

  -- exactly a positive one
  pub means-notice-due : (y used log : ℕ) → Means (log_full used log (due vs (noticed c p x y d vs) p d)) ((y ≡ 1) × (log < 4 * (used + 1)))
  means-notice-due y used log = by-change used log (due vs (noticed c p x y d vs) p d) (eqb y 1) (means-eq y 1) row (notice-undue vs c p x y d)
    where
      by-day : (t : Bool) → leb d c ≡ t → (r : LogRow) × (due vs (noticed c p x 1 d vs) p d ≡ Some r)
      by-day true e = (_, notice-first (leb-true d c e))
      by-day false e = (_, notice-second (leb-false d c e))

      row : eqb y 1 ≡ true → (r : LogRow) × (due vs (noticed c p x y d vs) p d ≡ Some r)
      row e = subst (λ (z : ℕ). (r : LogRow) × (due vs (noticed c p x z d vs) p d ≡ Some r)) (sym (eqb-true y 1 e)) (by-day (leb d c) refl)

-- Laws of what calls make of the versions: which selections stay, what exactly a notice and settling change, and that the desk's table and the
-- list of the versions held change alike. Assumes nothing.
use Prim.Native.Nat.{ℕ, ◌≤◌, ◌<◌}
use mathlib.Core.Path.{◌≡◌, refl, sym, ap, ◌∙◌, subst}
use mathlib.Core.Bool.{Bool, true, false, cond, ◌&&◌, and-false, false≢true}
use mathlib.Core.List.{List}
use native.Mathlib.Decide.{ℕ_discrete}
use native.Mathlib.Numerals.{add-one}
use native.Mathlib.Omega.{arith}
use borrow.Author.Tests.{eqb-true, eq-eqb, ne_eqb}
use lib.Dec.{eqb}
use lib.ListN.{length, take, set, length-map, get_or-map}
use lib.Seq.{length-take-le, take-set-lt, take-suc-set}
use Rattle.std.specs.Prelude.{Option, Some, None}
use Rattle.quantity.proofs.Tests.{by-test, and-left, and-right, and-both}
use Rattle.state.proofs.Lists.{take-map_first}
use Rattle.state.proofs.Picks.{best-set, best-comes, reread, best-reread, held-right, own-highest, own-tells}
use Rattle.state.specs.Change.{submitted, confirm, noticed, settle, settled_by, submitted_desk, noticed_desk, settled_desk}
use Rattle.state.specs.Desk.{versions_in}
use Rattle.state.specs.Selection.{row_at, raise_earlier, version_of, is_counted, own, with_status, SameVersion, IsHighest, Highest}
use Rattle.state.specs.Status.{counts, is_check, confirmed_status, settled_status}
use Rattle.state.specs.Version.{empty_version, restatus, record_at, is_at, is_version, held, HeldIn, held_version}
use Rattle.state.specs.declared.Desk.{Desk}
use Rattle.state.specs.declared.HeldVersion.{HeldVersion}
use Rattle.state.specs.declared.Selection.{Selection}
use Rattle.state.specs.declared.Selection.TheVariants.{None, Selected}
use Rattle.state.specs.declared.Status.{Status}
use Rattle.state.specs.declared.Status.TheVariants.{Check, Settlement, Settled, Correction, CorrectionSettled}
use Rattle.state.specs.declared.VersionRecord.{VersionRecord}
use Rattle.state.specs.declared.VersionRow.{VersionRow}

-- ---- a notice

-- what passes the test of check data has that status
pub is-check : (s : Status) → is_check s ≡ true → s ≡ Check
is-check Check e = refl
is-check Settlement e = absurd (false≢true e)
is-check Settled e = absurd (false≢true e)
is-check Correction e = absurd (false≢true e)
is-check CorrectionSettled e = absurd (false≢true e)

-- "Negative changes no status."
pub notice-negative : (c p x y d : ℕ) (vs : List VersionRecord) → (y ≡ 1 → ⊥) → noticed c p x y d vs ≡ vs
notice-negative c p x y d vs ne = go (held p x vs)
  where
    go : (h : Option HeldVersion) → confirm c y d h vs ≡ vs
    go None = refl
    go (Some h) = rw (ne_eqb y 1 ne)

-- "Positive turns status 1 into 2 if day ≤ C, else 4.": exactly the record found is restated
pub notice-positive : (c p x d i : ℕ) (v : VersionRecord) (vs : List VersionRecord) → held p x vs ≡ Some (held_version i v) → v.status ≡ Check
    → noticed c p x 1 d vs ≡ set vs i (restatus (confirmed_status c d) v)
notice-positive c p x d i v vs e s = rw (e, s)

-- and the point's own selection in a run takes it where its new status counts: no record of its number stands before it
pub notice-own : (run c p x d i : ℕ) (v : VersionRecord) (vs : List VersionRecord) → held p x vs ≡ Some (held_version i v) → v.status ≡ Check
    → own run p (noticed c p x 1 d vs) ≡ cond (counts run (confirmed_status c d)) (raise_earlier (own run p vs) (row_at i (restatus (confirmed_status c d) v))) (own run p vs)
notice-own run c p x d i v vs e check =
    let h : HeldIn p x vs (length vs) (Some (held_version i v)) = subst (HeldIn p x vs (length vs)) e (held-right p x vs) in
    let f = is_counted run p in
    let s = confirmed_status c d in
    let found : is_version p x v ≡ true = rw h.here at h.found in
    let here = and-left (is_at p v) _ found in
    let off : f (record_at vs i) ≡ false = rw (h.here, check, and-false (is_at p v)) in
    let number = eqb-true v.version.0 x (and-right (is_at p v) _ found) in
    rw (notice-positive c p x d i v vs e check)
    (by-test (λ (r : Selection). own run p (set vs i (restatus s v)) ≡ r) (counts run s) (raise_earlier (own run p vs) (row_at i (restatus s v))) (own run p vs)
    (λ on. best-comes f vs i (restatus s v) h.within off (rw (here, on))
    (λ j l t n. false≢true (sym (h.first j l) ∙ and-both (is_at p (record_at vs j)) _ (and-left (is_at p (record_at vs j)) _ t) (eq-eqb (record_at vs j).version.0 x (n ∙ number)))))
    (λ on. best-set f vs i (restatus s v) off (rw (on, and-false (is_at p v)))))

-- a notice at one point leaves the selection of every other
pub notice-other : (run q c p x y d : ℕ) (vs : List VersionRecord) → (p ≡ q → ⊥) → own run q (noticed c p x y d vs) ≡ own run q vs
notice-other run q c p x y d vs ne = go (held p x vs) (held-right p x vs)
  where
    go : (h : Option HeldVersion) → HeldIn p x vs (length vs) h → own run q (confirm c y d h vs) ≡ own run q vs
    go None k = refl
    go (Some h) k =
        let found : is_version p x h.record ≡ true = rw k.here at k.found in
        let e = eqb-true h.record.point.0 p (and-left (is_at p h.record) _ found) in
        let off = ne_eqb h.record.point.0 q (λ j. ne (sym e ∙ j)) in
        by-test (λ (l : List VersionRecord). own run q l ≡ own run q vs) (eqb y 1 && is_check h.record.status) (set vs h.at (restatus (confirmed_status c d) h.record)) vs
        (λ _. best-set (is_counted run q) vs h.at (restatus (confirmed_status c d) h.record) (rw (k.here, off)) (rw off))
        (λ _. refl)

-- ---- settling

-- 2 and 3 count alike, and so do 4 and 5
settled-counts : (run r : ℕ) (s : Status) → counts r s ≡ true → counts run (settled_status r) ≡ counts run s
settled-counts run r Check e = absurd (false≢true e)
settled-counts run r Settlement e = rw e
settled-counts run r Settled e = rw e
settled-counts run r Correction e = rw (eqb-true r 2 e)
settled-counts run r CorrectionSettled e = rw (eqb-true r 2 e)

-- no status counts in two runs
counts-apart : (run r : ℕ) → (run ≡ r → ⊥) → (s : Status) → counts run s ≡ true → counts r s ≡ false
counts-apart run r ne Check e = refl
counts-apart run r ne Settlement e = ne_eqb r 1 (λ z. ne (eqb-true run 1 e ∙ sym z))
counts-apart run r ne Settled e = ne_eqb r 1 (λ z. ne (eqb-true run 1 e ∙ sym z))
counts-apart run r ne Correction e = ne_eqb r 2 (λ z. ne (eqb-true run 2 e ∙ sym z))
counts-apart run r ne CorrectionSettled e = ne_eqb r 2 (λ z. ne (eqb-true run 2 e ∙ sym z))

module _ (r : ℕ) (vs : List VersionRecord) where
  settle-counted : (run p : ℕ) (v : VersionRecord) → is_counted run p (settle r vs v) ≡ is_counted run p v
  unfolding settle
  settle-counted run p v =
      by-test (λ (w : VersionRecord). is_counted run p w ≡ is_counted run p v) (counts r v.status && eqb v.version.0 (version_of (own r v.point.0 vs))) (restatus (settled_status r) v) v
      (λ e. rw (settled-counts run r v.status (and-left (counts r v.status) _ e))) (λ _. refl)

  -- each selected version is restated
  pub settle-selected : (p : ℕ) (s : VersionRow) → own r p vs ≡ Selected s → settle r vs (record_at vs s.at) ≡ restatus (settled_status r) (record_at vs s.at)
  unfolding settle
  settle-selected p s e =
      let v = record_at vs s.at in
      let h : IsHighest (is_counted r p) vs (length vs) s = subst (Highest (is_counted r p) vs (length vs)) e (own-highest r p vs) in
      let q = eqb-true v.point.0 p (and-left (is_at p v) _ h.passes) in
      let n = eq-eqb v.version.0 s.version.0 (ap (λ (z : VersionRow). z.version.0) h.here) in
      rw (q, e, and-right (is_at p v) _ h.passes, n)

  -- and no other: not one that does not count, nor one below the highest that counts
  pub settle-uncounted : (v : VersionRecord) → counts r v.status ≡ false → settle r vs v ≡ v
  unfolding settle
  settle-uncounted v e = rw e

  pub settle-lower : (v : VersionRecord) → v.version.0 < version_of (own r v.point.0 vs) → settle r vs v ≡ v
  unfolding settle
  settle-lower v h = rw (ne_eqb v.version.0 (version_of (own r v.point.0 vs)) (λ e. omega arith), and-false)

  settle-number : (v : VersionRecord) → (settle r vs v).version.0 ≡ v.version.0
  unfolding settle
  settle-number v =
      by-test (λ (w : VersionRecord). w.version.0 ≡ v.version.0) (counts r v.status && eqb v.version.0 (version_of (own r v.point.0 vs))) (restatus (settled_status r) v) v (λ _. refl) (λ _. refl)

  -- every record by itself
  pub settle-at : (i : ℕ) → record_at (settled_by r vs) i ≡ settle r vs (record_at vs i)
  unfolding settle
  settle-at i = get_or-map (settle r vs) vs i empty_version

  -- 2 restated as 3, or 4 as 5, leaves the place of all selections, of both runs
  settle-places : (run p : ℕ) → own run p (settled_by r vs) ≡ reread (settled_by r vs) (own run p vs)
  settle-places run p =
      best-reread (is_counted run p) vs (settled_by r vs) (length-map vs (settle r vs))
      (λ i. ap (is_counted run p) (settle-at i) ∙ settle-counted run p (record_at vs i))
      (λ i. ap (λ (v : VersionRecord). v.version.0) (settle-at i) ∙ settle-number (record_at vs i))

  -- each selection of the run settled gets its status, and nothing else of it changes
  pub settle-own : (p : ℕ) → own r p (settled_by r vs) ≡ with_status (settled_status r) (own r p vs)
  settle-own p = settle-places r p ∙ go (own r p vs) refl
    where
      go : (s : Selection) → own r p vs ≡ s → reread (settled_by r vs) s ≡ with_status (settled_status r) s
      go None e = refl
      go (Selected s) e =
          let t = own-tells r p vs s e in
          ap (λ (v : VersionRecord). Selected (row_at s.at v)) (settle-at s.at ∙ settle-selected p s e) ∙ rw (t.version, t.row)

  -- and those of another run stay
  pub settle-apart : (run p : ℕ) → (run ≡ r → ⊥) → own run p (settled_by r vs) ≡ own run p vs
  settle-apart run p ne = settle-places run p ∙ go (own run p vs) refl
    where
      go : (s : Selection) → own run p vs ≡ s → reread (settled_by r vs) s ≡ s
      go None e = refl
      go (Selected s) e =
          let v = record_at vs s.at in
          let h : IsHighest (is_counted run p) vs (length vs) s = subst (Highest (is_counted run p) vs (length vs)) e (own-highest run p vs) in
          let off = counts-apart run r ne v.status (and-right (is_at p v) _ h.passes) in
          ap Selected (ap (row_at s.at) (settle-at s.at ∙ settle-uncounted v off) ∙ h.here)

  -- so in both runs the version selected is the same
  pub settle-same : (run p : ℕ) → SameVersion (own run p (settled_by r vs)) (own run p vs)
  settle-same run p = go (ℕ_discrete run r)
    where
      twice : (s : Selection) → SameVersion (with_status (settled_status r) s) s
      twice None = refl
      twice (Selected q) = refl

      go : Dec (run ≡ r) → SameVersion (own run p (settled_by r vs)) (own run p vs)
      go (yes e) = rw e (ap (with_status Check) (settle-own p) ∙ twice (own r p vs))
      go (no ne) = ap (with_status Check) (settle-apart run p ne)

-- ---- the desk's table, and the versions held

module _ (d : Desk) where
  pub submitted-versions : (v : VersionRecord) → d.frame.count < length d.versions → versions_in (submitted_desk d v) ≡ submitted v (versions_in d)
  submitted-versions v h = rw add-one (take-suc-set d.versions d.frame.count v h)

  pub settled-versions : (run : ℕ) → d.frame.count ≤ length d.versions → versions_in (settled_desk d run) ≡ settled_by run (versions_in d)
  settled-versions run h = take-map_first (settle run (versions_in d)) d.versions d.frame.count h

  pub noticed-versions : (p x y day : ℕ) → d.frame.count ≤ length d.versions
      → versions_in (noticed_desk d (held p x (versions_in d)) y day) ≡ noticed d.frame.opening.clearing.0 p x y day (versions_in d)
  noticed-versions p x y day h = go (held p x (versions_in d)) (held-right p x (versions_in d))
    where
      c : ℕ
      c = d.frame.opening.clearing.0

      go : (k : Option HeldVersion) → HeldIn p x (versions_in d) (length (versions_in d)) k → take d.frame.count (confirm c y day k d.versions) ≡ confirm c y day k (versions_in d)
      go None w = refl
      go (Some k) w =
          let n = length-take-le d.frame.count d.versions h in
          cond-take (eqb y 1 && is_check k.record.status) _ _ (take-set-lt d.frame.count d.versions k.at (restatus (confirmed_status c day) k.record) (omega (arith, w.within)))
        where
          cond-take : (t : Bool) (a b : List VersionRecord) → take d.frame.count a ≡ b → take d.frame.count (cond t a d.versions) ≡ cond t b (versions_in d)
          cond-take true a b q = q
          cond-take false a b q = refl

-- Each test of the table of causes, and what it says in the paper's words. Assumes nothing.
use Prim.Native.Nat.{ℕ, zero, suc, ◌+◌, ◌≤◌, ◌<◌}
use mathlib.Core.Path.{◌≡◌, refl, sym, ap, ◌∙◌}
use mathlib.Core.Bool.{Bool, true, false, cond, not, ◌&&◌, ◌||◌, true≢false, false≢true}
use mathlib.Core.Logic.{◌⊎◌, inl, inr}
use mathlib.Core.List.{List}
use native.Mathlib.Omega.{arith}
use borrow.Author.Tests.{ltb-true, ltb-false, eqb-true, not-true, not-false, eq-eqb, ne_eqb}
use lib.Dec.{leb, ltb, eqb}
use lib.IntN.{ℤ, pos, nat_abs}
use lib.ListN.{length, get_or}
use Rattle.std.specs.Prelude.{Option, Some, None}
use Rattle.quantity.specs.Limits.{day_ok, version_ok, point_ok, group_ok, energy_ok}
use Rattle.quantity.specs.Lists.{all, any}
use Rattle.quantity.specs.Meaning.{Means, Between, Each, Among}
use Rattle.quantity.proofs.Meanings.{means-le, means-eq, means-not, means-so, means-and, means-or, means-never, means-test, means-all, means-any}
use Rattle.quantity.proofs.Ranges.{means-day, means-version, means-point, means-group, means-energy}
use Rattle.state.specs.Desk.{is_open, flag_of}
use Rattle.state.specs.Point.{free_point, point_at, is_active, since_of, is_series, has_series}
use Rattle.state.specs.Selection.{best, version_of, Highest}
use Rattle.state.specs.Status.{status_number, is_check}
use Rattle.state.specs.Valid.{opening_ok}
use Rattle.state.specs.Version.{empty_version, record_at, is_at, is_version, held, HeldIn, held_version}
use Rattle.state.specs.declared.HeldVersion.{HeldVersion}
use Rattle.state.specs.declared.Opening.{Opening}
use Rattle.state.specs.declared.PointState.{PointState}
use Rattle.state.specs.declared.PointState.TheVariants.{Free, Active}
use Rattle.state.specs.declared.PointRecord.{PointRecord}
use Rattle.state.specs.declared.PerRun.{PerRun}
use Rattle.state.specs.declared.Selection.{Selection}
use Rattle.state.specs.declared.Selection.TheVariants.{None, Selected}
use Rattle.state.specs.declared.VersionRecord.{VersionRecord}
use Rattle.state.specs.declared.VersionRow.{VersionRow}
use Rattle.state.proofs.Limits.{means-opening}
use Rattle.state.proofs.Picks.{best-highest, held-right}
use Rattle.model.specs.Call.{Lengths, all_but_schedules, the_book, the_schedules, book_and_schedules}
use Rattle.model.specs.Causes.{opening_by, opens_ok, other_lengths, submit_ok, lodge_ok, is_absent, is_below, not_check, deadline}
use Rattle.model.specs.Table.{ActiveAt, SameSeries, FoundAt, Present, BelowHighest, Set, Unset, Allowed, SubmitIn, LodgeIn}

-- ---- the opening

pub means-unopened : (o : Opening) → Means (not (is_open o)) (o.quarters ≡ 0)
means-unopened o = go (eqb o.quarters 0) (means-eq o.quarters 0)
  where
    go : {P : Type 0} (t : Bool) → Means t P → Means (not (not t)) P
    go true m = m
    go false m = m

pub means-allowed : (q f c k : ℕ) (gs : List ℕ) (n : Lengths) → Means (opens_ok (opening_by q f c k n) gs) (Allowed q f c k gs n)
unfolding opens_ok
means-allowed q f c k gs n =
    means-and (opening_ok (opening_by q f c k n)) _ (means-opening (opening_by q f c k n))
    (λ _. means-and (eqb (length gs) 17) _ (means-eq (length gs) 17)
    (λ _. means-all group_ok (Between 1 64) 0 means-group gs))

-- ---- the stores

module _ (n : Lengths) (o : Opening) where
  pub means-stores : Means (other_lengths all_but_schedules n o) ((n.values ≡ o.values → ⊥) ⊎ ((n.book ≡ o.book → ⊥) ⊎ (n.log ≡ o.log → ⊥)))
  unfolding other_lengths
  means-stores =
      means-or (not (eqb n.values o.values)) _ (means-not _ (means-eq n.values o.values))
      (means-or (not (eqb n.book o.book)) (not (eqb n.log o.log)) (means-not _ (means-eq n.book o.book)) (means-not _ (means-eq n.log o.log)))

  -- one length, and nothing else
  alone : (a b : ℕ) → Means (not (eqb a b) || false) (a ≡ b → ⊥)
  alone a b = means-so (means-or (not (eqb a b)) false (means-not _ (means-eq a b)) (means-never {P = ⊥} (λ z. z))) only inl
    where
      only : {P : Type 0} → P ⊎ ⊥ → P
      only (inl p) = p
      only (inr z) = absurd z

  pub means-book : Means (other_lengths the_book n o) (n.book ≡ o.book → ⊥)
  unfolding other_lengths
  means-book = alone n.book o.book

  pub means-schedules : Means (other_lengths the_schedules n o) (n.schedules ≡ o.schedules → ⊥)
  unfolding other_lengths
  means-schedules = alone n.schedules o.schedules

  pub means-both : Means (other_lengths book_and_schedules n o) ((n.schedules ≡ o.schedules → ⊥) ⊎ (n.book ≡ o.book → ⊥))
  unfolding other_lengths
  means-both = means-or (not (eqb n.schedules o.schedules)) _ (means-not _ (means-eq n.schedules o.schedules)) (alone n.book o.book)

-- ---- fields

-- "Q energies", "each from -10^12 to 10^12"
means-series : (q : ℕ) (es : List ℤ) → Means (eqb (length es) q && all energy_ok es) ((length es ≡ q) × Each (pos 0) (λ (e : ℤ). nat_abs e ≤ 1000000000000) es)
means-series q es =
    means-and (eqb (length es) q) _ (means-eq (length es) q) (λ _. means-all energy_ok (λ (e : ℤ). nat_abs e ≤ 1000000000000) (pos 0) means-energy es)

pub means-submit : (p x d q : ℕ) (es : List ℤ) → Means (submit_ok p x d q es) (SubmitIn p x d q es)
means-submit p x d q es =
    means-and (point_ok p) _ (means-point p)
    (λ _. means-and (version_ok x) _ (means-version x)
    (λ _. means-and (day_ok d) _ (means-day d)
    (λ _. means-series q es)))

pub means-lodge : (g d q : ℕ) (es : List ℤ) → Means (lodge_ok g d q es) (LodgeIn g d q es)
means-lodge g d q es = means-and (group_ok g) _ (means-group g) (λ _. means-and (day_ok d) _ (means-day d) (λ _. means-series q es))

-- ---- points

module _ (ps : List PointRecord) where
  pub means-active : (p : ℕ) → Means (is_active (point_at ps p)) (ActiveAt ps p)
  means-active zero = means-never (λ a. omega (arith, a.numbered))
  means-active (suc i) = go (get_or ps i free_point).state refl
    where
      go : (s : PointState) → (get_or ps i free_point).state ≡ s → Means (is_active s) (ActiveAt ps (suc i))
      go Free e = means-never (λ a. free e a)
        where
          free : (get_or ps i free_point).state ≡ Free → ActiveAt ps (suc i) → ⊥
          free e a =
              let same : i ≡ a.at = omega (arith, a.numbered) in
              let z : ◌≡◌ {A = Bool} false true = ap is_active (sym e ∙ ap (λ (j : ℕ). (get_or ps j free_point).state) same ∙ a.there) in
              false≢true z
      go (Active since kind area partner) e =
          record {
            holds =
                λ _. record {
                  at = i;
                  since = since.0;
                  kind = kind.0;
                  area = area.0;
                  partner = partner.0;
                  numbered = omega arith;
                  there = e;
                };
            fails = λ t _. true≢false t;
          }

  since-of : (p : ℕ) (a : ActiveAt ps p) → since_of (point_at ps p) ≡ a.since
  since-of zero a = absurd (omega (arith, a.numbered))
  since-of (suc i) a =
      let same : i ≡ a.at = omega (arith, a.numbered) in
      ap since_of (ap (λ (j : ℕ). (get_or ps j free_point).state) same ∙ a.there)

  -- of an active point
  pub means-early : (p d : ℕ) → is_active (point_at ps p) ≡ true → Means (ltb d (since_of (point_at ps p) + 2)) ((a : ActiveAt ps p) × (d < a.since + 2))
  means-early p d active =
      let a = (means-active p).holds active in
      record {
        holds = λ e. (a, omega (arith, since-of p a, ltb-true d (since_of (point_at ps p) + 2) e));
        fails = λ e q. omega (arith, since-of p q.0, q.1, ltb-false d (since_of (point_at ps p) + 2) e);
      }

  pub means-same-series : (k a b : ℕ) → Means (any (has_series k a b) ps) (Among free_point (SameSeries k a b) ps)
  means-same-series k a b = means-any (has_series k a b) (SameSeries k a b) free_point (λ r. go r r.state refl) ps
    where
      go : (r : PointRecord) (s : PointState) → r.state ≡ s → Means (is_series k a b s) (SameSeries k a b r)
      go r Free e =
          means-never
          (λ m. let z : ◌≡◌ {A = Bool} false true = ap is_active (sym e ∙ m.there) in false≢true z)
      go r (Active since kind area partner) e =
          means-so (means-and (eqb kind.0 k) _ (means-eq kind.0 k) (λ _. means-and (eqb area.0 a) _ (means-eq area.0 a) (λ _. means-eq partner.0 b)))
          (λ q. record {
            since = since.0;
            there =
                e
                ∙ ap (λ (z : ℕ). Active since (record { 0 = z }) area partner) q.0
                ∙ ap (λ (z : ℕ). Active since (record { 0 = k }) (record { 0 = z }) partner) q.1.0
                ∙ ap (λ (z : ℕ). Active since (record { 0 = k }) (record { 0 = a }) (record { 0 = z })) q.1.1;
          })
          (λ m. let same = sym e ∙ m.there in (ap kind_of same, (ap area_of same, ap partner_of same)))
        where
          kind_of : PointState → ℕ
          kind_of Free = 0
          kind_of (Active s k a b) = k.0

          area_of : PointState → ℕ
          area_of Free = 0
          area_of (Active s k a b) = a.0

          partner_of : PointState → ℕ
          partner_of Free = 0
          partner_of (Active s k a b) = b.0

-- ---- versions

module _ (vs : List VersionRecord) where
  pub means-has : (p : ℕ) → Means (any (is_at p) vs) (Among empty_version (λ (r : VersionRecord). r.point.0 ≡ p) vs)
  means-has p = means-any (is_at p) (λ (r : VersionRecord). r.point.0 ≡ p) empty_version (λ r. means-eq r.point.0 p) vs

  named : (p x : ℕ) (r : VersionRecord) → Means (is_version p x r) ((r.point.0 ≡ p) × (r.version.0 ≡ x))
  named p x r = means-and (is_at p r) _ (means-eq r.point.0 p) (λ _. means-eq r.version.0 x)

  pub means-present : (p x : ℕ) → Means (not (is_absent (held p x vs))) (Present vs p x)
  unfolding is_absent
  means-present p x = go (held p x vs) (held-right p x vs)
    where
      go : (h : Option HeldVersion) → HeldIn p x vs (length vs) h → Means (not (is_absent h)) (Present vs p x)
      go None h = means-never (λ q. (named p x (record_at vs q.0)).fails (h q.0 q.1.0) q.1.1)
      go (Some k) h = record { holds = λ _. (k.at, (h.within, (named p x (record_at vs k.at)).holds h.found)); fails = λ t _. true≢false t }

  pub means-absent : (p x : ℕ) → Means (is_absent (held p x vs)) (Present vs p x → ⊥)
  means-absent p x = go (is_absent (held p x vs)) (means-present p x)
    where
      go : {P : Type 0} (t : Bool) → Means (not t) P → Means t (P → ⊥)
      go true m = record { holds = λ _ p. m.fails refl p; fails = λ e _. true≢false e }
      go false m = record { holds = λ e. absurd (false≢true e); fails = λ _ n. n (m.holds refl) }

  -- of a version that is held
  pub means-status : (p x : ℕ) → is_absent (held p x vs) ≡ false → Means (not_check (held p x vs)) ((i : ℕ) × (FoundAt vs p x i × (status_number (record_at vs i).status ≡ 1 → ⊥)))
  unfolding is_absent not_check
  means-status p x = go (held p x vs) (held-right p x vs)
    where
      go : (h : Option HeldVersion) → HeldIn p x vs (length vs) h → is_absent h ≡ false → Means (not_check h) ((i : ℕ) × (FoundAt vs p x i × (status_number (record_at vs i).status ≡ 1 → ⊥)))
      go None h e = absurd (true≢false e)
      go (Some k) h e =
          means-so (means-not (is_check k.record.status) (means-eq (status_number k.record.status) 1))
          (λ n. (k.at, (at-found k.at k.record h, λ z. n (ap (λ (r : VersionRecord). status_number r.status) (sym h.here) ∙ z))))
          (λ q z. q.1.1 (ap (λ (r : VersionRecord). status_number r.status) (same k.at k.record h q ∙ h.here) ∙ z))
        where
          at-found : (i : ℕ) (v : VersionRecord) → HeldIn p x vs (length vs) (Some (held_version i v)) → FoundAt vs p x i
          at-found i v h =
              let both = (named p x (record_at vs i)).holds h.found in
              record {
                within = h.within;
                here = both.0;
                numbered = both.1;
                first = λ j l a b. (named p x (record_at vs j)).fails (h.first j l) (a, b);
              }

          same : (i : ℕ) (v : VersionRecord) (h : HeldIn p x vs (length vs) (Some (held_version i v))) (q : (j : ℕ) × (FoundAt vs p x j × (status_number (record_at vs j).status ≡ 1 → ⊥))) → record_at vs q.0 ≡ record_at vs i
          same i v h q =
              let f = at-found i v h in
              let g = q.1.0 in
              let early : q.0 < i → ⊥ = λ l. f.first q.0 l g.here g.numbered in
              let late : i < q.0 → ⊥ = λ l. g.first i l f.here f.numbered in
              let one : q.0 ≡ i = omega (arith, early, late) in
              ap (record_at vs) one

  pub means-below : (p x : ℕ) → Means (is_below p x vs) (BelowHighest vs p x)
  means-below p x = go (best (is_at p) vs) (best-highest (is_at p) vs)
    where
      go : (s : Selection) → Highest (is_at p) vs (length vs) s → Means (ltb x (version_of s)) (BelowHighest vs p x)
      go None h =
          record {
            holds = λ e. absurd (omega (arith, ltb-true x 0 e));
            fails = λ _ q. false≢true (sym (h q.0 q.1.0) ∙ eq-eqb (record_at vs q.0).point.0 p q.1.1.0);
          }
      go (Selected r) h =
          let number : (record_at vs r.at).version.0 ≡ r.version.0 = ap (λ (z : VersionRow). z.version.0) h.here in
          record {
            holds = λ e. (r.at, (h.within, (eqb-true (record_at vs r.at).point.0 p h.passes, omega (arith, number, ltb-true x r.version.0 e))));
            fails = λ e q. omega (arith, q.1.1.1, ltb-false x r.version.0 e, h.most q.0 q.1.0 (eq-eqb (record_at vs q.0).point.0 p q.1.1.0));
          }

-- ---- settle

by-run : {P Q : Type 0} (f : Bool → Bool) (r : ℕ) → (r ≡ 1) ⊎ (r ≡ 2) → Means (f true) P → Means (f false) Q → Means (f (eqb r 1)) (((r ≡ 1) × P) ⊎ ((r ≡ 2) × Q))
by-run {P} {Q} f r (inl e) m k = rw (eq-eqb r 1 e) (means-so m (λ p. inl (e, p)) back)
  where
    back : ((r ≡ 1) × P) ⊎ ((r ≡ 2) × Q) → P
    back (inl p) = p.1
    back (inr q) = absurd (omega (arith, e, q.0))
by-run {P} {Q} f r (inr e) m k = rw (ne_eqb r 1 (λ z. omega (arith, e, z))) (means-so k (λ q. inr (e, q)) back)
  where
    back : ((r ≡ 1) × P) ⊎ ((r ≡ 2) × Q) → Q
    back (inl p) = absurd (omega (arith, e, p.0))
    back (inr q) = q.1

pub means-deadline : (o : Opening) (r d : ℕ) → (r ≡ 1) ⊎ (r ≡ 2)
    → Means (leb d (deadline o r)) (((r ≡ 1) × (d ≤ o.clearing.0)) ⊎ ((r ≡ 2) × (d ≤ o.correction.0)))
means-deadline o r d run =
    by-run (λ (t : Bool). leb d (cond t o.clearing.0 o.correction.0)) r run (means-le d o.clearing.0) (means-le d o.correction.0)

means-unset : (b : Bool) → Means (not b) (b ≡ false)
means-unset b = record { holds = not-true b; fails = λ e p. true≢false (sym (not-false b e) ∙ p) }

pub means-flag : (s : PerRun Bool) (r : ℕ) → (r ≡ 1) ⊎ (r ≡ 2) → Means (flag_of r s) (Set r s)
means-flag s r run = by-run (λ (t : Bool). cond t s.first s.second) r run (means-test s.first) (means-test s.second)

pub means-unflagged : (s : PerRun Bool) (r : ℕ) → (r ≡ 1) ⊎ (r ≡ 2) → Means (not (flag_of r s)) (Unset r s)
means-unflagged s r run = by-run (λ (t : Bool). not (cond t s.first s.second)) r run (means-unset s.first) (means-unset s.second)

pub means-second : (s : PerRun Bool) (r : ℕ) → Means (eqb r 2 && not (flag_of 1 s)) ((r ≡ 2) × (s.first ≡ false))
means-second s r =
    means-and (eqb r 2) (not s.first) (means-eq r 2)
    (λ _. means-unset s.first)

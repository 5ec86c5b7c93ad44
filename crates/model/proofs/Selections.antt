-- Laws of selections beside state's: where a selection lies, what does not count in a run, and records of which only statuses change.
-- Assumes nothing.
use Prim.Native.Nat.{ℕ, ◌≤◌, ◌<◌}
use mathlib.Core.Path.{◌≡◌, refl, sym, ap, ◌∙◌}
use mathlib.Core.Bool.{Bool, true, false, ◌&&◌, and-false, true≢false, false≢true}
use mathlib.Core.List.{List, map}
use native.Mathlib.Omega.{arith}
use lib.Dec.{eqb}
use lib.ListN.{length, set, length-map, get_or-map}
use lib.Seq.{map-set_same}
use Rattle.std.specs.Prelude.{Option, Some, None}
use Rattle.quantity.specs.Lists.{all}
use Rattle.quantity.proofs.Lists.{all-map}
use Rattle.quantity.proofs.Tests.{by-test, and-right}
use Rattle.state.specs.Change.{submitted, noticed, confirm, settle, settled_by}
use Rattle.state.specs.Selection.{best, version_of, is_counted, own, or_else, selected, Highest}
use Rattle.state.specs.Status.{counts, is_check, submitted_status, confirmed_status, settled_status}
use Rattle.state.specs.Version.{empty_version, new_version, restatus, record_at, is_at, held, HeldIn}
use Rattle.state.specs.declared.HeldVersion.{HeldVersion}
use Rattle.state.specs.declared.Selection.{Selection}
use Rattle.state.specs.declared.Selection.TheVariants.{None, Selected}
use Rattle.state.specs.declared.Status.{Status}
use Rattle.state.specs.declared.Status.TheVariants.{Check, Settlement, Settled, Correction, CorrectionSettled}
use Rattle.state.specs.declared.VersionRecord.{VersionRecord}
use Rattle.state.specs.declared.VersionRow.{VersionRow}
use Rattle.state.proofs.Picks.{best-highest, best-skips, best-set, held-right, own-highest}
use Rattle.model.proofs.Lists.{map-same, all-then}

-- ---- where a selection lies

-- in the first n rows of the version table
abbrev pub Within : ℕ → Selection → Type 0
Within n None = Unit {0}
Within n (Selected r) = r.at < n

-- a row of the version table, with the row of values that stands in its record
abbrev pub Sited : List VersionRecord → Selection → Type 0
Sited vs None = Unit {0}
Sited vs (Selected r) = (r.at < length vs) × ((record_at vs r.at).row.0 ≡ r.row.0)

highest-sited : (f : VersionRecord → Bool) (vs : List VersionRecord) (s : Selection) → Highest f vs (length vs) s → Sited vs s
highest-sited f vs None h = tt
highest-sited f vs (Selected r) h = (h.within, ap (λ (x : VersionRow). x.row.0) h.here)

or-sited : (vs : List VersionRecord) (s t : Selection) → Sited vs s → Sited vs t → Sited vs (or_else s t)
or-sited vs None t p q = q
or-sited vs (Selected r) t p q = p

pub selected-sited : (run p : ℕ) (vs : List VersionRecord) → Sited vs (selected run p vs)
selected-sited run p vs =
    by-test (Sited vs) (eqb run 1) (own 1 p vs) (or_else (own 2 p vs) (own 1 p vs)) (λ _. here 1) (λ _. or-sited vs (own 2 p vs) (own 1 p vs) (here 2) (here 1))
  where
    here : (r : ℕ) → Sited vs (own r p vs)
    here r = highest-sited (is_counted r p) vs (own r p vs) (own-highest r p vs)

-- it stays one where its record keeps its row
pub sited-on : (vs ws : List VersionRecord) → length vs ≤ length ws → ((i : ℕ) → i < length vs → (record_at ws i).row.0 ≡ (record_at vs i).row.0) → (s : Selection) → Sited vs s → Sited ws s
sited-on vs ws few same None w = tt
sited-on vs ws few same (Selected r) w = (omega (arith, w.0), same r.at w.0 ∙ w.1)

pub selected-within : (run p : ℕ) (vs : List VersionRecord) → Within (length vs) (selected run p vs)
selected-within run p vs = go (selected run p vs) (selected-sited run p vs)
  where
    go : (s : Selection) → Sited vs s → Within (length vs) s
    go None w = tt
    go (Selected r) w = w.0

-- where none passes a test, there is no pick
pub best-none : (f : VersionRecord → Bool) (vs : List VersionRecord) → ((j : ℕ) → j < length vs → f (record_at vs j) ≡ false) → best f vs ≡ None
best-none f vs h = go (best f vs) (best-highest f vs)
  where
    go : (s : Selection) → Highest f vs (length vs) s → s ≡ None
    go None p = refl
    go (Selected r) p = absurd (true≢false (sym p.passes ∙ h r.at p.within))

-- ---- what does not count in a run leaves its own selections

module _ (r i : ℕ) where
  uncounted : (v : VersionRecord) → counts r v.status ≡ false → is_counted r i v ≡ false
  uncounted v e = rw (e, and-false (is_at i v))

  -- a submission whose status does not count
  pub own-uncounted : (f n p x d : ℕ) (vs : List VersionRecord) → counts r (submitted_status f d) ≡ false → own r i (submitted (new_version f n p x d) vs) ≡ own r i vs
  own-uncounted f n p x d vs e = best-skips (is_counted r i) vs (new_version f n p x d) (uncounted (new_version f n p x d) e)

  check-uncounted : (s : Status) → is_check s ≡ true → counts r s ≡ false
  check-uncounted Check e = refl
  check-uncounted Settlement e = absurd (false≢true e)
  check-uncounted Settled e = absurd (false≢true e)
  check-uncounted Correction e = absurd (false≢true e)
  check-uncounted CorrectionSettled e = absurd (false≢true e)

  -- a notice that turns check data into what does not count
  pub own-unturned : (c p x y d : ℕ) (vs : List VersionRecord) → counts r (confirmed_status c d) ≡ false → own r i (noticed c p x y d vs) ≡ own r i vs
  own-unturned c p x y d vs e = go (held p x vs) (held-right p x vs)
    where
      go : (h : Option HeldVersion) → HeldIn p x vs (length vs) h → own r i (confirm c y d h vs) ≡ own r i vs
      go None q = refl
      go (Some h) q =
          let w = restatus (confirmed_status c d) h.record in
          by-test (λ (l : List VersionRecord). own r i l ≡ own r i vs) (eqb y 1 && is_check h.record.status) (set vs h.at w) vs
          (λ z. best-set (is_counted r i) vs h.at w (ap (is_counted r i) q.here ∙ uncounted h.record (check-uncounted h.record.status (and-right (eqb y 1) _ z))) (uncounted w e))
          (λ _. refl)

-- ---- restated records: nothing but statuses changes

-- a record without its status
abbrev pub bare : VersionRecord → VersionRecord
bare v = restatus Check v

-- the same records but for their statuses
abbrev pub Restated : (before after : List VersionRecord) → Type 0
Restated vs ws = map bare ws ≡ map bare vs

pub noticed-restated : (c p x y d : ℕ) (vs : List VersionRecord) → Restated vs (noticed c p x y d vs)
noticed-restated c p x y d vs = go (held p x vs) (held-right p x vs)
  where
    go : (h : Option HeldVersion) → HeldIn p x vs (length vs) h → Restated vs (confirm c y d h vs)
    go None q = refl
    go (Some h) q =
        by-test (Restated vs) (eqb y 1 && is_check h.record.status) (set vs h.at (restatus (confirmed_status c d) h.record)) vs
        (λ _. map-set_same bare vs h.at (restatus (confirmed_status c d) h.record) empty_version (ap bare (sym q.here))) (λ _. refl)

pub settled-restated : (run : ℕ) (vs : List VersionRecord) → Restated vs (settled_by run vs)
unfolding settle
settled-restated run vs = map-same bare (settle run vs) one vs
  where
    one : (v : VersionRecord) → bare (settle run vs v) ≡ bare v
    one v =
        by-test (λ (w : VersionRecord). bare w ≡ bare v) (counts run v.status && eqb v.version.0 (version_of (own run v.point.0 vs))) (restatus (settled_status run) v) v
        (λ _. refl) (λ _. refl)

module _ (vs ws : List VersionRecord) (e : Restated vs ws) where
  pub restated-length : length ws ≡ length vs
  restated-length = sym (length-map ws bare) ∙ ap length e ∙ length-map vs bare

  pub restated-at : (i : ℕ) → bare (record_at ws i) ≡ bare (record_at vs i)
  restated-at i =
      sym (get_or-map bare ws i empty_version) ∙ ap (λ (l : List VersionRecord). record_at l i) e ∙ get_or-map bare vs i empty_version

  -- a test that does not look at the status
  pub restated-all : (f : VersionRecord → Bool) → ((v : VersionRecord) → f (bare v) ≡ f v) → all f vs ≡ true → all f ws ≡ true
  restated-all f b a =
      all-then (λ (v : VersionRecord). f (bare v)) f (λ v t. sym (b v) ∙ t) ws
      (sym (all-map f bare ws) ∙ ap (all f) e ∙ all-map f bare vs ∙ all-then f (λ (v : VersionRecord). f (bare v)) (λ v t. b v ∙ t) vs a)

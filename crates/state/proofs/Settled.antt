-- Statuses by their numbers: what a submission, a notice and settling give. Assumes nothing.
use Prim.Native.Nat.{ℕ, ◌≤◌, ◌<◌}
use mathlib.Core.Path.{◌≡◌, refl, sym, ap, ◌∙◌}
use mathlib.Core.Bool.{◌&&◌, ◌||◌, and-false}
use mathlib.Core.Logic.{◌⊎◌, inl, inr}
use mathlib.Core.List.{List}
use borrow.Author.Tests.{leb-true, leb-false, ne_eqb}
use lib.Dec.{leb, eqb}
use lib.ListN.{length-map}
use Rattle.quantity.proofs.Tests.{by-test}
use Rattle.state.specs.Change.{settle, settled_by}
use Rattle.state.specs.Selection.{version_of, own, with_status}
use Rattle.state.specs.Settling.{Settles}
use Rattle.state.specs.Status.{status_number, counts, submitted_status, confirmed_status, settled_status}
use Rattle.state.specs.Version.{record_at, restatus}
use Rattle.state.specs.declared.Selection.{Selection}
use Rattle.state.specs.declared.Selection.TheVariants.{None, Selected}
use Rattle.state.specs.declared.Status.{Status}
use Rattle.state.specs.declared.Status.TheVariants.{Check, Settlement, Correction}
use Rattle.state.specs.declared.VersionRecord.{VersionRecord}
use Rattle.state.proofs.Kept.{settle-selected, settle-at, settle-own}
use Rattle.state.proofs.Picks.{counts-first, counts-second}

-- "Status 2 if day ≤ F, else 1."
pub submitted-number : (f d : ℕ) → ((d ≤ f) × (status_number (submitted_status f d) ≡ 2)) ⊎ ((f < d) × (status_number (submitted_status f d) ≡ 1))
submitted-number f d =
    by-test (λ (s : Status). ((d ≤ f) × (status_number s ≡ 2)) ⊎ ((f < d) × (status_number s ≡ 1))) (leb d f) Settlement Check
    (λ e. inl (leb-true d f e, refl)) (λ e. inr (leb-false d f e, refl))

-- "Positive turns status 1 into 2 if day ≤ C, else 4."
pub confirmed-number : (c d : ℕ) → ((d ≤ c) × (status_number (confirmed_status c d) ≡ 2)) ⊎ ((c < d) × (status_number (confirmed_status c d) ≡ 4))
confirmed-number c d =
    by-test (λ (s : Status). ((d ≤ c) × (status_number s ≡ 2)) ⊎ ((c < d) × (status_number s ≡ 4))) (leb d c) Settlement Correction
    (λ e. inl (leb-true d c e, refl)) (λ e. inr (leb-false d c e, refl))

-- ---- "Run 1: each selected version gets 3. Run 2: each own one gets 5."

module _ (run : ℕ) (vs : List VersionRecord) where
  settles : (status settled : ℕ) → status_number (settled_status run) ≡ settled
      → ((s : Status) → counts run s ≡ (eqb (status_number s) status || eqb (status_number s) settled)) → Settles run status settled vs (settled_by run vs)
  unfolding settle
  settles status settled number counted =
      record {
        size = length-map vs (settle run vs);
        picked = λ p r e. ap (λ (v : VersionRecord). status_number v.status) (settle-at run vs r.at ∙ settle-selected run vs p r e) ∙ number;
        told = λ p r e. ap status_number (ap status_in (sym e ∙ settle-own run vs p) ∙ restated (own run p vs)) ∙ number;
        uncounted = λ i n m. settle-at run vs i ∙ rw (counted (record_at vs i).status, ne_eqb (status_number (record_at vs i).status) status n, ne_eqb (status_number (record_at vs i).status) settled m);
        lower = λ i n. settle-at run vs i ∙ rw (ne_eqb (record_at vs i).version.0 (version_of (own run (record_at vs i).point.0 vs)) n, and-false (counts run (record_at vs i).status));
        same = λ i. ap (restatus Check) (settle-at run vs i) ∙ kept (record_at vs i);
      }
    where
      status_in : Selection → Status
      status_in None = settled_status run
      status_in (Selected r) = r.status

      restated : (s : Selection) → status_in (with_status (settled_status run) s) ≡ settled_status run
      restated None = refl
      restated (Selected r) = refl

      kept : (v : VersionRecord) → restatus Check (settle run vs v) ≡ restatus Check v
      kept v =
          by-test (λ (w : VersionRecord). restatus Check w ≡ restatus Check v) (counts run v.status && eqb v.version.0 (version_of (own run v.point.0 vs))) (restatus (settled_status run) v) v
          (λ _. refl) (λ _. refl)

-- run 1: 2 and 3 count, and the selected ones get 3
pub settles-first : (vs : List VersionRecord) → Settles 1 2 3 vs (settled_by 1 vs)
settles-first vs = settles 1 vs 2 3 refl counts-first

-- run 2: 4 and 5 count, and its own get 5
pub settles-second : (vs : List VersionRecord) → Settles 2 4 5 vs (settled_by 2 vs)
settles-second vs = settles 2 vs 4 5 refl counts-second

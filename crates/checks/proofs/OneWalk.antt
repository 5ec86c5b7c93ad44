-- One walk over the version table, in document 02's numbers; and how many records it reads from a fresh desk on. Assumes nothing.
use Prim.Native.Nat.{ℕ, ◌≤◌, ◌<◌}
use mathlib.Core.Path.{◌≡◌, refl, sym, ap, subst, ◌∙◌}
use mathlib.Core.Bool.{true, false≢true}
use mathlib.Core.List.{List}
use mathlib.Core.Logic.{◌⊎◌, inl, inr, ⊎_elim}
use native.Mathlib.Omega.{arith}
use borrow.Author.Tests.{eqb-true, eq-eqb}
use lib.ListN.{length, take, length-take}
use lib.Seq.{take_all, length-take-le, get_or-take}
use Rattle.std.specs.Prelude.{Some, None}
use Rattle.quantity.proofs.Tests.{and-left, and-right}
use Rattle.state.specs.Selection.{best, version_of, Highest}
use Rattle.state.specs.Version.{empty_version, record_at, is_at, is_version, held, HeldIn, held_version}
use Rattle.state.specs.declared.Selection.{Selection}
use Rattle.state.specs.declared.Selection.TheVariants.{None, Selected}
use Rattle.state.specs.declared.VersionRecord.{VersionRecord}
use Rattle.state.specs.declared.VersionRow.{VersionRow}
use Rattle.state.proofs.Picks.{best-highest, held-right}
use Rattle.model.specs.Agreement.{end, fresh}
use Rattle.model.proofs.Deliveries.{all-delivered}
use Rattle.model.proofs.Main.{agree}
use Rattle.checks.specs.Survey.{Surveyed}
use Rattle.checks.specs.Walked.{Stands, Somewhere, Walked, ReadsHeld}
use Rattle.checks.specs.declared.Survey.{Survey}

module _ (table : List VersionRecord) (count p x : ℕ) (long : length table ≡ 512) where
  abbrev vs : List VersionRecord
  vs = take count table

  -- as many records are held as are counted, all 512 where the count is above
  below : count ≤ 512 → length vs ≡ count
  below h = length-take-le count table (omega arith)

  above : 512 ≤ count → length vs ≡ 512
  above h = ap length (take_all count table (omega arith)) ∙ long

  -- an index of them is below both
  inside : (i : ℕ) → i < length vs → (i < count) × (i < 512)
  inside i h = (omega (arith, length-take count table), omega (arith, length-take count table))

  counted : (i : ℕ) → i < count → i < 512 → i < length vs
  counted i a b = omega (arith, length-take count table)

  -- and the record there is the table's
  there : (i : ℕ) → i < length vs → record_at vs i ≡ record_at table i
  there i h = get_or-take count table i empty_version (inside i h).0

  stands : (i y : ℕ) → i < length vs → (record_at vs i).point.0 ≡ p → (record_at vs i).version.0 ≡ y → Stands table count i p y
  stands i y h a b =
      record {
        held = (inside i h).0;
        inside = (inside i h).1;
        of_point = rw (there i h) at a;
        numbered = rw (there i h) at b;
      }

  -- a record that stands there is of the point
  of-point : (i y : ℕ) → Stands table count i p y → (i < length vs) × (is_at p (record_at vs i) ≡ true) × ((record_at vs i).version.0 ≡ y)
  of-point i y r = let h = counted i r.held r.inside in (h, rw (there i h) (eq-eqb _ p r.of_point), rw (there i h) r.numbered)

  module _ (s : Survey) (f : Surveyed p x vs s) where
    present : (i : ℕ) (v : VersionRecord) → held p x vs ≡ Some (held_version i v) → Stands table count i p x × (record_at table i ≡ v)
    present i v e =
        let k : HeldIn p x vs (length vs) (Some (held_version i v)) = subst (HeldIn p x vs (length vs)) e (held-right p x vs) in
        (stands i x k.within (eqb-true _ p (and-left (is_at p (record_at vs i)) _ k.found)) (eqb-true _ x (and-right (is_at p (record_at vs i)) _ k.found)), sym (there i k.within) ∙ k.here)

    absent : held p x vs ≡ None → (i : ℕ) → Stands table count i p x → ⊥
    absent e i r =
        let k : HeldIn p x vs (length vs) None = subst (HeldIn p x vs (length vs)) e (held-right p x vs) in
        let o = of-point i x r in
        let here : is_version p x (record_at vs i) ≡ true = rw o.1 (eq-eqb _ x o.2) in
        false≢true (sym (k i o.0) ∙ here)

    none-above : (t : Selection) → Highest (is_at p) vs (length vs) t → (i y : ℕ) → Stands table count i p y → y ≤ version_of t
    none-above None h i y r = let o = of-point i y r in absurd (false≢true (sym (h i o.0) ∙ o.1))
    none-above (Selected t) h i y r = let o = of-point i y r in omega (arith, h.most i o.0 o.1, o.2)

    one-of-them : (t : Selection) → Highest (is_at p) vs (length vs) t → Somewhere table count p (version_of t) ⊎ (version_of t ≡ 0)
    one-of-them None h = inr refl
    one-of-them (Selected t) h = inl (record { at = t.at; stands = stands t.at t.version.0 h.within (eqb-true _ p h.passes) (ap (λ (r : VersionRow). r.version.0) h.here) })

    nothing : (t : Selection) → Highest (is_at p) vs (length vs) t → ((i y : ℕ) → Stands table count i p y → ⊥) → version_of t ≡ 0
    nothing t h n = ⊎_elim (λ (w : Somewhere table count p (version_of t)). absurd (n w.at (version_of t) w.stands)) (λ e. e) (one-of-them t h)

    pub one-walk : Walked table count p x s
    one-walk =
        let top = best-highest (is_at p) vs in
        record {
          present = λ i v e. present i v (sym f.held ∙ e);
          absent = λ e. absent (sym f.held ∙ e);
          highest = λ i y r. rw f.highest (none-above (best (is_at p) vs) top i y r);
          reached = rw f.highest (one-of-them (best (is_at p) vs) top);
          without = λ n. f.highest ∙ nothing (best (is_at p) vs) top n;
          counted = λ h. f.read ∙ below h;
          most = λ h. f.read ∙ above h;
        }

-- "never above 512 and from a fresh desk on one for each version held"
pub reads-held : ReadsHeld
reads-held s l c a k x asks seen =
    let d = (end (fresh s) l).desk in
    let read = (seen.survey x asks).read in
    let held = read ∙ ap length (agree s l c).versions in
    record {
      each = held;
      accepted = held ∙ all-delivered _;
      most = omega (arith, read, seen.table, length-take d.frame.count d.versions);
    }

-- The reader's steps: what follows the fields, a call by its kind, the call at an offset. Assumes nothing.
use Prim.Native.Nat.{ℕ, ◌-◌, ◌≤◌}
use mathlib.Core.Path.{◌≡◌, refl, sym, ap, ◌∙◌}
use mathlib.Core.Bool.{true, false}
use mathlib.Core.List.{List, []}
use native.Mathlib.Omega.{arith}
use borrow.Author.Tests.{eq-eqb, ne_eqb}
use lib.IntN.{ℤ}
use lib.ListN.{length, drop}
use lib.Seq.{drop-length}
use Rattle.std.specs.Prelude.{None, Result, Ok, Err}
use Rattle.message.specs.Read.{Read, got, refused}
use Rattle.message.specs.Number.{numbers_in}
use Rattle.message.specs.Call.{Sent, submission, fields_of, is_kind, series_in, tail_in, kind_in, parse}
use Rattle.message.specs.Named.{call_of, groups_of}
use Rattle.message.specs.Offset.{number_of, number_at, number_to}
use Rattle.message.specs.Series.{list_of, filled}
use Rattle.reader.specs.Reader.{Reading, padded, fields_read, read_as, call_read, answer_at, read_at, energies_of, series_after}
use Rattle.message.specs.declared.FileCause.{FileCause}
use Rattle.message.specs.declared.FileCause.TheVariants.{BadKind}
use Rattle.message.specs.declared.NumberRead.{NumberRead}
use Rattle.reader.specs.declared.FieldsRead.{FieldsRead}
use Rattle.reader.specs.declared.CallRead.{CallRead}
use Rattle.message.proofs.Numbers.{decode-none, numbers-read}
use Rattle.message.proofs.Placed.{offset-is, passed-to, number-not, found, found-not, same-value, same-next}
use Rattle.message.proofs.SeriesSteps.{SeriesPost}

-- what follows the fields of a kind
module _ (s : List ℕ) (at room k : ℕ) where
  pub tail-series : (series₀ : List ℕ) {r : Result NumberRead FileCause} {series : List ℕ} → k ≡ submission → SeriesPost s (series_in room (drop at s)) series₀ r series →
      SeriesPost s (tail_in room k (drop at s)) series₀ r series
  tail-series series₀ e p = rw (eq-eqb k submission e) p

  pub tail-none : (series₀ : List ℕ) → at ≤ length s → (k ≡ submission → ⊥) → SeriesPost s (tail_in room k (drop at s)) series₀ (number_to 0 at) series₀
  tail-none series₀ h n = rw (ne_eqb k submission n, offset-is s at h) (refl, refl)

-- fields
pub record Fields (s : List ℕ) («from» n : ℕ) (f : FieldsRead) : Type 0 where
  pub vs : List ℕ
  pub is : numbers_in n (drop «from» s) ≡ got vs (drop f.next s)
  pub padding : f.fields ≡ padded vs
  pub within : f.next ≤ length s

-- by their fields and their end
abbrev fields-in : Result FieldsRead FileCause → List ℕ
fields-in (Ok f) = f.fields
fields-in (Err x) = []

abbrev end-in : Result FieldsRead FileCause → ℕ
end-in (Ok f) = f.next
end-in (Err x) = 0

module _ (s : List ℕ) («from» n : ℕ) where
  pub fields-to : {f : FieldsRead} → «from» ≤ length s → Ok f ≡ fields_read (length s) (numbers_in n (drop «from» s)) → Fields s «from» n f
  fields-to {f} h e = go (numbers_in n (drop «from» s)) refl e
    where
      go : (d : Read (List ℕ)) → numbers_in n (drop «from» s) ≡ d → Ok f ≡ fields_read (length s) d → Fields s «from» n f
      go (got vs r) p e =
          let end : f.next ≡ length s - length r = ap end-in e in
          let w = passed-to n s «from» (numbers_in n (drop «from» s)) h (λ a r p. (numbers-read n (drop «from» s) p).behind) (rw p (ap Ok (sym end))) in
          let same : vs ≡ w.value = cc (p, w.is) in
          record { vs = w.value; is = w.is; padding = ap fields-in e ∙ ap padded same; within = w.within }
      go (refused x) p e = absurd (let z : ◌≡◌ {A = ℕ} 0 1 = cc in omega arith)

  pub fields-not : {x : FileCause} → Err x ≡ fields_read (length s) (numbers_in n (drop «from» s)) → numbers_in n (drop «from» s) ≡ refused x
  fields-not {x} e = go (numbers_in n (drop «from» s)) refl e
    where
      go : (d : Read (List ℕ)) → numbers_in n (drop «from» s) ≡ d → Err x ≡ fields_read (length s) d → numbers_in n (drop «from» s) ≡ refused x
      go (got vs r) p e = absurd (let z : ◌≡◌ {A = ℕ} 0 1 = cc in omega arith)
      go (refused y) p e = cc

-- what is answered of a call, and the buffer
abbrev pub CallPost : List ℕ → Read Sent → List ℕ → Result CallRead FileCause → List ℕ → Type 0
CallPost s d series₀ r series = (r ≡ call_read (length s) d) × (series ≡ filled (energies_of d) series₀)

pub call-refused : (s : List ℕ) (d : Read Sent) (series₀ : List ℕ) {x : FileCause} → d ≡ refused x → CallPost s d series₀ (Err x) series₀
call-refused s d series₀ e = rw e (refl, refl)

pub kind-33 : (room k : ℕ) (s : List ℕ) → is_kind k ≡ false → kind_in room k s ≡ refused BadKind
kind-33 room k s e = rw e

module _ (s : List ℕ) («from» room k : ℕ) (known : is_kind k ≡ true) {m : ℕ} (count : m ≡ fields_of k) where
  pub kind-fields : {x : FileCause} → numbers_in m (drop «from» s) ≡ refused x → kind_in room k (drop «from» s) ≡ refused x
  kind-fields e = rw (known, sym count, e)

  module _ {f : FieldsRead} (w : Fields s «from» m f) (series₀ : List ℕ) {series : List ℕ} (q : series ≡ filled (list_of (tail_in room k (drop f.next s))) series₀) where
    pub kind-cut : {x : FileCause} → Err x ≡ number_of length (length s) (tail_in room k (drop f.next s)) → CallPost s (kind_in room k (drop «from» s)) series₀ (Err x) series
    kind-cut e =
        let t = number-not (length s) (tail_in room k (drop f.next s)) length (sym e) in
        rw (known, sym count, w.is, t) (refl, q ∙ rw t)

    pub kind-ok : {v n : ℕ} → number_to v n ≡ number_of length (length s) (tail_in room k (drop f.next s)) →
        {r : Result CallRead FileCause} → r ≡ read_as (call_of k f.fields) (groups_of f.fields) v n → CallPost s (kind_in room k (drop «from» s)) series₀ r series
    kind-ok {v} {n} e {r} p = go (tail_in room k (drop f.next s)) refl e q
      where
        go : (d : Read (List ℤ)) → tail_in room k (drop f.next s) ≡ d → number_to v n ≡ number_of length (length s) d → series ≡ filled (list_of d) series₀ →
            CallPost s (kind_in room k (drop «from» s)) series₀ r series
        go (got es l) t e q =
            let a : v ≡ length es = same-value e in
            let b : n ≡ length s - length l = same-next e in
            rw (known, sym count, w.is, t) (p ∙ rw (w.padding, a, b), q)
        go (refused x) t e q = absurd (let z : ◌≡◌ {A = ℕ} 0 1 = cc in omega arith)

-- the call at an offset
abbrev pub AtPost : List ℕ → ℕ → List ℕ → Reading → List ℕ → Type 0
AtPost s at series₀ r series = (r ≡ read_at s at (length series₀)) × (series ≡ series_after s at series₀)

pub at-end : (s : List ℕ) (at : ℕ) (series₀ : List ℕ) → at ≡ length s → AtPost s at series₀ (Ok None) series₀
unfolding read_at
at-end s at series₀ e = (rw (eq-eqb at (length s) e), rw (e, drop-length s, decode-none))

module _ (s : List ℕ) (at : ℕ) (series₀ : List ℕ) (ne : at ≡ length s → ⊥) where
  at-parse : {r : Result CallRead FileCause} {series : List ℕ} → CallPost s (parse (length series₀) (drop at s)) series₀ r series → AtPost s at series₀ (answer_at at r) series
  unfolding read_at
  at-parse p = (rw (ne_eqb at (length s) ne) (ap (answer_at at) p.0), p.1)

  pub at-refused : {x : FileCause} → number_at s at ≡ Err x → AtPost s at series₀ (Err (record { cause = x; offset = at })) series₀
  at-refused {x} e = at-parse {r = Err x} (rw (found-not s at e) (refl, refl))

  pub at-kind : {k n : ℕ} {r t : Result CallRead FileCause} {series : List ℕ} → number_at s at ≡ number_to k n → CallPost s (kind_in (length series₀) k (drop n s)) series₀ r series →
      r ≡ t → AtPost s at series₀ (answer_at at t) series
  at-kind e p q = at-parse (rw ((found s at e).decoded, sym q) p)

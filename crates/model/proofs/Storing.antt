-- A submission more in the values: its series in the next row, the others as they were. Assumes nothing.
use Prim.Native.Nat.{ℕ, ◌+◌, ◌*◌, ◌≤◌, ◌<◌}
use mathlib.Core.Path.{◌≡◌, refl, sym, ap, ◌∙◌}
use mathlib.Core.Bool.{true}
use mathlib.Core.List.{List, [], ◌∷◌, ◌++◌, map}
use native.Mathlib.Decide.{ℕ_discrete}
use native.Mathlib.Omega.{arith}
use lib.IntN.{ℤ, pos}
use lib.ListN.{length, get_or, length-append, length-map, get_or-append, get_or-map}
use lib.Seq.{get_or_at}
use Rattle.quantity.specs.Limits.{energy_ok}
use Rattle.quantity.specs.Lists.{all}
use Rattle.quantity.specs.Word.{word}
use Rattle.quantity.proofs.Lists.{all-at}
use Rattle.book.specs.Row.{splice}
use Rattle.book.proofs.Places.{row-before}
use Rattle.book.proofs.Rows.{length-splice, splice-in, splice-before}
use Rattle.state.specs.Version.{record_at, empty_version}
use Rattle.state.specs.declared.VersionRecord.{VersionRecord}
use Rattle.model.proofs.Amends.{Stored}
use Rattle.model.proofs.Books.{Reads}
use Rattle.model.proofs.Lists.{snoc-at}

-- the new series in its row, the others as they were
module _ (q : ℕ) (values : List ℕ) (vs : List VersionRecord) (es : List (List ℤ)) (S : Stored q values vs es) (v : VersionRecord) (next : v.row.0 ≡ length vs)
    (x : List ℤ) (room : length vs * q + q ≤ length values) (full : length x ≡ q) (small : all energy_ok x ≡ true) where
  wide : length (map word x) ≡ q
  wide = length-map x word ∙ full

  written : List ℕ
  written = splice values (length vs * q) q (map word x)

  long-written : length written ≡ length values
  unfolding written
  long-written = length-splice values (map word x) (length vs * q) q room wide

  new-reads : Reads q written (length vs * q) (λ (j : ℕ). get_or x j (pos 0))
  unfolding written word
  new-reads =
      record {
        fits = omega (arith, long-written);
        words = λ j l. splice-in values (map word x) (length vs * q) q room wide j 0 l ∙ get_or-map word x j (pos 0);
      }

  old-reads : (i : ℕ) → i < length vs → Reads q written ((record_at vs i).row.0 * q) (λ (j : ℕ). get_or (get_or es i []) j (pos 0))
  unfolding written
  old-reads i h =
      let R = S.reads i h in
      let apart : (record_at vs i).row.0 * q + q ≤ length vs * q = row-before (record_at vs i).row.0 (length vs) q (omega (arith, S.rows i h)) in
      record {
        fits = omega (arith, R.fits, long-written);
        words = λ j l. splice-before values (map word x) (length vs * q) q room wide ((record_at vs i).row.0 * q + j) 0 (omega arith) ∙ R.words j l;
      }

  placed : (a b : ℕ) (c d : List ℤ) → b ≡ a → d ≡ c → Reads q written (a * q) (λ (j : ℕ). get_or c j (pos 0)) → Reads q written (b * q) (λ (j : ℕ). get_or d j (pos 0))
  placed a b c d e f R = rw (e, f) R

  pub stored-more : Stored q (splice values (length vs * q) q (map word x)) (vs ++ (v ∷ [])) (es ++ (x ∷ []))
  unfolding written
  stored-more =
      let more = length-append vs (v ∷ []) in
      record {
        long = length-append es (x ∷ []) ∙ omega (arith, S.long);
        small = λ i j. snoc-at es x [] i (λ (l : List ℤ). energy_ok (get_or l j (pos 0)) ≡ true) (S.small i j) (all-at energy_ok x j (pos 0) refl small) refl;
        rows = λ i h. rows i (omega arith) (ℕ_discrete i (length vs));
        reads = λ i h. reads i (omega arith) (ℕ_discrete i (length vs));
      }
    where
      there : (i : ℕ) → i ≡ length vs → record_at (vs ++ (v ∷ [])) i ≡ v
      there i z = get_or_at vs v [] empty_version i (sym z)

      before : (i : ℕ) → i < length vs → record_at (vs ++ (v ∷ [])) i ≡ record_at vs i
      before i l = get_or-append vs (v ∷ []) empty_version i l

      rows : (i : ℕ) → i < length vs + 1 → Dec (i ≡ length vs) → (record_at (vs ++ (v ∷ [])) i).row.0 ≡ i
      rows i h (yes z) = ap (λ (u : VersionRecord). u.row.0) (there i z) ∙ next ∙ sym z
      rows i h (no ne) = let l : i < length vs = omega arith in ap (λ (u : VersionRecord). u.row.0) (before i l) ∙ S.rows i l

      reads : (i : ℕ) → i < length vs + 1 → Dec (i ≡ length vs) → Reads q written ((record_at (vs ++ (v ∷ [])) i).row.0 * q) (λ (j : ℕ). get_or (get_or (es ++ (x ∷ [])) i []) j (pos 0))
      reads i h (yes z) =
          placed (length vs) (record_at (vs ++ (v ∷ [])) i).row.0 x (get_or (es ++ (x ∷ [])) i []) (ap (λ (u : VersionRecord). u.row.0) (there i z) ∙ next) (get_or_at es x [] [] i (S.long ∙ sym z)) new-reads
      reads i h (no ne) =
          let l : i < length vs = omega arith in
          placed (record_at vs i).row.0 (record_at (vs ++ (v ∷ [])) i).row.0 (get_or es i []) (get_or (es ++ (x ∷ [])) i []) (ap (λ (u : VersionRecord). u.row.0) (before i l)) (get_or-append es (x ∷ []) [] i (omega (arith, S.long))) (old-reads i l)

-- The places of what was read, and a field or 0 where there is none. Assumes nothing.
use Prim.Native.Nat.{ℕ, ◌<◌, ◌≤◌}
use mathlib.Core.Path.{◌≡◌, refl, sym, ap, subst, ◌∙◌}
use borrow.Author.Tests.{lt-ltb, le-ltb, eq-eqb, ne_eqb}
use mathlib.Core.List.{List, [], ◌∷◌, ◌++◌}
use native.Mathlib.Omega.{arith}
use lib.ListN.{length, drop, set, get_or}
use borrow.Rule.Slice.PartMut.{put_mid}
use lib.Seq.{drop-cons}
use Rattle.std.proofs.lemmas.List.{set_at}
use Rattle.message.specs.Call.{most_fields}
use Rattle.reader.specs.Reader.{Reading, read_at, series_after}
use Rattle.host.specs.Call.{places, written, sent_as, read_answer, read_out, ReadCall, write_answer, write_out, WriteCall}
use Rattle.message.specs.Call.{Sent}
use Rattle.writer.specs.Fields.{fields21}
use Rattle.writer.specs.Writer.{handed, written_in, output_after}
use Rattle.message.specs.declared.FileRefusal.{FileRefusal}
use Rattle.std.specs.Prelude.{Result}

-- two places written, the fields behind them, and the count behind those
pub filled-out : (out : List ℕ) (first kind : ℕ) (fields : List ℕ) (count : ℕ) → length fields ≡ most_fields → places ≤ length out
    → set (put_mid 2 21 (set (set out 0 first) 1 kind) fields) 23 count ≡ written first kind fields count out
filled-out [] first kind fields count e h = absurd (omega arith)
filled-out (x ∷ []) first kind fields count e h = absurd (omega arith)
filled-out (x ∷ y ∷ l) first kind fields count e h =
    ap (λ (t : List ℕ). first ∷ kind ∷ set (fields ++ t) 21 count) (drop-cons l 21 0 (omega arith))
    ∙ ap (λ (t : List ℕ). first ∷ kind ∷ t) (set_at fields (get_or l 21 0) (drop 22 l) count 21 e)

module _ (s : List ℕ) (start : ℕ) (series₀ out₀ : List ℕ) where
  pub read-short : length out₀ < places → ReadCall s start series₀ out₀ 2 series₀ out₀
  read-short h = rw (lt-ltb (length out₀) places h) (refl, refl, refl)

  pub read-step : {t : Reading} {r : ℕ} {series out : List ℕ} → places ≤ length out₀ → (t ≡ read_at s start (length series₀)) × (series ≡ series_after s start series₀) →
      r ≡ read_answer t → out ≡ read_out t out₀ → ReadCall s start series₀ out₀ r series out
  read-step h p a o = rw (le-ltb (length out₀) places h) (a ∙ ap read_answer p.0, p.1, o ∙ ap (λ (x : Reading). read_out x out₀) p.0)

pub first_place : (out : List ℕ) (n : ℕ) → (length out ≡ 0 → ⊥) → set out 0 n ≡ n ∷ drop 1 out
first_place [] n h = absurd (h refl)
first_place (x ∷ l) n h = refl

module _ (c : Sent) (output₀ out₀ : List ℕ) where
  pub write-short : length out₀ ≡ 0 → WriteCall c output₀ out₀ 2 output₀ out₀
  write-short h = rw (eq-eqb (length out₀) 0 h) (refl, refl, refl)

  pub write-step : {w t : Result ℕ FileRefusal} {r : ℕ} {output out : List ℕ} → (length out₀ ≡ 0 → ⊥) → (w ≡ written_in (length output₀) c) × (output ≡ output_after w c output₀) → w ≡ t → r ≡ write_answer t →
      out ≡ write_out t out₀ → WriteCall c output₀ out₀ r output out
  write-step {w} {t} h p e a o =
      let same : t ≡ written_in (length output₀) c = sym e ∙ p.0 in
      rw (ne_eqb (length out₀) 0 h)
      (a ∙ ap write_answer same, p.1 ∙ ap (λ (x : Result ℕ FileRefusal). output_after x c output₀) p.0, o ∙ ap (λ (x : Result ℕ FileRefusal). write_out x out₀) same)

-- the fields as they were padded
pub write-padded : (k : ℕ) {f : List ℕ} (fields ws output₀ : List ℕ) {w : Result ℕ FileRefusal} {output : List ℕ} → f ≡ fields21 fields →
    (w ≡ written_in (length output₀) (handed k f ws)) × (output ≡ output_after w (handed k f ws) output₀) →
    (w ≡ written_in (length output₀) (sent_as k fields ws)) × (output ≡ output_after w (sent_as k fields ws) output₀)
write-padded k fields ws output₀ {w} {output} e p =
    subst (λ (x : List ℕ). (w ≡ written_in (length output₀) (handed k x ws)) × (output ≡ output_after w (handed k x ws) output₀)) e p

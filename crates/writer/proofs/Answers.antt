-- The writer's answers by the papers' numbers, for any kind, fields, series and output: which one is given where, and the output after it. Assumes nothing.
use Prim.Native.Nat.{ℕ, suc, ◌+◌, ◌^◌, ◌<◌}
use mathlib.Core.Path.{◌≡◌, refl, sym, ◌∙◌}
use mathlib.Core.Bool.{Bool, true, false, false≢true, ◌&&◌}
use mathlib.Core.List.{List, [], ◌∷◌, map}
use native.Mathlib.Omega.{arith}
use native.Mathlib.Decide.{ℕ_discrete}
use borrow.Author.Tests.{ltb-true, ltb-false, leb-true, leb-false, eq-eqb, ne_eqb}
use lib.Dec.{leb, ltb}
use lib.ListN.{length, get_or, take, length-map, get_or-map}
use lib.Seq.{get_or-take, length-take-le}
use Rattle.quantity.specs.Lists.{all}
use Rattle.quantity.specs.Word.{signed}
use Rattle.quantity.proofs.Lists.{all-in}
use Rattle.quantity.proofs.Tests.{and-left, and-right}
use Rattle.message.specs.Call.{Sent, fields_of, is_kind, print, tail_small, small}
use Rattle.message.specs.Energy.{fits_energy}
use Rattle.message.specs.Laws.{series, nothing}
use Rattle.message.specs.Number.{fits_number}
use Rattle.message.proofs.Calls.{fields-few}
use Rattle.message.proofs.Carrying.{means-numbers, means-energy, has-fields}
use Rattle.message.proofs.Fields.{eight-kinds}
use Rattle.writer.specs.Laws.{Large, field, many, energy, Bytes, bytes, Writes, unknown, large, short, written}
use Rattle.writer.specs.Writer.{energies_for, handed, written_in, output_after}

-- an element of a list that fails a test
record Fails {A : Type 0} (f : A → Bool) (z : A) (l : List A) : Type 0 where
  at : ℕ
  inside : at < length l
  fails : f (get_or l at z) ≡ false

-- where not all pass, one fails
some-fails : {A : Type 0} (f : A → Bool) (z : A) (l : List A) → all f l ≡ false → Fails f z l
unfolding all
some-fails f z [] h = absurd (false≢true (sym h))
some-fails f z (x ∷ l) h = go (f x) refl h (some-fails f z l)
  where
    go : (b : Bool) → f x ≡ b → (b && all f l) ≡ false → (all f l ≡ false → Fails f z l) → Fails f z (x ∷ l)
    go true e h ih = let w = ih h in record { at = suc w.at; inside = omega (arith, w.inside); fails = w.fails }
    go false e h ih = record { at = 0; inside = omega arith; fails = e }

module _ (k : ℕ) (fields ws : List ℕ) (full : length fields ≡ 21) where
  abbrev n : ℕ
  n = fields_of k

  own : length (take n fields) ≡ n
  own = length-take-le n fields (omega (arith, fields-few k))

  -- what is too large of a call is one of its fields, or of a submission the series or one of its energies
  large-field : all fits_number (take n fields) ≡ false → Large k n fields ws
  large-field h =
      let w = some-fails fits_number 0 (take n fields) h in
      let i : w.at < n = omega (arith, w.inside, own) in
      field w.at i (ltb-false (get_or fields w.at 0) (2 ^ 63) (rw (get_or-take n fields w.at 0 i) at w.fails))

  large-tail : tail_small (energies_for k ws) ≡ false → Large k n fields ws
  unfolding all
  large-tail h = go (ℕ_discrete k 4)
    where
      sized : k ≡ 4 → (b : Bool) → leb (length (map signed ws)) 2980 ≡ b → (b && all fits_energy (map signed ws)) ≡ false → Large k n fields ws
      sized e false p q = many e (omega (arith, leb-false (length (map signed ws)) 2980 p, length-map ws signed))
      sized e true p q =
          let w = some-fails fits_energy (signed 0) (map signed ws) q in
          energy e w.at (omega (arith, w.inside, length-map ws signed))
          ((means-energy (signed (get_or ws w.at 0))).fails (rw (get_or-map signed ws w.at 0) at w.fails))

      go : Dec (k ≡ 4) → Large k n fields ws
      go (yes e) = sized e (leb (length (map signed ws)) 2980) refl (rw (eq-eqb k 4 e) at h)
      go (no m) = absurd (false≢true (sym (rw (ne_eqb k 4 m) at h)))

  not-large : small (handed k fields ws) ≡ true → Large k n fields ws → ⊥
  not-large h l = go l
    where
      own-fit : all fits_number (take n fields) ≡ true
      own-fit = and-left (all fits_number (take n fields)) _ h

      tail-fit : k ≡ 4 → (leb (length (map signed ws)) 2980 && all fits_energy (map signed ws)) ≡ true
      tail-fit e = rw (eq-eqb k 4 e) at (and-right (all fits_number (take n fields)) _ h)

      go : Large k n fields ws → ⊥
      go (field i l g) =
          let w = (means-numbers (take n fields)).holds own-fit i (omega (arith, l, own)) in
          omega (arith, g, w, get_or-take n fields i 0 l)
      go (many e g) = omega (arith, g, length-map ws signed, leb-true (length (map signed ws)) 2980 (and-left (leb (length (map signed ws)) 2980) _ (tail-fit e)))
      go (energy e i l g) =
          let fits = all-in fits_energy (map signed ws) i (signed 0) (and-right (leb (length (map signed ws)) 2980) _ (tail-fit e)) (omega (arith, l, length-map ws signed)) in
          g ((means-energy (signed (get_or ws i 0))).holds (rw (get_or-map signed ws i 0) at fits))

  call-bytes : Bytes k n fields ws (print (handed k fields ws))
  call-bytes = go (ℕ_discrete k 4)
    where
      go : Dec (k ≡ 4) → Bytes k n fields ws (print (handed k fields ws))
      go (yes e) = rw e (bytes (series (map signed ws)))
      go (no m) = rw (ne_eqb k 4 m) (bytes (nothing m))

  -- for any output
  pub writes : (output : List ℕ) →
      Writes k fields ws output (written_in (length output) (handed k fields ws)) (output_after (written_in (length output) (handed k fields ws)) (handed k fields ws) output)
  writes output = go (is_kind k) (small c) (ltb (length output) (length (print c))) refl refl refl
    where
      c : Sent
      c = handed k fields ws

      go : (a b d : Bool) → is_kind k ≡ a → small c ≡ b → ltb (length output) (length (print c)) ≡ d →
          Writes k fields ws output (written_in (length output) c) (output_after (written_in (length output) c) c output)
      go false b d x y z = rw x (unknown refl (λ w. false≢true (sym x ∙ (eight-kinds k).1 w)))
      go true false d x y z = rw (x, y) (large refl (has-fields k x) (by (all fits_number (take n fields)) refl y))
        where
          by : (t : Bool) → all fits_number (take n fields) ≡ t → (t && tail_small (energies_for k ws)) ≡ false → Large k n fields ws
          by true p q = large-tail q
          by false p q = large-field p
      go true true true x y z = rw (x, y, z) (short refl (has-fields k x) (not-large y) call-bytes (ltb-true (length output) (length (print c)) z))
      go true true false x y z =
          let start : 0 + length (print c) ≡ length (print c) = omega arith in
          rw (x, y, z, start) (written (has-fields k x) (not-large y) call-bytes (ltb-false (length output) (length (print c)) z))

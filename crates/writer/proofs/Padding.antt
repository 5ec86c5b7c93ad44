-- Fields with zeros behind them, one at a time. Assumes nothing.
use Rattle.std.proofs.Common.{ℕ, zero, suc, ◌+◌, ◌<◌, ◌≡◌, List, [], ◌∷◌, ◌++◌, take, set, get_or, replicate, length, refl, sym, ◌∙◌, add-one, arith, length-append}
use Rattle.std.proofs.Math.ListN.{length-set}
use Rattle.std.proofs.Math.Seq.{take-suc, take-suc-set, take_all, get_or-take, length-take-le}
use Rattle.message.specs.Call.{most_fields}
use Rattle.quantity.proofs.Lists.{alike-at}
use Rattle.writer.specs.Fields.{fields21}

padded-at : (l : List ℕ) (k i : ℕ) → get_or (l ++ replicate k 0) i 0 ≡ get_or l i 0
padded-at [] k i = alike-at k i 0
padded-at (x ∷ l) k zero = refl
padded-at (x ∷ l) k (suc i) = padded-at l k i

pub fields-length : (fields : List ℕ) → length (fields21 fields) ≡ most_fields
fields-length fields =
    let zeros : length (replicate {A = ℕ} most_fields 0) ≡ most_fields = refl in
    length-take-le most_fields (fields ++ replicate most_fields 0) (omega (arith, length-append fields (replicate most_fields 0)))

-- the first i places have their fields
pub record Padded (fields padded : List ℕ) (i : ℕ) : Type 0 where
  pub long : length padded ≡ most_fields
  pub same : take i padded ≡ take i (fields21 fields)

module _ {fields padded : List ℕ} {i : ℕ} (w : Padded fields padded i) where
  pub padded-more : {x : ℕ} → i < most_fields → x ≡ get_or fields i 0 → Padded fields (set padded i x) (i + 1)
  padded-more {x} h e =
      let there : i < length padded = omega (arith, w.long) in
      let here : i < length (fields21 fields) = omega (arith, fields-length fields) in
      let field : get_or (fields21 fields) i 0 ≡ x = get_or-take most_fields (fields ++ replicate most_fields 0) i 0 h ∙ padded-at fields most_fields i ∙ sym e in
      record {
        long = length-set padded i x ∙ w.long;
        same = rw (add-one i, take-suc-set padded i x there, take-suc (fields21 fields) i 0 here, w.same, field);
      }

pub padded-all : {fields padded : List ℕ} → Padded fields padded most_fields → padded ≡ fields21 fields
padded-all {fields} {padded} w =
    sym (take_all most_fields padded (omega (arith, w.long))) ∙ w.same ∙ take_all most_fields (fields21 fields) (omega (arith, fields-length fields))

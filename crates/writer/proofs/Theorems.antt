-- What holds of the writer, for any call, series and output: a refusal leaves the output, what is written is read back, and calls written one behind
-- the other are a file. Assumes nothing.
use Prim.Native.Nat.{ℕ, ◌+◌, ◌≤◌}
use mathlib.Core.Path.{◌≡◌, refl, sym, ap, ◌∙◌}
use mathlib.Core.Bool.{Bool, true, false, cond}
use mathlib.Core.List.{List, [], ◌++◌}
use native.Mathlib.Omega.{arith}
use borrow.Author.Tests.{ltb-false}
use lib.Dec.{ltb}
use lib.ListN.{length, take, drop, length-drop}
use Rattle.std.proofs.Common.{Result, Ok, Err}
use lib.Seq.{length-take-le, take_at, drop_at, take-append-add, drop-append-add, drop-drop}
use Rattle.quantity.specs.Limits.{most_quarters}
use Rattle.message.specs.Read.{got}
use Rattle.message.specs.Call.{Sent, Carried, most_fields, fields_of, is_kind, parse, print, small}
use Rattle.message.specs.File.{print_all, whole, calls_in, CarriedAll, none, one}
use Rattle.writer.specs.Writer.{handed, not_written, written_in, output_after}
use Rattle.writer.specs.Filed.{bytes_of, joined, Filed, none as nothing, one as next}
use Rattle.message.specs.declared.FileCause.{FileCause}
use Rattle.message.specs.declared.FileCause.TheVariants.{BadKind, TooLarge, NoRoom}
use Rattle.message.specs.declared.FileRefusal.{FileRefusal}
use Rattle.message.proofs.Calls.{parse-print, few-energies, fields-few}
use Rattle.message.proofs.Files.{read-written}

-- the writer's answers: so many bytes, or a refusal with the offset 0
answers : (c : Sent) (room : ℕ) (P : Result ℕ FileRefusal → Type 0) → (is_kind c.kind ≡ true → small c ≡ true → length (print c) ≤ room → P (Ok (length (print c)))) →
    ((x : FileCause) → P (not_written x)) → P (written_in room c)
answers c room P ok not = go (is_kind c.kind) (small c) (ltb room (length (print c))) refl refl refl
  where
    go : (a b d : Bool) → is_kind c.kind ≡ a → small c ≡ b → ltb room (length (print c)) ≡ d →
        P (cond a (cond b (cond d (not_written NoRoom) (Ok (length (print c)))) (not_written TooLarge)) (not_written BadKind))
    go false b d x y z = not BadKind
    go true false d x y z = not TooLarge
    go true true true x y z = not NoRoom
    go true true false x y z = ok x y (ltb-false room (length (print c)) z)

-- a writer's refusal has the offset 0 and leaves the output as it was
pub writer-keeps : (c : Sent) (output : List ℕ) {r : FileRefusal} → written_in (length output) c ≡ Err r →
    (r.offset ≡ 0) × (output_after (written_in (length output) c) c output ≡ output)
writer-keeps c output {r} e =
    (answers c (length output) (λ (w : Result ℕ FileRefusal). w ≡ Err r → r.offset ≡ 0) (λ a b d q. absurd (cc)) (λ y q. cc) e, rw e)

-- a call that was written: a file can carry it, and its bytes have room
record Taken (c : Sent) (room n : ℕ) : Type 0 where
  carried : Carried c
  size : n ≡ length (print c)
  roomy : n ≤ room

module _ (k : ℕ) (fields ws : List ℕ) (l : length fields ≡ most_fields) where
  taken : {room n : ℕ} → Ok n ≡ written_in room (handed k fields ws) → Taken (handed k fields ws) room n
  taken {room} {n} =
      answers (handed k fields ws) room (λ (w : Result ℕ FileRefusal). Ok n ≡ w → Taken (handed k fields ws) room n) ok
      (λ y e. absurd (cc))
    where
      ok : is_kind k ≡ true → small (handed k fields ws) ≡ true → length (print (handed k fields ws)) ≤ room → ◌≡◌ {A = Result ℕ FileRefusal} (Ok n) (Ok (length (print (handed k fields ws)))) →
          Taken (handed k fields ws) room n
      ok x y z e =
          let q : n ≡ length (print (handed k fields ws)) = cc in
          record {
            carried = record { known = x; whole = length-take-le (fields_of k) fields (omega (arith, fields-few k)); fits = y; alone = λ f. rw f };
            size = q;
            roomy = omega arith;
          }

  -- what the writer wrote is read back: the call that was handed to it, and the rest of the output behind it
  pub read-back : (output : List ℕ) (room n : ℕ) → most_quarters ≤ room → written_in (length output) (handed k fields ws) ≡ Ok n →
      parse room (output_after (Ok n) (handed k fields ws) output) ≡ got (handed k fields ws) (drop n output)
  read-back output room n r e =
      let t = taken (sym e) in
      let size : 0 + length (print (handed k fields ws)) ≡ n = omega (arith, t.size) in
      rw size (parse-print room (handed k fields ws) (drop n output) t.carried (omega (arith, few-energies (handed k fields ws) t.carried)))

-- calls written one behind the other: their bytes are their file, and are read back as those calls; the rest of the output is as it was
pub record FileWritten (cs : List Sent) (output last : List ℕ) (end : ℕ) : Type 0 where
  pub carried : CarriedAll cs
  pub room : end ≤ length output
  pub bytes : take end last ≡ print_all cs
  pub rest : drop end last ≡ drop end output
  pub back : (room : ℕ) → most_quarters ≤ room → calls_in room (take end last) ≡ record { calls = cs; left = []; ending = whole }

filed : {cs : List Sent} {output last : List ℕ} {end : ℕ} → CarriedAll cs → end ≤ length output → take end last ≡ print_all cs → drop end last ≡ drop end output → FileWritten cs output last end
filed {cs} carried room bytes rest =
    record { carried = carried; room = room; bytes = bytes; rest = rest; back = λ room h. rw bytes (read-written room cs h carried) }

-- one call, and those behind it
more : (k : ℕ) (fields ws output part last : List ℕ) (r : Result ℕ FileRefusal) {cs : List Sent} {end : ℕ} → length fields ≡ most_fields →
    (r ≡ written_in (length output) (handed k fields ws)) × (part ≡ output_after r (handed k fields ws) output) → FileWritten cs (drop (bytes_of r) part) last end →
    FileWritten (joined r (handed k fields ws) cs) output (take (bytes_of r) part ++ last) (bytes_of r + end)
unfolding print_all
more k fields ws output part last (Ok n) {cs} {end} l p w =
    let c : Sent = handed k fields ws in
    let t = taken k fields ws l p.0 in
    let start : 0 + length (print c) ≡ n = omega (arith, t.size) in
    let part-is : part ≡ print c ++ drop n output = p.1 ∙ rw start in
    let head : take n part ≡ print c = rw part-is (take_at (print c) (drop n output) n (sym t.size)) in
    let tail : drop n part ≡ drop n output = rw part-is (drop_at (print c) (drop n output) n (sym t.size)) in
    filed (one t.carried w.carried) (omega (arith, w.room, ap length tail, length-drop n output, t.roomy))
    (rw (head, t.size, take-append-add (print c) last end, w.bytes))
    (rw (head, t.size, drop-append-add (print c) last end, w.rest, sym t.size, tail, drop-drop end n output))
more k fields ws output part last (Err r) {cs} {end} l p w =
    let none_more : 0 + end ≡ end = omega arith in
    rw (none_more, sym p.1) w

pub file-written : {cs : List Sent} {output last : List ℕ} {end : ℕ} → Filed cs output last end → FileWritten cs output last end
unfolding print_all
file-written nothing = filed none (omega arith) refl refl
file-written (next k fields ws r l p w) = more k fields ws _ _ _ r l p (file-written w)

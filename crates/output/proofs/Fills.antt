-- A buffer filled with the output. Assumes nothing.
use Prim.Native.Nat.{ℕ, min, ◌≤◌, ◌<◌}
use mathlib.Core.Path.{◌≡◌, refl, sym, ap, ap₂, ◌∙◌}
use mathlib.Core.Bool.{Bool, true, false}
use mathlib.Core.List.{List, ◌++◌}
use native.Mathlib.Omega.{arith}
use borrow.Author.Tests.{le-leb, lt-leb}
use lib.Dec.{leb}
use lib.ListN.{length, take, drop, take-append-drop, length-append}
use lib.Seq.{length-take-le}
use Rattle.std.proofs.lemmas.List.{take_min}
use Rattle.replay.specs.Replay.{over}
use Rattle.text.specs.Text.{Put}
use Rattle.output.specs.Fill.{most, Fills}
use Rattle.output.specs.Output.{file_size, text_of, output_of}
use Rattle.std.specs.Prelude.{Some, None}

-- a text from the buffer's start on
put-over : (text before after : List ℕ) (r : ℕ) → Put most 0 text before after r → most ≤ length after → (r ≡ length text) × (after ≡ over text before)
put-over text before after r P h =
    let n : r ≡ length text = sym (length-take-le r after (omega arith)) ∙ ap (λ (l : List ℕ). length l) P.holds in
    (n, sym (take-append-drop r after) ∙ ap₂ (λ (x y : List ℕ). x ++ y) P.holds (P.rest ∙ ap (λ (k : ℕ). drop k before) n))

pub too-small : (input before : List ℕ) → length before < most → Fills input before before None
too-small input before h =
    let t = lt-leb most (length before) h in
    record { answer = rw t; buffer = rw t }

pub filled : (input before after : List ℕ) (n r : ℕ) → most ≤ length before → length after ≡ length before → n ≡ min file_size (length input)
    → Put most 0 (text_of (take n input)) before after r → Fills input before after (Some r)
filled input before after n r h same e P =
    let t = le-leb most (length before) h in
    let f : take n input ≡ take file_size input = ap (λ (k : ℕ). take k input) e ∙ take_min file_size input in
    let o = put-over (text_of (take n input)) before after r P (omega arith) in
    record {
      answer = rw t (ap Some (o.0 ∙ ap (λ (l : List ℕ). length (text_of l)) f));
      buffer = rw t (o.1 ∙ ap (λ (l : List ℕ). over (text_of l) before) f);
    }

-- the output ends within the buffer
pub within : (input before after : List ℕ) (n : ℕ) → Fills input before after (Some n) → length after ≡ length before → n ≤ length after
within input before after n F same = by (leb most (length before)) refl
  where
    by : (t : Bool) → leb most (length before) ≡ t → n ≤ length after
    by true e =
        let one : Some n ≡ Some (length (output_of input)) = rw e at F.answer in
        let k : n ≡ length (output_of input) = cc in
        let all : after ≡ over (output_of input) before = rw e at F.buffer in
        omega (arith, ap (λ (l : List ℕ). length l) all, length-append (output_of input) (drop (length (output_of input)) before))
    by false e =
        let none : Some n ≡ None = rw e at F.answer in
        let z : ◌≡◌ {A = ℕ} 0 1 = cc in
        absurd (omega arith)

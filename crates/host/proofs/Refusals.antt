-- "A refusal returns its number and changes nothing in the desk, its stores or the output.": of each entry that is lent places to write, what a refusal
-- leaves, in numbers. Assumes nothing.
use Prim.Native.Nat.{ℕ, ◌+◌, ◌<◌, ◌≤◌}
use mathlib.Core.Path.{◌≡◌, refl, sym, ap, ◌∙◌}
use mathlib.Core.Bool.{Bool, true, false}
use mathlib.Core.List.{List}
use mathlib.Core.Logic.{◌⊎◌, inl, inr}
use native.Mathlib.Omega.{arith}
use borrow.Author.Tests.{le-ltb, ltb-true, ltb-false}
use lib.Dec.{ltb, eqb}
use lib.ListN.{length, get_or}
use Rattle.message.specs.Cause.{cause_number}
use Rattle.message.specs.Call.{Sent}
use Rattle.message.specs.File.{calls_in}
use Rattle.message.specs.declared.FileCause.{FileCause}
use Rattle.message.specs.declared.FileCause.TheVariants.{Cut, NotShortest, BadKind, TooLarge, NoRoom}
use Rattle.model.specs.Call.{Stores}
use Rattle.std.specs.Prelude.{Some, None, Result, Ok, Err}
use Rattle.message.specs.declared.FileRefusal.{FileRefusal}
use Rattle.reader.specs.Reader.{Reading, read_at}
use Rattle.reader.proofs.Theorems.{beyond, reader-call, reader-end, reader-refused, end-keeps, reader-keeps}
use Rattle.replay.specs.Replay.{ending_of}
use Rattle.replay.specs.declared.Ending.{Ending}
use Rattle.replay.specs.declared.Ending.TheVariants.{End as Ended, Refused as Stopped, Full}
use Rattle.writer.specs.Writer.{written_in}
use Rattle.host.specs.Call.{places, step_offset, ReadCall, WriteCall}
use Rattle.host.specs.Replay.{Places, fitting, ending_number, Summarised}
use Rattle.host.proofs.Summaries.{summary-fits, points-fit, versions-fit}

-- a file's refusals are 31 to 35
at-least : (x : FileCause) → 31 ≤ cause_number x
at-least Cut = omega arith
at-least NotShortest = omega arith
at-least BadKind = omega arith
at-least TooLarge = omega arith
at-least NoRoom = omega arith

-- ---- `emorizugu_read`

-- a refused call stands where it was read from, within the file and beyond it
refused-at : (s : List ℕ) (at room : ℕ) {x : FileCause} {o : ℕ} → read_at s at room ≡ Err (record { cause = x; offset = o }) → o ≡ at
refused-at s at room {x} {o} q = by-length (ltb (length s) at) refl
  where
    by-length : (b : Bool) → ltb (length s) at ≡ b → o ≡ at
    by-length true e =
        let r : ◌≡◌ {A = Reading} (Err (record { cause = x; offset = o })) (Err (record { cause = Cut; offset = at })) = sym q ∙ beyond s at room (ltb-true (length s) at e) in
        let same : ◌≡◌ {A = FileRefusal} (record { cause = x; offset = o }) (record { cause = Cut; offset = at }) = cc in
        ap (λ (y : FileRefusal). y.offset) same
    by-length false e = (reader-refused s at room (ltb-false (length s) at e) q).1

module _ (file : List ℕ) (start : ℕ) (series out : List ℕ) {answer : ℕ} {series' out' : List ℕ} (R : ReadCall file start series out answer series' out') where
  -- an answer other than 0, a refusal or the file's end, leaves the series buffer and every place
  pub read-keeps : (answer ≡ 0 → ⊥) → (series' ≡ series) × (out' ≡ out)
  read-keeps n = by-places (ltb (length out) places) refl
    where
      by-step : ltb (length out) places ≡ false → (t : Reading) → read_at file start (length series) ≡ t → (series' ≡ series) × (out' ≡ out)
      by-step e (Ok (Some r)) q = absurd (n (R.0 ∙ rw (e, q)))
      by-step e (Ok None) q = (R.1 ∙ rw e (end-keeps file start series q), R.2 ∙ rw (e, q))
      by-step e (Err r) q = (R.1 ∙ rw e (reader-keeps file start series q), R.2 ∙ rw (e, q))

      by-places : (b : Bool) → ltb (length out) places ≡ b → (series' ≡ series) × (out' ≡ out)
      by-places true e = (R.1 ∙ rw e, R.2 ∙ rw e)
      by-places false e = by-step e (read_at file start (length series)) refl

-- where the call stands: one that is refused at the start that it was read from, no call at the file's end, and one that is read ends behind its three
-- bytes or more, where the first place says
pub record Stands (file : List ℕ) (start answer : ℕ) (out : List ℕ) (offset : ℕ) : Type 0 where
  pub refused : 31 ≤ answer → offset ≡ start
  pub ended : answer ≡ 1 → offset ≡ length file
  pub read : answer ≡ 0 → (offset ≡ get_or out 0 0) × (start + 3 ≤ offset) × (offset ≤ length file)

-- `emorizugu_read_offset` over the same input, with the length of the series buffer
pub offset-told : (file : List ℕ) (start : ℕ) (series out : List ℕ) {answer offset : ℕ} {series' out' : List ℕ} → 24 ≤ length out → ReadCall file start series out answer series' out'
    → offset ≡ step_offset start (read_at file start (length series)) → Stands file start answer out' offset
offset-told file start series out {answer} {offset} {series'} {out'} enough R O = go (read_at file start (length series)) refl
  where
    long : ltb (length out) places ≡ false
    long = le-ltb (length out) places enough

    go : (t : Reading) → read_at file start (length series) ≡ t → Stands file start answer out' offset
    go (Ok (Some r)) q =
        let w = reader-call file start (length series) q in
        let a : answer ≡ 0 = R.0 ∙ rw (long, q) in
        let o : offset ≡ r.next = O ∙ rw q in
        let first : get_or out' 0 0 ≡ r.next = rw (R.2, long, q) refl in
        record {
          refused = λ h. absurd (omega arith);
          ended = λ h. absurd (omega arith);
          read = λ _. (o ∙ sym first, omega (arith, w.later), omega (arith, w.within));
        }
    go (Ok None) q =
        let a : answer ≡ 1 = R.0 ∙ rw (long, q) in
        record {
          refused = λ h. absurd (omega arith);
          ended = λ _. O ∙ rw q (reader-end file start (length series) q);
          read = λ h. absurd (omega arith);
        }
    go (Err r) q =
        let a : answer ≡ cause_number r.cause = R.0 ∙ rw (long, q) in
        let l = at-least r.cause in
        record {
          refused = λ _. O ∙ rw q (refused-at file start (length series) q);
          ended = λ h. absurd (omega arith);
          read = λ h. absurd (omega arith);
        }

-- ---- `emorizugu_write`

-- an answer other than 0 leaves the output and the place of the length
pub write-keeps : (c : Sent) (output out : List ℕ) {answer : ℕ} {output' out' : List ℕ} → WriteCall c output out answer output' out' → (answer ≡ 0 → ⊥) → (output' ≡ output) × (out' ≡ out)
write-keeps c output out {answer} {output'} {out'} W n = by-places (eqb (length out) 0) refl
  where
    by-answer : eqb (length out) 0 ≡ false → (w : Result ℕ FileRefusal) → written_in (length output) c ≡ w → (output' ≡ output) × (out' ≡ out)
    by-answer e (Ok m) q = absurd (n (W.0 ∙ rw (e, q)))
    by-answer e (Err r) q = (W.1 ∙ rw (e, q), W.2 ∙ rw (e, q))

    by-places : (b : Bool) → eqb (length out) 0 ≡ b → (output' ≡ output) × (out' ≡ out)
    by-places true e = (W.1 ∙ rw e, W.2 ∙ rw e)
    by-places false e = by-answer e (written_in (length output) c) refl

-- ---- `emorizugu_replay`

-- no file ends with 2
not-two : (e : Ending) → ending_number e ≡ 2 → ⊥
not-two Ended h = omega arith
not-two (Stopped x at) h = omega (arith, at-least x)
not-two Full h = omega arith

-- fewer places than a summary, the points or the versions take
abbrev pub TooFew : Places → Type 0
TooFew p = (length p.summary < 46) ⊎ ((length p.points < 2304) ⊎ (length p.versions < 2048))

-- the answer 2 is the entry's refusal; 31 to 35 are answers on the file, which is run up to there
pub record Refuses (s : Stores) (buffer output : List ℕ) (p : Places) (number : ℕ) (after : Stores) (buffer' output' : List ℕ) (p' : Places) : Type 0 where
  -- it comes where places are too few
  pub two : TooFew p → number ≡ 2
  -- and leaves every store, the series buffer, the answers, and the places of summary, points and versions
  pub kept : number ≡ 2 → (after ≡ s) × (buffer' ≡ buffer) × (output' ≡ output) × (p' ≡ p)

few-fit : (p : Places) → TooFew p → fitting p ≡ false
few-fit p few = go (fitting p) refl few
  where
    go : (b : Bool) → fitting p ≡ b → TooFew p → fitting p ≡ false
    go false e f = e
    go true e (inl h) = absurd (omega (arith, summary-fits (length p.summary) (length p.points) (length p.versions) refl e))
    go true e (inr (inl h)) = absurd (omega (arith, points-fit (length p.summary) (length p.points) (length p.versions) refl e))
    go true e (inr (inr h)) = absurd (omega (arith, versions-fit (length p.summary) (length p.points) (length p.versions) refl e))

pub replay-keeps : (file : List ℕ) (s : Stores) (buffer output : List ℕ) (p : Places) {number : ℕ} {after : Stores} {buffer' output' : List ℕ} {p' : Places}
    → Summarised file s buffer output p number after buffer' output' p' → Refuses s buffer output p number after buffer' output' p'
replay-keeps file s buffer output p {number} {after} {buffer'} {output'} {p'} R =
    record { two = λ f. (R.short (few-fit p f)).answer; kept = λ t. by-places t (fitting p) refl }
  where
    by-places : number ≡ 2 → (b : Bool) → fitting p ≡ b → (after ≡ s) × (buffer' ≡ buffer) × (output' ≡ output) × (p' ≡ p)
    by-places t true e = absurd (not-two (ending_of (length file) (length output) (calls_in (length buffer) file)) (sym (R.runs e).answer ∙ t))
    by-places t false e = let k = R.short e in (k.stores, k.series, k.answers, k.places)

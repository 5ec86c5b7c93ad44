-- What an accepted call makes of an opened desk's own stores. Assumes nothing.
use Prim.Native.Nat.{ℕ, ◌+◌, ◌*◌}
use mathlib.Core.Path.{◌≡◌, refl, sym, ap, ◌∙◌}
use mathlib.Core.Bool.{false, true≢false}
use mathlib.Core.List.{List, [], ◌∷◌, ◌++◌, map, map-append}
use native.Mathlib.Omega.{arith}
use lib.IntN.{ℤ}
use lib.ListN.{length, length-append, length-map}
use Rattle.std.specs.Prelude.{Option, None}
use Rattle.quantity.specs.Lists.{fold}
use Rattle.quantity.specs.Word.{word}
use Rattle.book.specs.Row.{splice}
use Rattle.state.specs.Change.{submitted, noticed}
use Rattle.state.specs.Desk.{versions_in}
use Rattle.state.specs.declared.Desk.{Desk}
use Rattle.state.specs.declared.Opening.{Opening}
use Rattle.model.specs.Agreement.{Own, left}
use Rattle.model.specs.Call.{Call, opens, activates, deactivates, submits, notices, assigns, shows, asks, closes, issues, lodges, reports, Taken, Stores, lengths_of, Told, telling}
use Rattle.model.specs.Causes.{takes, rules}
use Rattle.model.specs.Laws.{Passed}
use Rattle.model.specs.Log.{due, logged, used_after}
use Rattle.model.specs.Plain.{worked_out, after, energies_of}
use Rattle.model.specs.Step.{granting, version_by}
use Rattle.model.specs.View.{view_of}
use Rattle.model.specs.declared.LogRow.{LogRow}
use Rattle.model.proofs.Invariant.{Holds, holds-open}
use Rattle.model.proofs.Lending.{left-own, left-most, left-book}
use Rattle.model.proofs.Submit.{full}
use Rattle.replay.specs.Replay.{joined, over}
use Rattle.replay.proofs.Lengths.{length-amended, length-moved}
use Rattle.replay.proofs.Over.{over-more, joined-more}

-- the rows of values in use are the submissions' words, the other places are the base's
pub record Rows (es : List (List ℤ)) (base now : List ℕ) (count quarters : ℕ) : Type 0 where
  pub wide : length (joined es) ≡ count * quarters
  pub words : now ≡ over (map word (joined es)) base

rows-more : (es : List (List ℤ)) (base values : List ℕ) (n q : ℕ) (x : List ℤ) → length x ≡ q → Rows es base values n q → Rows (es ++ (x ∷ [])) base (splice values (n * q) q (map word x)) (n + 1) q
rows-more es base values n q x e R =
    record {
      wide = ap length (joined-more es x) ∙ length-append (joined es) x ∙ omega (arith, R.wide);
      words =
          ap (λ (l : List ℕ). splice l (n * q) q (map word x)) R.words
          ∙ over-more (map word (joined es)) base (map word x) (n * q) q (length-map (joined es) word ∙ R.wide) (length-map x word ∙ e)
          ∙ ap (λ (l : List ℕ). over l base) (sym (map-append word (joined es) x) ∙ ap (map word) (sym (joined-more es x)));
    }

-- what a call leaves of the opening, the log, the book's length, the schedules, the stores in their opening lengths, and the values
pub record After (d : Desk) (s : Stores) (h : List Told) (c : Call) : Type 0 where
  pub opening : (granting d s c).desk.frame.opening ≡ d.frame.opening
  pub row : Option LogRow
  pub log : (granting d s c).stores.log ≡ logged d.frame.used row s.log
  pub used : (granting d s c).desk.frame.used ≡ used_after row d.frame.used
  pub book : length (granting d s c).stores.book ≡ length s.book
  pub schedules : (granting d s c).stores.schedules ≡ s.schedules
  pub kept :
      length (granting d s c).stores.values ≡ d.frame.opening.values → length (granting d s c).stores.book ≡ d.frame.opening.book → length (granting d s c).stores.log ≡ d.frame.opening.log
      → left (granting d s c).desk.frame.opening (takes c) s (granting d s c).stores ≡ (granting d s c).stores
  pub rows : (base : List ℕ) → Rows (energies_of h) base s.values d.frame.count d.frame.opening.quarters → Rows (energies_of (telling (lengths_of s) c ∷ h)) base (granting d s c).stores.values (granting d s c).desk.frame.count d.frame.opening.quarters

-- the stores lent are the desk's own
pub own-lent : (o : Opening) (t : Taken) (s : Stores) → Own o t s s
own-lent o t s = record { values = λ a b e. refl; book = λ a b e. refl; log = λ a b e. refl; schedules = λ a b e. refl }

module _ (d : Desk) (s : Stores) (h : List Told) (H : Holds d s h) where
  -- a call that leaves the stores
  still : (c : Call) → (granting d s c).desk.frame.opening ≡ d.frame.opening → (granting d s c).stores ≡ s → (granting d s c).desk.frame.used ≡ d.frame.used → (granting d s c).desk.frame.count ≡ d.frame.count
      → energies_of (telling (lengths_of s) c ∷ h) ≡ energies_of h → After d s h c
  still c o e u n g =
      record {
        opening = o;
        row = None;
        log = ap (λ (a : Stores). a.log) e;
        used = u;
        book = ap (λ (a : Stores). length a.book) e;
        schedules = ap (λ (a : Stores). a.schedules) e;
        kept = λ x y z. rw (o, e) (left-own d.frame.opening s s (holds-open d s h H) (takes c) (own-lent d.frame.opening (takes c) s));
        rows = λ base R. rw (g, e, n) R;
      }

  -- every call of a file but the opening: none of them takes the schedules
  pub left-by : (c : Call) → (takes c).schedules ≡ false → Passed (rules (view_of d) (lengths_of s) c) → After d s h c
  unfolding worked_out after fold
  left-by (opens q f c k gs) z P = absurd (true≢false z)
  left-by (activates p k a b e) z P = still (activates p k a b e) refl refl refl refl refl
  left-by (deactivates p e) z P = still (deactivates p e) refl refl refl refl refl
  left-by (submits p x e es) z P =
      let c = submits p x e es in
      let ws = submitted (version_by d p x e) (versions_in d) in
      record {
        opening = refl;
        row = due (versions_in d) ws p e;
        log = refl;
        used = refl;
        book = length-amended d.frame.opening.quarters (granting d s c).stores.values d.frame.groups _ p (versions_in d) ws s.book;
        schedules = refl;
        kept = left-most d.frame.opening s (granting d s c).stores;
        rows = λ base R. rows-more (energies_of h) base s.values d.frame.count d.frame.opening.quarters es (full p x e es d s h H s P) R;
      }
  left-by (notices p x y e) z P =
      let c = notices p x y e in
      let ws = noticed d.frame.opening.clearing.0 p x y e (versions_in d) in
      record {
        opening = refl;
        row = due (versions_in d) ws p e;
        log = refl;
        used = refl;
        book = length-amended d.frame.opening.quarters s.values d.frame.groups _ p (versions_in d) ws s.book;
        schedules = refl;
        kept = left-most d.frame.opening s (granting d s c).stores;
        rows = λ base R. R;
      }
  left-by (assigns a g e) z P =
      record {
        opening = refl;
        row = None;
        log = refl;
        used = refl;
        book = length-moved _ d.frame.opening.quarters a g d.frame.groups s.book;
        schedules = refl;
        kept = λ x y z. left-book d.frame.opening s (granting d s (assigns a g e)).stores y;
        rows = λ base R. R;
      }
  left-by (shows r g) z P = still (shows r g) refl refl refl refl refl
  left-by (asks p x) z P = still (asks p x) refl refl refl refl refl
  left-by (closes r e) z P = still (closes r e) refl refl refl refl refl
  left-by (issues r e) z P = still (issues r e) refl refl refl refl refl
  left-by (lodges g e es) z P = absurd (true≢false z)
  left-by (reports r g) z P = absurd (true≢false z)

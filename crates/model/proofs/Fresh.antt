-- The desk before its opening, and the opening. Assumes nothing.
use Prim.Native.Nat.{ℕ, ◌*◌}
use mathlib.Core.Path.{◌≡◌, refl, sym, ap, ◌∙◌, subst}
use mathlib.Core.Bool.{Bool, true, false, true≢false}
use mathlib.Core.List.{List, [], ◌∷◌}
use native.Mathlib.Omega.{arith}
use borrow.Author.Tests.{eqb-true}
use lib.Dec.{eqb}
use lib.IntN.{pos}
use lib.ListN.{length, replicate, length-replicate}
use Rattle.quantity.specs.Limits.{book_rows, deltas, group_ok}
use Rattle.quantity.specs.Lists.{all, fold}
use Rattle.quantity.specs.Word.{word}
use Rattle.quantity.proofs.Lists.{alike-at}
use Rattle.quantity.proofs.Tests.{and-left, and-right, and-both}
use Rattle.state.specs.Desk.{fresh_desk, open_desk}
use Rattle.state.specs.Groups.{alike}
use Rattle.state.specs.Point.{free_point}
use Rattle.state.specs.Valid.{opening_ok, deltas_ok, frame_ok, valid_desk}
use Rattle.state.specs.declared.Desk.{Desk}
use Rattle.model.specs.Agreement.{Running, next, fresh, Agree}
use Rattle.model.specs.Call.{Call, opens, activates, deactivates, submits, notices, assigns, shows, asks, closes, issues, lodges, reports, Stores, lengths_of, Lent, Told, told, Reply}
use Rattle.model.specs.Causes.{or_if, first_of, opening_by, opens_ok, refusal}
use Rattle.model.specs.Log.{log_numbers}
use Rattle.model.specs.Plain.{view_in, answered, joined, plain_reply, plain_next, worked_out, after}
use Rattle.model.specs.Step.{cleared, refusal_by, decided, step, reply_of}
use Rattle.model.proofs.Figures.{figure-none}
use Rattle.model.proofs.Invariant.{Holds, Grouped, Granted, holds-open, book-is, schedules-is}
use Rattle.model.proofs.Lending.{left-every}
use Rattle.model.proofs.Points.{selected-none}
use Rattle.model.proofs.Schedules.{none-scheduled}

-- the desk before its opening, and after it
pub data State (r : Running) (h : List Told) : Type 0 where
  early : r.desk ≡ fresh_desk → h ≡ [] → State r h
  holding : Holds r.desk r.stores h → State r h

zero-word : word (pos 0) ≡ 0
unfolding word
zero-word = refl

-- both runs' delta groups are those given
grouped-alike : (gs : List ℕ) → all group_ok gs ≡ true → length gs ≡ deltas → Grouped (alike gs)
unfolding deltas_ok
grouped-alike gs ok n = record { each = and-both _ _ ok ok; size1 = n; size2 = n }

-- "Book all 0; all points free, no versions, no log rows used; values and log untouched."
module _ (q f c k : ℕ) (gs : List ℕ) (st : Stores) (ok : opens_ok (opening_by q f c k (lengths_of st)) gs ≡ true) where
  pub opened-holds : Holds (open_desk (opening_by q f c k (lengths_of st)) gs) (cleared q st) (record { call = opens q f c k gs; lengths = lengths_of st } ∷ [])
  unfolding opens_ok all view_in log_numbers worked_out after fold
  opened-holds =
      let o = opening_by q f c k (lengths_of st) in
      let rest = and-right (opening_ok o) _ ok in
      record {
        table = record { size = refl; count = omega arith };
        used = refl;
        works = refl;
        kept =
            record {
              framed = record { opening = and-left (opening_ok o) _ ok; day = refl; used = omega arith };
              grouped = grouped-alike gs (and-right (eqb (length gs) deltas) _ rest) (eqb-true (length gs) deltas (and-left (eqb (length gs) deltas) _ rest));
              pointed = record { each = refl; size = refl };
              versioned = record { count = omega arith; rows = omega arith; each = refl; homes = refl };
              stored = record { long = refl; small = λ i j. refl; rows = λ i h. absurd (omega arith); reads = λ i h. absurd (omega arith) };
              booked =
                  record {
                    size = length-replicate (book_rows * q) 0;
                    at = λ run r j _ _ _ _. alike-at (book_rows * q) _ 0 ∙ sym zero-word ∙ ap word (sym (figure-none (replicate 256 free_point) (alike gs) [] [] (λ x p. selected-none p [] refl x) run r j));
                  };
              values_long = refl;
              log_long = refl;
              logged = refl;
              scheduled = none-scheduled q;
            };
      }

-- what is to be shown of a call on an unopened desk
Step : Stores → Lent → Type 0
Step s l = (reply_of (step fresh_desk l) ≡ plain_reply [] (told l)) × State (next (fresh s) l) (plain_next [] (told l))

fresh-opens : (s st : Stores) (q f c k : ℕ) (gs : List ℕ) → Step s (record { call = opens q f c k gs; stores = st })
unfolding Step step decided next plain_reply plain_next answered joined refusal_by refusal first_of fold or_if view_in worked_out after
fresh-opens s st q f c k gs = go (opens_ok (opening_by q f c k (lengths_of st)) gs) refl
  where
    go : (t : Bool) → opens_ok (opening_by q f c k (lengths_of st)) gs ≡ t → Step s (record { call = opens q f c k gs; stores = st })
    go false e = rw e (refl, early refl refl)
    go true e =
        let o = opening_by q f c k (lengths_of st) in
        let H = opened-holds q f c k gs st e in
        rw e (refl, holding (rw (left-every o s (cleared q st) refl (H.kept.booked.size ∙ sym (book-is o H.kept.framed.opening)) refl (H.kept.scheduled.size ∙ sym (schedules-is o H.kept.framed.opening))) H))

fresh-base : (s st : Stores) (c : Call) → Step s (record { call = c; stores = st })
unfolding Step step decided next plain_reply plain_next answered joined refusal_by refusal first_of fold or_if view_in valid_desk frame_ok opening_ok worked_out after
fresh-base s st (opens q f c k gs) = fresh-opens s st q f c k gs
fresh-base s st (activates p k a b e) = (refl, early refl refl)
fresh-base s st (deactivates p e) = (refl, early refl refl)
fresh-base s st (submits p x e es) = (refl, early refl refl)
fresh-base s st (notices p x y e) = (refl, early refl refl)
fresh-base s st (assigns a g e) = (refl, early refl refl)
fresh-base s st (shows r g) = (refl, early refl refl)
fresh-base s st (asks p x) = (refl, early refl refl)
fresh-base s st (closes r e) = (refl, early refl refl)
fresh-base s st (issues r e) = (refl, early refl refl)
fresh-base s st (lodges g e es) = (refl, early refl refl)
fresh-base s st (reports r g) = (refl, early refl refl)

-- one call on an unopened desk
pub fresh-step : (r : Running) (h : List Told) (l : Lent) → r.desk ≡ fresh_desk → h ≡ [] → (reply_of (step r.desk l) ≡ plain_reply h (told l)) × State (next r l) (plain_next h (told l))
unfolding Step
fresh-step r h l a b =
    subst (λ (g : List Told). (reply_of (step r.desk l) ≡ plain_reply g (told l)) × State (next r l) (plain_next g (told l))) (sym b)
    (subst (λ (d : Desk). (reply_of (step d l) ≡ plain_reply [] (told l)) × State (next (record { desk = d; stores = r.stores }) l) (plain_next [] (told l))) (sym a)
    (fresh-base r.stores l.stores l.call))

-- an unopened desk has nothing, and so has the plain one
none-yet : (given plain : List Reply) (s : Stores) → given ≡ plain → Agree given (fresh s) plain []
unfolding log_numbers worked_out after fold
none-yet given plain s e =
    record {
      answers = e;
      opening = refl;
      delta_groups = refl;
      versions = refl;
      log = refl;
      figures = λ run k q _ _ _ l. absurd (omega arith);
      sum = λ run q _ _ l. absurd (omega arith);
      plain_sum = λ run q _ _ l. absurd (omega arith);
      schedules = λ g q _ _ l. absurd (omega arith);
      deviation = λ run q _ _ l. absurd (omega arith);
      plain_deviation = λ run q _ _ l. absurd (omega arith);
    }

pub fresh-agree : (given plain : List Reply) (r : Running) (h : List Told) → given ≡ plain → r.desk ≡ fresh_desk → h ≡ [] → Agree given r plain h
fresh-agree given plain r h e a b =
    subst (λ (g : List Told). Agree given r plain g) (sym b)
    (subst (λ (d : Desk). Agree given (record { desk = d; stores = r.stores }) plain []) (sym a) (none-yet given plain r.stores e))

-- an opened desk refuses another opening, so nothing is left to show
pub open-granted : (q f c k : ℕ) (gs : List ℕ) → Granted (opens q f c k gs)
open-granted q f c k gs d s h st H o P = absurd (true≢false (sym (holds-open d s h H) ∙ P.0))

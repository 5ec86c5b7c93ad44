-- The invariant of a replay, and what each call is lent, told and answered under it. Assumes nothing.
use Prim.Native.Nat.{ℕ, ◌*◌, ◌≤◌}
use mathlib.Core.Path.{◌≡◌, refl, sym, ap, ap₂, ◌∙◌}
use mathlib.Core.List.{List, []}
use lib.ListN.{length, take}
use Rattle.quantity.specs.Limits.{book_rows, schedule_rows}
use Rattle.model.specs.Agreement.{Running, Own, fresh}
use Rattle.model.specs.Call.{Call, Stores, Lengths, lengths_of, Told, told, telling}
use Rattle.model.specs.Causes.{takes}
use Rattle.model.specs.Plain.{Worked, worked_out, opening_of, plain_reply}
use Rattle.model.specs.Step.{reply_of}
use Rattle.model.proofs.Fresh.{holding, fresh-step}
use Rattle.model.proofs.Invariant.{book-is, schedules-is}
use Rattle.model.proofs.Main.{one-step}
use Rattle.replay.specs.Feeding.{lengths_for, told_as}
use Rattle.replay.specs.Play.{first_of, quarters_for, lent_to, outcome_of}
use Rattle.replay.proofs.Opened.{own_of, Opened, book-fits, schedules-fit}
use Rattle.replay.proofs.Parts.{first-long, lent-whole}

-- the desk and its stores beside the plain desk's list: before the opening, and after it
pub data Going (s : Stores) (r : Running) (h : List Told) : Type 0 where
  unopened : r ≡ fresh s → h ≡ [] → Going s r h
  opened : Opened s r h → Going s r h

-- ---- what is lent

-- the desk's own, where so many are lent
own-first : (k q p : ℕ) (l : List ℕ) → length (first_of k q l) ≡ k * p → k * p ≤ length l → first_of k q l ≡ first_of k p l
own-first k q p l e fits = ap (λ (n : ℕ). take n l) (sym (first-long k q l) ∙ e ∙ sym (lent-whole k (length l) p fits))

module _ (s : Stores) (r : Running) (h : List Told) (c : Call) where
  -- ---- what is told

  lengths-stay : Going s r h → lengths_of r.stores ≡ lengths_of s
  lengths-stay (unopened a b) = ap (λ (x : Running). lengths_of x.stores) a
  lengths-stay (opened G) = G.lengths

  same-quarters : Going s r h → r.desk.frame.opening.quarters ≡ (opening_of h).quarters
  unfolding worked_out
  same-quarters (unopened a b) = ap (λ (x : Running). x.desk.frame.opening.quarters) a ∙ ap (λ (l : List Told). (opening_of l).quarters) (sym b)
  same-quarters (opened G) = ap (λ (w : Worked). w.opening.quarters) G.holds.works

  -- the plain desk is told the lengths that are lent
  pub told-is : Going s r h → told (lent_to r c) ≡ told_as (lengths_of s) h c
  unfolding lent_to lengths_for quarters_for
  told-is G =
      let q = quarters_for r c in
      (λ i. telling (record { values = length r.stores.values; book = first-long book_rows q r.stores.book i; log = length r.stores.log; schedules = first-long schedule_rows q r.stores.schedules i }) c)
      ∙ ap₂ (λ (n : Lengths) (q : ℕ). telling (lengths_for n q c) c) (lengths-stay G) (same-quarters G)

  -- ---- what is answered

  -- the first numbers of book and schedules, lent in their opening lengths, are the desk's own
  lent-own : Opened s r h → Own r.desk.frame.opening (takes c) (own_of r) (lent_to r c).stores
  unfolding lent_to
  lent-own G =
      let o = r.desk.frame.opening in
      let ok = G.holds.kept.framed.opening in
      record {
        values = λ e t z. refl;
        book = λ e t z. own-first book_rows (quarters_for r c) o.quarters r.stores.book (z ∙ book-is o ok) (book-fits s r h G);
        log = λ e t z. refl;
        schedules = λ e t z. own-first schedule_rows (quarters_for r c) o.quarters r.stores.schedules (z ∙ schedules-is o ok) (schedules-fit s r h G);
      }

  lent-reply : Going s r h → reply_of (outcome_of r c) ≡ plain_reply h (told (lent_to r c))
  unfolding lent_to
  lent-reply (unopened a b) = (fresh-step r h (lent_to r c) (ap (λ (x : Running). x.desk) a) b).0
  lent-reply (opened G) = (one-step (record { desk = r.desk; stores = own_of r }) h (lent_to r c) (holding G.holds) (lent-own G)).0

  -- the plain desk's reply to what it is told
  pub same-reply : Going s r h → reply_of (outcome_of r c) ≡ plain_reply h (told_as (lengths_of s) h c)
  same-reply G = lent-reply G ∙ ap (plain_reply h) (told-is G)

-- What is lent of a store and what stays behind it, for any rows and Q; a call on these parts leaves the others. Assumes nothing.
use Prim.Native.Nat.{ℕ, ◌-◌, ◌*◌, ◌≤◌}
use mathlib.Core.Path.{◌≡◌, sym, ap, ◌∙◌}
use mathlib.Core.List.{List, ◌++◌}
use native.Mathlib.Omega.{arith}
use borrow.Author.Tests.{leb-true, le-leb}
use lib.Dec.{leb}
use lib.ListN.{length, take, drop, length-append, take-append-drop}
use lib.Seq.{take_at, drop_at, length-take-le}
use Rattle.quantity.specs.Limits.{book_rows, schedule_rows}
use Rattle.quantity.proofs.Tests.{by-test}
use Rattle.state.specs.declared.Desk.{Desk}
use Rattle.model.specs.Agreement.{Running}
use Rattle.model.specs.Call.{Call}
use Rattle.model.specs.Causes.{terms}
use Rattle.model.specs.declared.Answer.{Answer}
use Rattle.checks.specs.Stepped.{WholeStepped, stores_of}
use Rattle.replay.specs.Feeding.{lent_of}
use Rattle.replay.specs.Play.{first_of, behind_of, back_by, quarters_for, lent_to, handed}
use Rattle.replay.specs.Run.{running_of, Handed}

-- no more is lent than there is
pub lent-inside : (k n q : ℕ) → lent_of k n q ≤ n
unfolding lent_of
lent-inside k n q = by-test (λ (m : ℕ). m ≤ n) (leb (k * q) n) (k * q) n (λ e. leb-true (k * q) n e) (λ _. omega arith)

-- rows × Q, where there are so many
pub lent-whole : (k n q : ℕ) → k * q ≤ n → lent_of k n q ≡ k * q
unfolding lent_of
lent-whole k n q h = rw (le-leb (k * q) n h)

module _ (k q : ℕ) (l : List ℕ) where
  pub first-long : length (first_of k q l) ≡ lent_of k (length l) q
  first-long = length-take-le (lent_of k (length l) q) l (lent-inside k (length l) q)

  -- where rows × Q are lent, the store has so many
  pub first-fits : length (first_of k q l) ≡ k * q → k * q ≤ length l
  first-fits e = omega (arith, first-long, lent-inside k (length l) q, e)

  -- both parts are the store
  pub both-parts : first_of k q l ++ behind_of k q l ≡ l
  both-parts = take-append-drop (lent_of k (length l) q) l

-- rows × Q numbers with others behind them
module _ (k q : ℕ) (a rest : List ℕ) (e : length a ≡ k * q) where
  reach : lent_of k (length (a ++ rest)) q ≡ k * q
  reach = lent-whole k (length (a ++ rest)) q (simp length-append (omega arith))

  pub first-front : first_of k q (a ++ rest) ≡ a
  first-front = ap (λ (n : ℕ). take n (a ++ rest)) reach ∙ take_at a rest (k * q) e

  pub behind-front : behind_of k q (a ++ rest) ≡ rest
  behind-front = ap (λ (n : ℕ). drop n (a ++ rest)) reach ∙ drop_at a rest (k * q) e

-- the parts from 0 to n and from 0 to m come back before the others
pub handed-by : (r : Running) (c : Call) {n m q : ℕ} {answer : Answer} {desk : Desk} {values book log schedules : List ℕ} → n ≡ lent_of book_rows (length r.stores.book) q →
    m ≡ lent_of schedule_rows (length r.stores.schedules) q → q ≡ (terms c).quarters r.desk.frame.opening.quarters →
    WholeStepped r.desk c (stores_of r.stores.values (take (n - 0) r.stores.book) r.stores.log (take (m - 0) r.stores.schedules)) answer desk (stores_of values book log schedules) →
    Handed r c answer (running_of desk (stores_of values (book ++ drop (n - 0) r.stores.book) log (schedules ++ drop (m - 0) r.stores.schedules)))
unfolding handed lent_to quarters_for
handed-by r c {n} {m} e f g w =
    let q = (terms c).quarters r.desk.frame.opening.quarters in
    let a : n - 0 ≡ lent_of book_rows (length r.stores.book) q = rw (sym g) (omega arith) in
    let b : m - 0 ≡ lent_of schedule_rows (length r.stores.schedules) q = rw (sym g) (omega arith) in
    let v = rw (a, b) at w in
    record { answered = v.answered; running = rw (a, b) (λ i. record { desk = v.held i; stores = back_by q r.stores (v.left i) }) }

-- Laws of the stores lent: those that pass cause 2 are the desk's own, and what a call leaves in them is kept. Assumes nothing.
use Prim.Native.Nat.{ℕ}
use mathlib.Core.Path.{◌≡◌, refl}
use mathlib.Core.Bool.{Bool, true, false, cond}
use mathlib.Core.List.{List}
use borrow.Author.Tests.{eqb-true, eq-eqb, not-false}
use lib.Dec.{eqb}
use lib.ListN.{length}
use Rattle.quantity.proofs.Tests.{or-left, or-right}
use Rattle.state.specs.Desk.{is_open}
use Rattle.state.specs.declared.Opening.{Opening}
use Rattle.model.specs.Agreement.{IsOwn, Own, left_in, left}
use Rattle.model.specs.Call.{Stores, lengths_of, Taken, every_store, all_but_schedules, the_book, the_schedules, book_and_schedules}
use Rattle.model.specs.Causes.{other_length, other_lengths}
use Rattle.model.specs.Step.{with_book, with_schedules}

-- a store that is taken in its opening length is the desk's own
taken-own : (o : Opening) (n : ℕ) (kept lent : List ℕ) → is_open o ≡ true → IsOwn o true n kept lent → other_length true (length lent) n ≡ false → lent ≡ kept
taken-own o n kept lent e own h = own e refl (eqb-true (length lent) n (not-false (eqb (length lent) n) h))

module _ (o : Opening) (s st : Stores) (e : is_open o ≡ true) where
  -- values, book and log
  pub stores-own : Own o all_but_schedules s st → other_lengths all_but_schedules (lengths_of st) o ≡ false → st ≡ with_schedules s st.schedules
  unfolding other_lengths
  stores-own own h =
      let values = or-left (other_length true (length st.values) o.values) _ h in
      let rest = or-right (other_length true (length st.values) o.values) _ h in
      λ i.
      record {
        values = taken-own o o.values s.values st.values e own.values values i;
        book = taken-own o o.book s.book st.book e own.book (or-left _ _ rest) i;
        log = taken-own o o.log s.log st.log e own.log (or-right (other_length true (length st.book) o.book) _ rest) i;
        schedules = st.schedules;
      }

  pub book-own : Own o the_book s st → other_lengths the_book (lengths_of st) o ≡ false → st.book ≡ s.book
  unfolding other_lengths
  book-own own h = taken-own o o.book s.book st.book e own.book (or-left _ _ h)

  pub schedules-own : Own o the_schedules s st → other_lengths the_schedules (lengths_of st) o ≡ false → st.schedules ≡ s.schedules
  unfolding other_lengths
  schedules-own own h = taken-own o o.schedules s.schedules st.schedules e own.schedules (or-left _ _ h)

  pub both-own : Own o book_and_schedules s st → other_lengths book_and_schedules (lengths_of st) o ≡ false → (st.book ≡ s.book) × (st.schedules ≡ s.schedules)
  unfolding other_lengths
  both-own own h = (
    taken-own o o.book s.book st.book e own.book (or-left _ _ (or-right (other_length true (length st.schedules) o.schedules) _ h)),
    taken-own o o.schedules s.schedules st.schedules e own.schedules (or-left _ _ h),
  )

  -- stores that come back as they were lent leave the desk's own
  pub left-own : (t : Taken) → Own o t s st → left o t s st ≡ s
  left-own t own = λ i.
      record {
        values = back t.values o.values s.values st.values own.values i;
        book = back t.book o.book s.book st.book own.book i;
        log = back t.log o.log s.log st.log own.log i;
        schedules = back t.schedules o.schedules s.schedules st.schedules own.schedules i;
      }
    where
      back : (t : Bool) (n : ℕ) (kept lent : List ℕ) → IsOwn o t n kept lent → left_in t n kept lent ≡ kept
      back false n kept lent own = refl
      back true n kept lent own = go (eqb (length lent) n) refl
        where
          go : (t : Bool) → eqb (length lent) n ≡ t → cond t lent kept ≡ kept
          go true z = own e refl (eqb-true (length lent) n z)
          go false z = refl

-- a store left in its opening length is kept
pub left-in : (n : ℕ) (kept after : List ℕ) → length after ≡ n → left_in true n kept after ≡ after
left-in n kept after z = rw (eq-eqb (length after) n z)

pub left-every : (o : Opening) (s a : Stores) → length a.values ≡ o.values → length a.book ≡ o.book → length a.log ≡ o.log
    → length a.schedules ≡ o.schedules → left o every_store s a ≡ a
left-every o s a x y z w = λ i.
    record {
      values = left-in o.values s.values a.values x i;
      book = left-in o.book s.book a.book y i;
      log = left-in o.log s.log a.log z i;
      schedules = left-in o.schedules s.schedules a.schedules w i;
    }

-- of those that are not taken the desk's own stay
pub left-most : (o : Opening) (s a : Stores) → length a.values ≡ o.values → length a.book ≡ o.book → length a.log ≡ o.log
    → left o all_but_schedules s a ≡ with_schedules a s.schedules
left-most o s a x y z = λ i.
    record {
      values = left-in o.values s.values a.values x i;
      book = left-in o.book s.book a.book y i;
      log = left-in o.log s.log a.log z i;
      schedules = s.schedules;
    }

pub left-book : (o : Opening) (s a : Stores) → length a.book ≡ o.book → left o the_book s a ≡ with_book s a.book
left-book o s a y = λ i. record { values = s.values; book = left-in o.book s.book a.book y i; log = s.log; schedules = s.schedules }

pub left-schedules : (o : Opening) (s a : Stores) → length a.schedules ≡ o.schedules → left o the_schedules s a ≡ with_schedules s a.schedules
left-schedules o s a y = λ i.
    record { values = s.values; book = s.book; log = s.log; schedules = left-in o.schedules s.schedules a.schedules y i }

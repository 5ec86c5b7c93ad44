-- Laws of the table of series: what each kind adds to each row; a value is on a row of a side once or not at all, its net is no larger than itself, and its net over the
-- 64 groups is itself for an outside exchange and 0 for all else. Assumes nothing.
use Prim.Native.Nat.{ℕ, zero, suc, ◌-◌, ◌≤◌, ◌<◌}
use mathlib.Core.Path.{◌≡◌, refl, sym, ap, ◌∙◌}
use mathlib.Core.Bool.{Bool, true, false, cond, not, ◌&&◌, ◌||◌, false≢true}
use mathlib.Core.List.{List}
use mathlib.Core.Logic.{inl, inr}
use native.Mathlib.Omega.{arith}
use native.Mathlib.Decide.{ℕ_discrete}
use borrow.Author.Tests.{leb-true, ltb-true, ltb-false, lt-ltb, le-ltb, eqb-true, eq-eqb, ne_eqb}
use lib.Dec.{ltb, eqb}
use lib.IntN.{ℤ, pos, nat_abs, neg_ℤ, ◌+ℤ◌, ◌-ℤ◌, +ℤ_idl, +ℤ_idr, +ℤ_invr, neg_ℤ-+ℤ}
use lib.ListN.{get_or}
use Rattle.quantity.specs.Limits.{groups, areas, run_rows, day_ok, area_ok, group_ok}
use Rattle.quantity.specs.Lists.{all}
use Rattle.quantity.specs.Sum.{sum_to}
use Rattle.quantity.proofs.Integers.{cross, nat_abs-neg}
use Rattle.quantity.proofs.Lists.{all-at}
use Rattle.quantity.proofs.Sums.{sum-zero, sum-plus, sum-neg}
use Rattle.quantity.proofs.Tests.{and-left, and-right, within-high}
use Rattle.book.specs.Place.{group_row, delta_row}
use Rattle.state.specs.Point.{active_point, series_ok}
use Rattle.state.specs.Valid.{state_ok}
use Rattle.state.specs.Within.{InTable, StateIn}
use Rattle.state.specs.declared.PointState.{PointState}
use Rattle.state.specs.declared.PointState.TheVariants.{Free, Active}
use Rattle.model.specs.Laws.{of_delta}
use Rattle.model.specs.Series.{group_side, delta_side, to_side, from_side, sides_of, at_row, on_side, adds, is_outside}
use Rattle.model.specs.Takes.{Line, free, outside, exchange, group_sum, area_sum, group_sum_t, transfer}
use Rattle.model.specs.declared.Side.{Side}
use Rattle.model.specs.declared.Side.TheVariants.{Outside, Group, Delta}
use Rattle.model.specs.declared.Sides.{Sides}
use Rattle.model.proofs.Lists.{all-then}

-- ---- any sides: what they come to is linear in the value

minus-minus : (a b c d : ℤ) → (a -ℤ b) -ℤ (c -ℤ d) ≡ (a -ℤ c) -ℤ (b -ℤ d)
minus-minus a b c d = cc (neg_ℤ-+ℤ c (neg_ℤ d), neg_ℤ-+ℤ b (neg_ℤ d), cross a (neg_ℤ b) (neg_ℤ c) (neg_ℤ (neg_ℤ d)))

-- a value that counts or not
pub cond-zero : (t : Bool) → cond t (pos 0) (pos 0) ≡ pos 0
cond-zero true = refl
cond-zero false = refl

pub cond-neg : (t : Bool) (a : ℤ) → cond t (neg_ℤ a) (pos 0) ≡ neg_ℤ (cond t a (pos 0))
cond-neg true a = refl
cond-neg false a = refl

pub cond-plus : (t : Bool) (a b : ℤ) → cond t (a +ℤ b) (pos 0) ≡ cond t a (pos 0) +ℤ cond t b (pos 0)
cond-plus true a b = refl
cond-plus false a b = refl

cond-minus : (t : Bool) (a b : ℤ) → cond t (a -ℤ b) (pos 0) ≡ cond t a (pos 0) -ℤ cond t b (pos 0)
cond-minus t a b = cc (cond-plus t a (neg_ℤ b), cond-neg t b)

pub on_side-minus : (s : Side) (k : ℕ) (a b : ℤ) → on_side s k (a -ℤ b) ≡ on_side s k a -ℤ on_side s k b
unfolding on_side
on_side-minus Outside k a b = refl
on_side-minus (Group g) k a b = cond-minus (eqb g k) a b
on_side-minus (Delta x g) k a b =
    cc (cond-minus (eqb x k) a b, cond-minus (eqb g k) a b, cross (at_row x k a) (neg_ℤ (at_row x k b)) (at_row g k a) (neg_ℤ (at_row g k b)), neg_ℤ-+ℤ (at_row x k b) (at_row g k b))

pub on_side-zero : (s : Side) (k : ℕ) → on_side s k (pos 0) ≡ pos 0
unfolding on_side
on_side-zero Outside k = refl
on_side-zero (Group g) k = cond-zero (eqb g k)
on_side-zero (Delta x g) k = cc (cond-zero (eqb x k), cond-zero (eqb g k))

module _ (s : Sides) (k : ℕ) where
  pub adds-zero : adds s k (pos 0) ≡ pos 0
  unfolding adds
  adds-zero = cc (on_side-zero s.to k, on_side-zero s.from k)

  pub adds-minus : (a b : ℤ) → adds s k (a -ℤ b) ≡ adds s k a -ℤ adds s k b
  unfolding adds
  adds-minus a b =
      cc (on_side-minus s.to k a b, on_side-minus s.from k a b, minus-minus (on_side s.to k a) (on_side s.to k b) (on_side s.from k a) (on_side s.from k b))

-- ---- the table of series, line by line: any groups, areas, row and value

pub series-adds : (gs : List ℕ) (k : ℕ) (v : ℤ) {s : PointState} {a o : ℤ} → Line gs k v s a o → adds (sides_of gs s) k v ≡ a
unfolding sides_of to_side from_side on_side adds
series-adds gs k v free = refl
series-adds gs k v (outside d a) = +ℤ_idr (of_delta gs a k v)
series-adds gs k v (exchange d a b h) = rw (lt-ltb 0 b (omega (arith, h)))
series-adds gs k v (group_sum d a g) = refl
series-adds gs k v (area_sum d a) = refl
series-adds gs k v (group_sum_t d g) = refl
series-adds gs k v (transfer d a) = refl

pub series-outside : (gs : List ℕ) (k : ℕ) (v : ℤ) {s : PointState} {a o : ℤ} → Line gs k v s a o → cond (is_outside s) v (pos 0) ≡ o
unfolding is_outside
series-outside gs k v free = refl
series-outside gs k v (outside d a) = refl
series-outside gs k v (exchange d a b h) = rw (ne_eqb b 0 (λ z. omega (arith, h)))
series-outside gs k v (group_sum d a g) = refl
series-outside gs k v (area_sum d a) = refl
series-outside gs k v (group_sum_t d g) = refl
series-outside gs k v (transfer d a) = refl

-- every point within its limits has a line
pub line_of : (gs : List ℕ) (k : ℕ) (v : ℤ) (s : PointState) → StateIn s → (a : ℤ) × (o : ℤ) × Line gs k v s a o
line_of gs k v Free h = (_, _, free)
line_of gs k v (Active since kind area partner) h = go kind.0 area.0 partner.0 h.1
  where
    Lined : (kind area partner : ℕ) → Type 0
    Lined m a b = (x : ℤ) × (o : ℤ) × Line gs k v (active_point m a b since.0).state x o

    from : (a b : ℕ) → Lined 1 a b
    from a zero = (_, _, outside since.0 a)
    from a (suc b) = (_, _, exchange since.0 a (suc b) (omega arith))

    go : (m a b : ℕ) → InTable m a b → Lined m a b
    go m a b (inl q) = rw q.0 (from a b)
    go m a b (inr (inl q)) = rw q.0 (_, _, group_sum since.0 a b)
    go m a b (inr (inr (inl q))) = rw (q.0, q.1.1) (_, _, area_sum since.0 a)
    go m a b (inr (inr (inr (inl q)))) = rw (q.0, q.1.0) (_, _, group_sum_t since.0 b)
    go m a b (inr (inr (inr (inr q)))) = rw (q.0, q.1.1) (_, _, transfer since.0 a)

-- ---- the sides of a valid point

-- a side, whatever the delta groups are; the flag says whether it has rows at all
pub data Shape : Bool → (List ℕ → Side) → Type 0 where
  nowhere : Shape false (λ gs. Outside)
  group : (b : ℕ) → b ≤ groups → Shape true (λ gs. group_side b)
  delta : (a : ℕ) → a ≤ areas → Shape true (λ gs. delta_side gs a)

-- the two sides of a point: what the one gains and the other loses, over all rows of groups, is the outside exchange
pub record Shaped (s : PointState) : Type 0 where
  pub gains : Bool
  pub loses : Bool
  pub to : Shape gains (λ gs. (sides_of gs s).to)
  pub from : Shape loses (λ gs. (sides_of gs s).from)
  pub net : (v : ℤ) → cond gains v (pos 0) -ℤ cond loses v (pos 0) ≡ cond (is_outside s) v (pos 0)

area-small : (a : ℕ) (t : Bool) → (area_ok a && t) ≡ true → a ≤ areas
area-small a t h = within-high 1 areas a (and-left (area_ok a) t h)

-- an exchange's partner: an area, or the outside
partner : (b : ℕ) → b ≤ areas → Shape (not (eqb b 0)) (λ gs. cond (ltb 0 b) (delta_side gs b) Outside)
partner b h = go (ltb 0 b) refl
  where
    go : (t : Bool) → ltb 0 b ≡ t → Shape (not (eqb b 0)) (λ gs. cond (ltb 0 b) (delta_side gs b) Outside)
    go true e = let l = ltb-true 0 b e in rw (e, ne_eqb b 0 (λ z. omega arith)) (delta b h)
    go false e = let l = ltb-false 0 b e in rw (e, eq-eqb b 0 (omega arith)) nowhere

-- the table of series, line by line
lines : (a b : ℕ) (k₁ k₂ k₃ k₄ k₅ : Bool)
    → cond k₁ (area_ok a && ltb b a) (cond k₂ (area_ok a && group_ok b) (cond k₃ (area_ok a && eqb b 0) (cond k₄ (eqb a 0 && group_ok b) (cond k₅ (area_ok a && eqb b 0) false)))) ≡ true
    → Shape true (λ gs. cond k₁ (delta_side gs a) (cond k₂ (group_side b) (cond k₃ (delta_side gs 0) (cond k₄ (group_side b) (cond k₅ (delta_side gs a) Outside)))))
    × Shape (not (k₁ && eqb b 0)) (λ gs. cond k₁ (cond (ltb 0 b) (delta_side gs b) Outside) (cond k₂ (delta_side gs a) (cond k₃ (delta_side gs a) (cond k₄ (delta_side gs 0) (cond k₅ (delta_side gs 0) Outside)))))
lines a b true k₂ k₃ k₄ k₅ h =
    let s = area-small a (ltb b a) h in
    (delta a s, partner b (omega (arith, ltb-true b a (and-right (area_ok a) _ h))))
lines a b false true k₃ k₄ k₅ h = (group b (within-high 1 groups b (and-right (area_ok a) _ h)), delta a (area-small a (group_ok b) h))
lines a b false false true k₄ k₅ h = (delta 0 (omega arith), delta a (area-small a (eqb b 0) h))
lines a b false false false true k₅ h = (group b (within-high 1 groups b (and-right (eqb a 0) _ h)), delta 0 (omega arith))
lines a b false false false false true h = (delta a (area-small a (eqb b 0) h), delta 0 (omega arith))
lines a b false false false false false h = absurd (false≢true h)

net-of : (t : Bool) (v : ℤ) → v -ℤ cond (not t) v (pos 0) ≡ cond t v (pos 0)
net-of true v = +ℤ_idr v
net-of false v = +ℤ_invr v

pub shaped : (s : PointState) → state_ok s ≡ true → Shaped s
unfolding sides_of to_side from_side series_ok is_outside
shaped Free h = record { gains = false; loses = false; to = nowhere; from = nowhere; net = λ v. refl }
shaped (Active since kind area partner) h =
    let k = kind.0 in
    let both = lines area.0 partner.0 (eqb k 1) (eqb k 2) (eqb k 3) (eqb k 4) (eqb k 5) (and-right (day_ok since.0) _ h) in
    record { gains = true; loses = not (eqb k 1 && eqb partner.0 0); to = both.0; from = both.1; net = net-of (eqb k 1 && eqb partner.0 0) }

-- ---- rows, with delta groups from 1 to 64

-- the rows of a side are the book's
abbrev pub InBook : Side → Type 0
InBook Outside = Unit {0}
InBook (Group g) = g < run_rows
InBook (Delta x g) = (x < run_rows) × (g < run_rows)

-- the value stands on row k
abbrev pub touches : Side → (k : ℕ) → Bool
touches Outside k = false
touches (Group g) k = eqb g k
touches (Delta x g) k = eqb x k || eqb g k

-- a value at one row is met once among the first n
one-row : (n row : ℕ) (x : ℤ) → sum_to n (λ (g : ℕ). at_row row (group_row g) x) ≡ cond (ltb row n) x (pos 0)
unfolding sum_to
one-row zero row x = rw (le-ltb row 0 (omega arith))
one-row (suc n) row x = go (ℕ_discrete row n) (one-row n row x)
  where
    last : suc n - 1 ≡ n
    last = omega arith

    same : (row ≡ n → ⊥) → (t : Bool) → ltb row n ≡ t → ltb row n ≡ ltb row (suc n)
    same ne true z = let k : row < n = ltb-true row n z in z ∙ sym (lt-ltb row (suc n) (omega arith))
    same ne false z = let k : n ≤ row = ltb-false row n z in z ∙ sym (le-ltb row (suc n) (omega arith))

    go : Dec (row ≡ n) → sum_to n (λ (g : ℕ). at_row row (group_row g) x) ≡ cond (ltb row n) x (pos 0)
        → sum_to n (λ (g : ℕ). at_row row (group_row g) x) +ℤ at_row row (suc n - 1) x ≡ cond (ltb row (suc n)) x (pos 0)
    go (yes e) ih = rw (ih, le-ltb row n (omega arith), eq-eqb row (suc n - 1) (omega arith), lt-ltb row (suc n) (omega arith)) (+ℤ_idl x)
    go (no ne) ih =
        rw (ih, ne_eqb row (suc n - 1) (λ z. ne (z ∙ last)))
        (+ℤ_idr (cond (ltb row n) x (pos 0)) ∙ ap (λ (t : Bool). cond t x (pos 0)) (same ne (ltb row n) refl))

module _ (gs : List ℕ) (ok : all group_ok gs ≡ true) where
  pub group-small : (x : ℕ) → get_or gs x 0 ≤ groups
  group-small x =
      leb-true (get_or gs x 0) groups (all-at (λ (y : ℕ). lib.Dec.leb y groups) gs x 0 refl (all-then group_ok (λ (y : ℕ). lib.Dec.leb y groups) (λ y p. and-right (lib.Dec.leb 1 y) _ p) gs ok))

  pub in-book : {t : Bool} {f : List ℕ → Side} → Shape t f → InBook (f gs)
  in-book nowhere = tt
  in-book (group b h) = omega arith
  in-book (delta a h) = (omega arith, omega (arith, group-small a))

  -- once or not at all
  pub once : {t : Bool} {f : List ℕ → Side} → Shape t f → (k : ℕ) (v : ℤ) → on_side (f gs) k v ≡ cond (touches (f gs) k) v (pos 0)
  unfolding on_side
  once nowhere k v = refl
  once (group b h) k v = refl
  once (delta a h) k v = go (eqb (delta_row a) k) (eqb (group_row (get_or gs a 0)) k) (λ e. ne_eqb (group_row (get_or gs a 0)) k (λ z. omega (arith, eqb-true (delta_row a) k e, group-small a)))
    where
      go : (x y : Bool) → (x ≡ true → y ≡ false) → cond x v (pos 0) +ℤ cond y v (pos 0) ≡ cond (x || y) v (pos 0)
      go true y e = rw (e refl) (+ℤ_idr v)
      go false y e = +ℤ_idl (cond y v (pos 0))

  -- over all rows of groups once, where the side has rows
  spread : {t : Bool} {f : List ℕ → Side} → Shape t f → (v : ℤ) → sum_to groups (λ (g : ℕ). on_side (f gs) (group_row g) v) ≡ cond t v (pos 0)
  unfolding on_side
  spread nowhere v = sum-zero groups (λ (g : ℕ). pos 0) (λ i lo hi. refl)
  spread (group b h) v = one-row groups (group_row b) v ∙ rw (lt-ltb (group_row b) groups (omega arith))
  spread (delta a h) v =
      let r = group_row (get_or gs a 0) in
      sum-plus groups (λ (g : ℕ). at_row (delta_row a) (group_row g) v) (λ (g : ℕ). at_row r (group_row g) v)
      ∙ cc (one-row groups (delta_row a) v, one-row groups r v, le-ltb (delta_row a) groups (omega arith), lt-ltb r groups (omega (arith, group-small a)), +ℤ_idl v)

  module _ (s : PointState) (h : state_ok s ≡ true) where
    -- a factor of -1, 0 or 1
    pub adds-small : (k : ℕ) (v : ℤ) → nat_abs (adds (sides_of gs s) k v) ≤ nat_abs v
    unfolding adds
    adds-small k v =
        let S = shaped s h in
        rw (once S.to k v, once S.from k v) (go (touches (sides_of gs s).to k) (touches (sides_of gs s).from k))
      where
        go : (x y : Bool) → nat_abs (cond x v (pos 0) -ℤ cond y v (pos 0)) ≤ nat_abs v
        go true true = omega (arith, ap nat_abs (+ℤ_invr v))
        go true false = omega (arith, ap nat_abs (+ℤ_idr v))
        go false true = omega (arith, ap nat_abs (+ℤ_idl (neg_ℤ v)), nat_abs-neg v)
        go false false = omega arith

    -- a point's postings into the rows of groups add up to v for an outside exchange, else to 0
    pub adds-net : (v : ℤ) → sum_to groups (λ (g : ℕ). adds (sides_of gs s) (group_row g) v) ≡ cond (is_outside s) v (pos 0)
    unfolding adds
    adds-net v =
        let S = shaped s h in
        let to : ℕ → ℤ = λ (g : ℕ). on_side (sides_of gs s).to (group_row g) v in
        let from : ℕ → ℤ = λ (g : ℕ). on_side (sides_of gs s).from (group_row g) v in
        sum-plus groups to (λ (g : ℕ). neg_ℤ (from g))
        ∙ cc (sum-neg groups from, spread S.to v, spread S.from v, S.net v)

-- Laws of the table of causes: the first rule that holds decides, and where none holds nothing is refused. Assumes nothing.
use Prim.Native.Nat.{ℕ}
use mathlib.Core.Path.{◌≡◌, refl, sym, ap, ◌∙◌}
use mathlib.Core.Bool.{Bool, true, false, not, ◌||◌, or-false}
use mathlib.Core.List.{List, [], ◌∷◌}
use native.Mathlib.Omega.{arith}
use lib.Dec.{eqb}
use Rattle.std.specs.Prelude.{Ok, Err}
use Rattle.quantity.specs.Lists.{all, fold}
use Rattle.quantity.proofs.Tests.{and-left, and-right}
use Rattle.model.specs.Call.{cause_number}
use Rattle.model.specs.Causes.{Rule, or_if, or_rule, first_of, Ruling}
use Rattle.model.specs.Laws.{Passed, Decides, here, below}
use Rattle.model.specs.declared.Answer.{Answer}
use Rattle.model.specs.declared.Answer.TheVariants.{Accepted, Refused}
use Rattle.model.specs.declared.Cause.{Cause}

-- one of two types, by a test
abbrev pub either : Bool → Type 0 → Type 0 → Type 0
either true P Q = P
either false P Q = Q

stays : (x : Cause) (l : List Rule) → fold or_rule (Err x) l ≡ Err x
unfolding fold or_if
stays x [] = refl
stays x (r ∷ l) = stays x l

never : {A : Type 0} (x : Cause) → ◌≡◌ {A = Ruling} (Err x) (Ok tt) → A
never x e = let z : ◌≡◌ {A = ℕ} 0 1 = cc in absurd (omega arith)

-- what is accepted is not refused
pub not-refused : {A : Type 0} (x : Cause) → ◌≡◌ {A = Answer} Accepted (Refused x) → A
not-refused x e = let z : ◌≡◌ {A = ℕ} 0 1 = cc in absurd (omega arith)

-- a call that is not refused has passed every rule
pub passed : (l : List Rule) → first_of l ≡ Ok tt → Passed l
unfolding first_of fold or_if
passed [] e = tt
passed (r ∷ l) e = go r.holds refl (passed l)
  where
    go : (t : Bool) → r.holds ≡ t → (fold or_rule (Ok tt) l ≡ Ok tt → Passed l) → (r.holds ≡ false) × Passed l
    go true x ih = never r.cause (sym (stays r.cause l) ∙ (rw x at e))
    go false x ih = (x, ih (rw x at e))

-- and a call that has passed every rule is not refused
pub passed-fine : (l : List Rule) → Passed l → first_of l ≡ Ok tt
unfolding first_of fold or_if
passed-fine [] P = refl
passed-fine (r ∷ l) P = rw P.0 (passed-fine l P.1)

-- what is known of the line of a number then: its test does not hold
abbrev pub Past : (number : ℕ) → List Rule → Type 0
Past n [] = Unit {0}
Past n (r ∷ l) = either (eqb (cause_number r.cause) n) (r.holds ≡ false) (Past n l)

pub past : (n : ℕ) (l : List Rule) → Passed l → Past n l
past n [] P = tt
past n (r ∷ l) P = go (eqb (cause_number r.cause) n) (past n l P.1)
  where
    go : (b : Bool) → Past n l → either b (r.holds ≡ false) (Past n l)
    go true q = P.0
    go false q = q

same-cause : (x y : Cause) → ◌≡◌ {A = Ruling} (Err x) (Err y) → x ≡ y
same-cause x y e = cc

-- the first rule that holds decides, and no earlier one holds
pub first-decides : (l : List Rule) (x : Cause) → first_of l ≡ Err x → Decides x l
unfolding first_of fold or_if
first-decides [] x e = never x (sym e)
first-decides (r ∷ l) x e = go r.holds refl (first-decides l x)
  where
    go : (t : Bool) → r.holds ≡ t → (fold or_rule (Ok tt) l ≡ Err x → Decides x l) → Decides x (r ∷ l)
    go true h ih = here h (same-cause r.cause x (sym (stays r.cause l) ∙ (rw h at e)))
    go false h ih = below h (ih (rw h at e))

-- and what so decides is the refusal
pub decides-first : (l : List Rule) (x : Cause) → Decides x l → first_of l ≡ Err x
unfolding first_of fold or_if
decides-first l x D = go x l D
  where
    go : (y : Cause) (m : List Rule) → Decides y m → first_of m ≡ Err y
    go y m (here {r = r} {l = n} h e) = rw h (stays r.cause n ∙ ap Err e)
    go y m (below {r = r} {l = n} h E) = rw h (go y n E)

-- a refusal's cause is one of a rule that can hold
pub refused-among : (f : Cause → Bool) (l : List Rule) → all (λ (r : Rule). f r.cause || not r.holds) l ≡ true → (x : Cause) → first_of l ≡ Err x → f x ≡ true
unfolding first_of fold or_if all
refused-among f [] a x e = never x (sym e)
refused-among f (r ∷ l) a x e = go r.holds refl (refused-among f l (and-right (f r.cause || not r.holds) _ a))
  where
    first : (f r.cause || not r.holds) ≡ true
    first = and-left (f r.cause || not r.holds) _ a

    go : (t : Bool) → r.holds ≡ t → ((y : Cause) → fold or_rule (Ok tt) l ≡ Err y → f y ≡ true) → f x ≡ true
    go true h ih = ap f (sym (same-cause r.cause x (sym (stays r.cause l) ∙ (rw h at e)))) ∙ sym (or-false (f r.cause)) ∙ (rw h at first)
    go false h ih = ih x (rw h at e)

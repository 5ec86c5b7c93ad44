-- Each cause both ways, on a desk in any state: answered only if its line holds and none above it, and accepted if none holds. Assumes
-- nothing.
use Prim.Native.Nat.{ℕ}
use mathlib.Core.Path.{◌≡◌, refl, sym, ap, ◌∙◌}
use mathlib.Core.Bool.{false, true≢false}
use native.Mathlib.Omega.{arith}
use Rattle.std.specs.Prelude.{Ok, Err, Option, Some, None}
use Rattle.state.specs.Desk.{versions_in}
use Rattle.state.specs.Version.{held}
use Rattle.state.specs.declared.Desk.{Desk}
use Rattle.state.specs.declared.HeldVersion.{HeldVersion}
use Rattle.model.specs.Call.{Call, opens, activates, deactivates, submits, notices, assigns, shows, asks, closes, issues, lodges, reports, Stores, lengths_of, Lent, told}
use Rattle.model.specs.Causes.{rules, is_absent, Ruling}
use Rattle.model.specs.Laws.{Passed, Decides}
use Rattle.model.specs.Step.{lines, status_answer, granting, refusal_by, decided, step}
use Rattle.model.specs.View.{view_of}
use Rattle.model.specs.declared.Answer.TheVariants.{Accepted, Refused}
use Rattle.model.specs.declared.Cause.{Cause}
use Rattle.model.proofs.Accepting.{lines-passed}
use Rattle.model.proofs.Rules.{not-refused, passed, passed-fine, past, first-decides, decides-first}

-- ---- each cause both ways, on a desk in any state

-- a version that the table found is answered with its status
pub status-found : {A : Type 0} (h : Option HeldVersion) (x : Cause) → is_absent h ≡ false → status_answer h ≡ Refused x → A
unfolding is_absent status_answer
status-found None x n e = absurd (true≢false n)
status-found (Some h) x n e = let z : ◌≡◌ {A = ℕ} 0 1 = cc in absurd (omega arith)

-- a call of which no line holds is accepted
granted-fine : {A : Type 0} (d : Desk) (s : Stores) (c : Call) (x : Cause) → Passed (rules (view_of d) (lengths_of s) c) → (granting d s c).answer ≡ Refused x → A
granted-fine d s (opens q f c k gs) x P e = not-refused x e
granted-fine d s (activates p k a b day) x P e = not-refused x e
granted-fine d s (deactivates p day) x P e = not-refused x e
granted-fine d s (submits p n day es) x P e = not-refused x e
granted-fine d s (notices p n y day) x P e = not-refused x e
granted-fine d s (assigns a g day) x P e = not-refused x e
granted-fine d s (shows r g) x P e = not-refused x e
granted-fine d s (asks p n) x P e = status-found (held p n (versions_in d)) x (past 24 (rules (view_of d) (lengths_of s) (asks p n)) P) e
granted-fine d s (closes r day) x P e = not-refused x e
granted-fine d s (issues r day) x P e = not-refused x e
granted-fine d s (lodges g day es) x P e = not-refused x e
granted-fine d s (reports r g) x P e = not-refused x e

module _ (d : Desk) (l : Lent) where
  pub step-accepts : Passed (lines d (told l)) → (x : Cause) → (step d l).answer ≡ Refused x → ⊥
  unfolding step decided refusal_by
  step-accepts P x e = granted-fine d l.stores l.call x P.1 (rw (passed-fine (lines d (told l)) P) at e)

  -- a call is refused with a cause only if a line of it holds and none above it does
  pub step-refused : (x : Cause) → (step d l).answer ≡ Refused x → Decides x (lines d (told l))
  unfolding step decided refusal_by
  step-refused x e = go (refusal_by d (told l)) refl e
    where
      go : (v : Ruling) → refusal_by d (told l) ≡ v → (decided v d l.stores l.call).answer ≡ Refused x → Decides x (lines d (told l))
      go (Ok tt) z e = granted-fine d l.stores l.call x (passed (lines d (told l)) z).1 e
      go (Err y) z e = let same : y ≡ x = cc in first-decides (lines d (told l)) x (z ∙ ap Err same)

  -- and then it is
  pub step-refuses : (x : Cause) → Decides x (lines d (told l)) → (step d l).answer ≡ Refused x
  unfolding step decided refusal_by
  step-refuses x D = rw (decides-first (lines d (told l)) x D)

-- what a desk says to an accepted call
pub accepted-passed : (d : Desk) (l : Lent) → (step d l).answer ≡ Accepted → Passed (lines d (told l))
accepted-passed d l e = lines-passed d l (λ x z. not-refused x (sym e ∙ z))

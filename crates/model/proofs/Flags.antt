-- The flag of a run, as a close or an issue sets it. Assumes nothing.
use Prim.Native.Nat.{ℕ}
use mathlib.Core.Path.{◌≡◌, sym, ◌∙◌}
use mathlib.Core.Bool.{Bool, true, false, false≢true}
use mathlib.Core.Logic.{◌⊎◌, inl, inr}
use native.Mathlib.Decide.{ℕ_discrete}
use borrow.Author.Tests.{ne_eqb}
use lib.Dec.{eqb}
use Rattle.quantity.proofs.Tests.{by-test}
use Rattle.state.specs.Desk.{no_run, flag_of, flagged}
use Rattle.state.specs.declared.PerRun.{PerRun}

-- a run's number
abbrev pub Run : ℕ → Type 0
Run r = (r ≡ 1) ⊎ (r ≡ 2)

pub flag-set : (r : ℕ) (s : PerRun Bool) → Run r → flag_of r (flagged r s) ≡ true
flag-set r s (inl e) = rw e
flag-set r s (inr e) = rw e

pub flag-apart : (run r : ℕ) (s : PerRun Bool) → Run run → (run ≡ r → ⊥) → flag_of run (flagged r s) ≡ flag_of run s
flag-apart run r s (inl e) ne = rw (e, ne_eqb r 1 (λ z. ne (e ∙ sym z)))
flag-apart run r s (inr e) ne = rw (e, ne_eqb r 2 (λ z. ne (e ∙ sym z)))

pub flag-kept : (run r : ℕ) (s : PerRun Bool) → Run run → flag_of run s ≡ true → flag_of run (flagged r s) ≡ true
flag-kept run r s R e = go (ℕ_discrete run r)
  where
    go : Dec (run ≡ r) → flag_of run (flagged r s) ≡ true
    go (yes z) = rw (sym z) (flag-set run s R)
    go (no ne) = flag-apart run r s R ne ∙ e

pub unflagged : (run : ℕ) → flag_of run no_run ≡ true → ⊥
unflagged run e = by-test (λ (t : Bool). t ≡ true → ⊥) (eqb run 1) false false (λ _ z. false≢true z) (λ _ z. false≢true z) e

-- As many versions are held, and as many rows of energies, as submissions were accepted. Assumes nothing.
use Prim.Native.Nat.{ℕ, ◌+◌}
use mathlib.Core.Path.{◌≡◌, refl}
use mathlib.Core.Bool.{◌&&◌}
use mathlib.Core.List.{List, [], ◌∷◌}
use native.Mathlib.Omega.{arith}
use lib.Dec.{eqb}
use lib.ListN.{length, set, length-set, length-map, length-append}
use Rattle.std.specs.Prelude.{Option, Some, None}
use Rattle.quantity.specs.Lists.{fold}
use Rattle.quantity.proofs.Tests.{by-test}
use Rattle.state.specs.Change.{confirm, settle}
use Rattle.state.specs.Status.{is_check, confirmed_status}
use Rattle.state.specs.Version.{new_version, restatus, held}
use Rattle.state.specs.declared.HeldVersion.{HeldVersion}
use Rattle.state.specs.declared.VersionRecord.{VersionRecord}
use Rattle.model.specs.Call.{Call, opens, activates, deactivates, submits, notices, assigns, shows, asks, closes, issues, lodges, reports, Lengths, Told, telling}
use Rattle.model.specs.Laws.{submission_by, submissions}
use Rattle.model.specs.Plain.{Worked, versions_of, energies_of, worked_out, after}

-- a notice makes no version
length-confirmed : (c y d : ℕ) (h : Option HeldVersion) (vs : List VersionRecord) → length (confirm c y d h vs) ≡ length vs
length-confirmed c y d None vs = refl
length-confirmed c y d (Some h) vs =
    by-test (λ (ws : List VersionRecord). length ws ≡ length vs) (eqb y 1 && is_check h.record.status) (set vs h.at (restatus (confirmed_status c d) h.record)) vs
    (λ _. length-set vs h.at (restatus (confirmed_status c d) h.record)) (λ _. refl)

-- a call makes one if it is a submission, else none
delivers : (w : Worked) (n : Lengths) (c : Call) → length (after (telling n c) w).versions ≡ submission_by c + length w.versions
unfolding after fold
delivers w n (opens q f c k gs) = omega arith
delivers w n (activates p k a b d) = omega arith
delivers w n (deactivates p d) = omega arith
delivers w n (submits p x d es) = omega (arith, length-append w.versions (new_version w.opening.first.0 (length w.versions) p x d ∷ []))
delivers w n (notices p x y d) = omega (arith, length-confirmed w.opening.clearing.0 y d (held p x w.versions) w.versions)
delivers w n (assigns a g d) = omega arith
delivers w n (shows r g) = omega arith
delivers w n (asks p x) = omega arith
delivers w n (closes r d) = omega arith
delivers w n (issues r d) = omega (arith, length-map w.versions (settle r w.versions))
delivers w n (lodges g d es) = omega arith
delivers w n (reports r g) = omega arith

-- "Each submission makes a version"
pub all-delivered : (h : List Told) → length (versions_of h) ≡ submissions h
unfolding worked_out submissions
all-delivered [] = refl
all-delivered (t ∷ h) = omega (arith, delivers (worked_out h) t.lengths t.call, all-delivered h)

-- and its energies
energises : (w : Worked) (n : Lengths) (c : Call) → length (after (telling n c) w).energies ≡ submission_by c + length w.energies
unfolding after fold
energises w n (opens q f c k gs) = omega arith
energises w n (activates p k a b d) = omega arith
energises w n (deactivates p d) = omega arith
energises w n (submits p x d es) = omega (arith, length-append w.energies (es ∷ []))
energises w n (notices p x y d) = omega arith
energises w n (assigns a g d) = omega arith
energises w n (shows r g) = omega arith
energises w n (asks p x) = omega arith
energises w n (closes r d) = omega arith
energises w n (issues r d) = omega arith
energises w n (lodges g d es) = omega arith
energises w n (reports r g) = omega arith

pub all-energised : (h : List Told) → length (energies_of h) ≡ length (versions_of h)
unfolding worked_out
all-energised [] = refl
all-energised (t ∷ h) = omega (arith, delivers (worked_out h) t.lengths t.call, energises (worked_out h) t.lengths t.call, all-energised h)

-- `deactivate_ruling` meets its contract. Assumes nothing.
use Prim.Native.Nat.{ℕ}
use mathlib.Core.Path.{◌≡◌, refl}
use mathlib.Core.Bool.{Bool, true, not, cond}
use Rattle.std.specs.Prelude.{Ok, Err}
use lib.Dec.{eqb}
use borrow.Author.Rules.{rules}
use Rattle.quantity.specs.Lists.{fold, any}
use Rattle.state.specs.Desk.{rows_in, versions_in, with_frame}
use Rattle.state.specs.Valid.{valid_desk}
use Rattle.state.specs.Version.{is_at}
use Rattle.state.specs.declared.Desk.{Desk}
use Rattle.state.proofs.Bounds.{sound}
use Rattle.state.proofs.Picks.{highest-any}
use Rattle.model.specs.Causes.{or_if, first_of, asking_versions, Ruling}
use Rattle.model.specs.declared.Cause.{Cause}
use Rattle.model.specs.Step.{refusal_by}
use Rattle.checks.specs.Look.{Looked}
use Rattle.checks.specs.declared.Look.{Look}
use Rattle.calls.proofs.deactivate.deactivate_ruling.Goals as goal

-- a line below lines that let the call through
at-last : {v r : Ruling} (t : Bool) (x : Cause) → v ≡ Ok tt → r ≡ cond t (Err x) (Ok tt) → r ≡ or_if v t x
unfolding or_if
at-last t x e h = rw e h

-- a point has a version where its highest is not 0
has-version : (d : Desk) (p : ℕ) (l : Look) → Looked d (asking_versions p 0) l → valid_desk d ≡ true → not (eqb l.survey.highest.0 0) ≡ any (is_at p) (versions_in d)
has-version d p l k v = rw (k.survey (record { 0 = 0 }) refl).highest (highest-any p (rows_in d.frame.opening) (versions_in d) (sound d v).versions)

pub returns : goal.returns
unfolding refusal_by first_of fold or_if
returns c e k n = let d = with_frame e c.args.frame in at-last _ _ (search rules) (rw (← has-version d c.args.point.0 c.args.l k (search rules)) c.refuse_if-5.ensures)

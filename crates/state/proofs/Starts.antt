-- Laws of a desk made anew: all points free, nothing held, nothing selected, and within the limits where its opening is. Assumes nothing.
use Prim.Native.Nat.{ℕ, zero, suc}
use mathlib.Core.Path.{◌≡◌, refl, ap}
use mathlib.Core.Bool.{Bool, true, false}
use mathlib.Core.List.{List, []}
use native.Mathlib.Omega.{arith}
use borrow.Author.Tests.{le-leb}
use lib.Dec.{eqb}
use lib.ListN.{get_or, replicate}
use Rattle.quantity.proofs.Tests.{by-test, and-both}
use Rattle.quantity.specs.Limits.{points, group_ok}
use Rattle.quantity.specs.Lists.{all}
use Rattle.state.specs.Desk.{open_desk, fresh_desk, versions_in, rows_in, log_rows_in}
use Rattle.state.specs.Point.{free_point, point_at}
use Rattle.state.specs.Selection.{best, selected}
use Rattle.state.specs.Valid.{opening_ok, point_record_ok, deltas_ok, frame_ok, valid_desk}
use Rattle.state.specs.Walk.{walk}
use Rattle.state.specs.declared.Opening.{Opening}
use Rattle.state.specs.declared.PointRecord.{PointRecord}
use Rattle.state.specs.declared.PointState.TheVariants.{Free}
use Rattle.state.specs.declared.Selection.{Selection}
use Rattle.state.specs.declared.Selection.TheVariants.{None}

same : {A : Type 0} (n i : ℕ) (a : A) → get_or (replicate n a) i a ≡ a
same zero i a = refl
same (suc n) zero a = refl
same (suc n) (suc i) a = same n i a

all-same : {A : Type 0} (f : A → Bool) (n : ℕ) (a : A) → f a ≡ true → all f (replicate n a) ≡ true
unfolding all
all-same f zero a e = refl
all-same f (suc n) a e = and-both (f a) (all f (replicate n a)) e (all-same f n a e)

module _ (o : Opening) (gs : List ℕ) where
  -- "all points free"
  pub open-free : (p : ℕ) → point_at (open_desk o gs).points p ≡ Free
  open-free zero = refl
  open-free (suc i) = ap (λ (r : PointRecord). r.state) (same points i free_point)

  -- "no versions"
  pub open-empty : versions_in (open_desk o gs) ≡ []
  open-empty = refl

  -- and so nothing is selected
  pub open-selected : (run p : ℕ) → selected run p (versions_in (open_desk o gs)) ≡ None
  unfolding best walk
  open-selected run p = by-test (λ (s : Selection). s ≡ None) (eqb run 1) None None (λ _. refl) (λ _. refl)

  -- an opening within its limits gives a desk within its limits
  pub open-valid : opening_ok o ≡ true → all group_ok gs ≡ true → valid_desk (open_desk o gs) ≡ true
  unfolding valid_desk frame_ok deltas_ok all
  open-valid e g = rw (e, g, le-leb 0 (rows_in o) (omega arith), le-leb 0 (log_rows_in o) (omega arith), all-same point_record_ok points free_point refl)

-- "desk not open"
pub fresh-refused : valid_desk fresh_desk ≡ false
unfolding valid_desk frame_ok opening_ok
fresh-refused = refl

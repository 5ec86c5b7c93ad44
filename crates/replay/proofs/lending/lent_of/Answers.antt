-- `lent_of` meets its contract. Assumes nothing.
use Prim.Native.Nat.{◌*◌, ◌≤◌, ◌<◌}
use native.Mathlib.Nat.{le-div_iff_mul-le, div-lt_iff_lt-mul}
use native.Mathlib.Omega.{arith}
use borrow.Author.Tests.{le-leb, lt-leb}
use Rattle.replay.specs.Feeding.{lent_of}
use Rattle.replay.proofs.lending.lent_of.Goals.{Else-q-most, Then-q-most}
use Rattle.replay.proofs.lending.lent_of.Goals as goal

-- rows × q numbers are there, or not
so-many : (c : Then-q-most) → c.args.rows * c.args.q ≤ c.args.store
so-many c = omega (arith, (le-div_iff_mul-le {k = c.args.rows} {x = c.args.q} {y = c.args.store} c.requires).0 c.if-q-most.true)

too-few : (c : Else-q-most) → c.args.store < c.args.rows * c.args.q
too-few c = omega (arith, (div-lt_iff_lt-mul {k = c.args.rows} {x = c.args.store} {y = c.args.q} c.requires).0 (omega (arith, c.if-q-most.false)))

pub overflow_mul-result : goal.overflow_mul-result
overflow_mul-result c = let h = so-many (goal.at.overflow_mul-result c).Then-q-most in omega (arith, h)

pub returns-then-q-most : goal.returns-then-q-most
unfolding lent_of
returns-then-q-most c = rw (le-leb (c.args.rows * c.args.q) c.args.store (so-many (goal.at.returns-then-q-most c).Then-q-most))

pub returns : goal.returns
unfolding lent_of
returns c = rw (lt-leb (c.args.rows * c.args.q) c.args.store (too-few (goal.at.returns c).Else-q-most))

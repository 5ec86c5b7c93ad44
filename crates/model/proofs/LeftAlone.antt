-- What each call leaves alone, on a running desk in any state and on the plain desk, refused calls included. Assumes nothing.
use mathlib.Core.Path.{◌≡◌, refl}
use mathlib.Core.Bool.{Bool, true, false}
use mathlib.Core.List.{List, [], ◌∷◌}
use lib.IntN.{pos}
use Rattle.std.specs.Prelude.{Ok, Err}
use Rattle.quantity.specs.Lists.{fold}
use Rattle.state.specs.declared.Desk.{Desk}
use Rattle.model.specs.Call.{Call, opens, activates, deactivates, submits, notices, assigns, shows, asks, closes, issues, lodges, reports, Stores, Lengths, Lent, Told, told, telling}
use Rattle.model.specs.Causes.{refusal, Ruling}
use Rattle.model.specs.Leaves.{Part, opening, day, points, groups, versions, used, closed, issued, values, book, log, schedules, row, sums, is_named, may, unless, Leaves, PlainLeaves}
use Rattle.model.specs.Plain.{view_in, plainly, granted, answered, joined, plain_reply, plain_next, worked_out, after}
use Rattle.model.specs.Step.{answering, granting, refusal_by, decided, step}
use Rattle.model.specs.declared.Answer.{Answer}
use Rattle.model.specs.declared.Answer.TheVariants.{Refused}

-- what is as it was, named or not
same : {A : Type 0} (t : Bool) (a : A) → unless t (a ≡ a)
same true a = tt
same false a = refl

-- ---- the running desk

module _ (d : Desk) (s : Stores) where
  -- an answer and nothing else
  unmoved : (m : List Part) (a : Answer) → Leaves m d s (answering a d s)
  unmoved m a =
      record {
        opening = same (is_named opening m) d.frame.opening;
        day = same (is_named day m) d.frame.day;
        points = same (is_named points m) d.points;
        groups = same (is_named groups m) d.frame.groups;
        count = same (is_named versions m) d.frame.count;
        versions = same (is_named versions m) d.versions;
        used = same (is_named used m) d.frame.used;
        closed = same (is_named closed m) d.frame.closed;
        issued = same (is_named issued m) d.frame.issued;
        values = same (is_named values m) s.values;
        book = same (is_named book m) s.book;
        log = same (is_named log m) s.log;
        schedules = same (is_named schedules m) s.schedules;
        row = same (is_named row m) [];
        surplus = same (is_named sums m) 0;
        shortfall = same (is_named sums m) 0;
      }

  grants-leave : (c : Call) → Leaves (may c) d s (granting d s c)
  grants-leave (opens q f c k gs) = record { opening = tt; day = tt; points = tt; groups = tt; count = tt; versions = tt; used = tt; closed = tt; issued = tt; values = refl; book = tt; log = refl; schedules = tt; row = refl; surplus = refl; shortfall = refl }
  grants-leave (activates p k a b e) = record { opening = refl; day = tt; points = tt; groups = refl; count = refl; versions = refl; used = refl; closed = refl; issued = refl; values = refl; book = refl; log = refl; schedules = refl; row = refl; surplus = refl; shortfall = refl }
  grants-leave (deactivates p e) = record { opening = refl; day = tt; points = tt; groups = refl; count = refl; versions = refl; used = refl; closed = refl; issued = refl; values = refl; book = refl; log = refl; schedules = refl; row = refl; surplus = refl; shortfall = refl }
  grants-leave (submits p x e es) = record { opening = refl; day = tt; points = refl; groups = refl; count = tt; versions = tt; used = tt; closed = refl; issued = refl; values = tt; book = tt; log = tt; schedules = refl; row = refl; surplus = refl; shortfall = refl }
  grants-leave (notices p x y e) = record { opening = refl; day = tt; points = refl; groups = refl; count = tt; versions = tt; used = tt; closed = refl; issued = refl; values = refl; book = tt; log = tt; schedules = refl; row = refl; surplus = refl; shortfall = refl }
  grants-leave (assigns a g e) = record { opening = refl; day = tt; points = refl; groups = tt; count = refl; versions = refl; used = refl; closed = refl; issued = refl; values = refl; book = tt; log = refl; schedules = refl; row = refl; surplus = refl; shortfall = refl }
  grants-leave (shows r g) = record { opening = refl; day = refl; points = refl; groups = refl; count = refl; versions = refl; used = refl; closed = refl; issued = refl; values = refl; book = refl; log = refl; schedules = refl; row = tt; surplus = refl; shortfall = refl }
  grants-leave (asks p x) = record { opening = refl; day = refl; points = refl; groups = refl; count = refl; versions = refl; used = refl; closed = refl; issued = refl; values = refl; book = refl; log = refl; schedules = refl; row = refl; surplus = refl; shortfall = refl }
  grants-leave (closes r e) = record { opening = refl; day = tt; points = refl; groups = refl; count = refl; versions = refl; used = refl; closed = tt; issued = refl; values = refl; book = refl; log = refl; schedules = refl; row = refl; surplus = refl; shortfall = refl }
  grants-leave (issues r e) = record { opening = refl; day = tt; points = refl; groups = refl; count = tt; versions = tt; used = refl; closed = refl; issued = tt; values = refl; book = refl; log = refl; schedules = refl; row = refl; surplus = refl; shortfall = refl }
  grants-leave (lodges g e es) = record { opening = refl; day = tt; points = refl; groups = refl; count = refl; versions = refl; used = refl; closed = refl; issued = refl; values = refl; book = refl; log = refl; schedules = tt; row = refl; surplus = refl; shortfall = refl }
  grants-leave (reports r g) = record { opening = refl; day = refl; points = refl; groups = refl; count = refl; versions = refl; used = refl; closed = refl; issued = refl; values = refl; book = refl; log = refl; schedules = refl; row = refl; surplus = tt; shortfall = tt }

-- any call
pub left-alone : (d : Desk) (l : Lent) → Leaves (may l.call) d l.stores (step d l)
unfolding step decided
left-alone d l = go (refusal_by d (told l))
  where
    go : (v : Ruling) → Leaves (may l.call) d l.stores (decided v d l.stores l.call)
    go (Ok tt) = grants-leave d l.stores l.call
    go (Err x) = unmoved d l.stores (may l.call) (Refused x)

-- ---- the plain desk

module _ (h : List Told) where
  -- an answer and nothing else
  nothing-set : (m : List Part) (a : Answer) → PlainLeaves m (plainly a) (worked_out h) (worked_out h)
  nothing-set m a =
      record {
        opening = same (is_named opening m) (worked_out h).opening;
        day = same (is_named day m) (worked_out h).day;
        points = same (is_named points m) (worked_out h).points;
        groups = same (is_named groups m) (worked_out h).groups;
        versions = same (is_named versions m) (worked_out h).versions;
        energies = same (is_named values m) (worked_out h).energies;
        log = same (is_named log m) (worked_out h).log;
        closed = same (is_named closed m) (worked_out h).closed;
        issued = same (is_named issued m) (worked_out h).issued;
        schedules = same (is_named schedules m) (worked_out h).schedules;
        row = same (is_named row m) [];
        surplus = same (is_named sums m) (pos 0);
        shortfall = same (is_named sums m) (pos 0);
      }

  joins-leave : (m : Lengths) (c : Call) → PlainLeaves (may c) (granted h c) (worked_out h) (worked_out (telling m c ∷ h))
  unfolding worked_out after fold
  joins-leave m (opens q f c k gs) = record { opening = tt; day = tt; points = tt; groups = tt; versions = tt; energies = refl; log = refl; closed = tt; issued = tt; schedules = tt; row = refl; surplus = refl; shortfall = refl }
  joins-leave m (activates p k a b d) = record { opening = refl; day = tt; points = tt; groups = refl; versions = refl; energies = refl; log = refl; closed = refl; issued = refl; schedules = refl; row = refl; surplus = refl; shortfall = refl }
  joins-leave m (deactivates p d) = record { opening = refl; day = tt; points = tt; groups = refl; versions = refl; energies = refl; log = refl; closed = refl; issued = refl; schedules = refl; row = refl; surplus = refl; shortfall = refl }
  joins-leave m (submits p x d es) = record { opening = refl; day = tt; points = refl; groups = refl; versions = tt; energies = tt; log = tt; closed = refl; issued = refl; schedules = refl; row = refl; surplus = refl; shortfall = refl }
  joins-leave m (notices p x y d) = record { opening = refl; day = tt; points = refl; groups = refl; versions = tt; energies = refl; log = tt; closed = refl; issued = refl; schedules = refl; row = refl; surplus = refl; shortfall = refl }
  joins-leave m (assigns a g d) = record { opening = refl; day = tt; points = refl; groups = tt; versions = refl; energies = refl; log = refl; closed = refl; issued = refl; schedules = refl; row = refl; surplus = refl; shortfall = refl }
  joins-leave m (shows r g) = record { opening = refl; day = refl; points = refl; groups = refl; versions = refl; energies = refl; log = refl; closed = refl; issued = refl; schedules = refl; row = tt; surplus = refl; shortfall = refl }
  joins-leave m (asks p x) = record { opening = refl; day = refl; points = refl; groups = refl; versions = refl; energies = refl; log = refl; closed = refl; issued = refl; schedules = refl; row = refl; surplus = refl; shortfall = refl }
  joins-leave m (closes r d) = record { opening = refl; day = tt; points = refl; groups = refl; versions = refl; energies = refl; log = refl; closed = tt; issued = refl; schedules = refl; row = refl; surplus = refl; shortfall = refl }
  joins-leave m (issues r d) = record { opening = refl; day = tt; points = refl; groups = refl; versions = tt; energies = refl; log = refl; closed = refl; issued = tt; schedules = refl; row = refl; surplus = refl; shortfall = refl }
  joins-leave m (lodges g d es) = record { opening = refl; day = tt; points = refl; groups = refl; versions = refl; energies = refl; log = refl; closed = refl; issued = refl; schedules = tt; row = refl; surplus = refl; shortfall = refl }
  joins-leave m (reports r g) = record { opening = refl; day = refl; points = refl; groups = refl; versions = refl; energies = refl; log = refl; closed = refl; issued = refl; schedules = refl; row = refl; surplus = tt; shortfall = tt }

-- any call
pub plain-left-alone : (h : List Told) (t : Told) → PlainLeaves (may t.call) (plain_reply h t) (worked_out h) (worked_out (plain_next h t))
unfolding plain_reply plain_next answered joined
plain-left-alone h t = go (refusal (view_in h) t)
  where
    go : (v : Ruling) → PlainLeaves (may t.call) (answered v h t.call) (worked_out h) (worked_out (joined v h t))
    go (Ok tt) = joins-leave h t.lengths t.call
    go (Err x) = nothing-set h (may t.call) (Refused x)

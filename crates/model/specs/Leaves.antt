-- What each call leaves alone, and which gives a row or sums.
use Rattle.std.specs.Prelude.{ℕ, ◌≡◌, Bool, true, false, ◌||◌, List, [], ◌∷◌, eqb, pos}
use Rattle.state.specs.declared.Desk.{Desk}
use Rattle.model.specs.Call.{Call, opens, activates, deactivates, submits, notices, assigns, shows, asks, closes, issues, lodges, reports, Stores, Reply}
use Rattle.model.specs.Plain.{Worked}
use Rattle.model.specs.Step.{Outcome}

-- the things of a desk: what the opening fixed, the day, points, delta groups of both runs, versions, log rows used, runs closed and issued; and its
-- four stores, of which the plain desk works out energies, log rows and schedules; and beside the answer a row and a month's two sums
pub data Part : Type 0 where
  opening : Part
  day : Part
  points : Part
  groups : Part
  versions : Part
  used : Part
  closed : Part
  issued : Part
  values : Part
  book : Part
  log : Part
  schedules : Part
  row : Part
  sums : Part

-- each has its number
abbrev pub part_number : Part → ℕ
part_number opening = 1
part_number day = 2
part_number points = 3
part_number groups = 4
part_number versions = 5
part_number used = 6
part_number closed = 7
part_number issued = 8
part_number values = 9
part_number book = 10
part_number log = 11
part_number schedules = 12
part_number row = 13
part_number sums = 14

-- the thing stands in a list
abbrev pub is_named : Part → List Part → Bool
is_named x [] = false
is_named x (y ∷ l) = eqb (part_number x) (part_number y) || is_named x l

-- what each call may change, one line a call: an opening makes the desk anew and clears book and schedules, "values and log untouched"; "An accepted call
-- with a day sets it."; "submit and notice take all three stores", of which a notice writes no values; "show 0 and its group's Q figures, the rest 0"
abbrev pub may : Call → List Part
may (opens q f c k gs) = opening ∷ day ∷ points ∷ groups ∷ versions ∷ used ∷ closed ∷ issued ∷ book ∷ schedules ∷ []
may (activates p k a b d) = points ∷ day ∷ []
may (deactivates p d) = points ∷ day ∷ []
may (submits p x d es) = versions ∷ used ∷ day ∷ values ∷ book ∷ log ∷ []
may (notices p x y d) = versions ∷ used ∷ day ∷ book ∷ log ∷ []
may (assigns a g d) = groups ∷ day ∷ book ∷ []
may (shows r g) = row ∷ []
may (asks p x) = []
may (closes r d) = closed ∷ day ∷ []
may (issues r d) = issued ∷ versions ∷ day ∷ []
may (lodges g d es) = day ∷ schedules ∷ []
may (reports r g) = sums ∷ []

-- a thing that is not named is as it was
abbrev pub unless : Bool → Type 0 → Type 0
unless true P = Unit {0}
unless false P = P

-- of the running desk and its stores; a row that is not named is empty, and such sums are 0
pub record Leaves (named : List Part) (d : Desk) (s : Stores) (o : Outcome) : Type 0 where
  pub opening : unless (is_named opening named) (o.desk.frame.opening ≡ d.frame.opening)
  pub day : unless (is_named day named) (o.desk.frame.day ≡ d.frame.day)
  pub points : unless (is_named points named) (o.desk.points ≡ d.points)
  pub groups : unless (is_named groups named) (o.desk.frame.groups ≡ d.frame.groups)
  pub count : unless (is_named versions named) (o.desk.frame.count ≡ d.frame.count)
  pub versions : unless (is_named versions named) (o.desk.versions ≡ d.versions)
  pub used : unless (is_named used named) (o.desk.frame.used ≡ d.frame.used)
  pub closed : unless (is_named closed named) (o.desk.frame.closed ≡ d.frame.closed)
  pub issued : unless (is_named issued named) (o.desk.frame.issued ≡ d.frame.issued)
  pub values : unless (is_named values named) (o.stores.values ≡ s.values)
  pub book : unless (is_named book named) (o.stores.book ≡ s.book)
  pub log : unless (is_named log named) (o.stores.log ≡ s.log)
  pub schedules : unless (is_named schedules named) (o.stores.schedules ≡ s.schedules)
  pub row : unless (is_named row named) (o.part ≡ [])
  pub surplus : unless (is_named sums named) (o.surplus ≡ 0)
  pub shortfall : unless (is_named sums named) (o.shortfall ≡ 0)

-- and of the plain desk
pub record PlainLeaves (named : List Part) (r : Reply) (before after : Worked) : Type 0 where
  pub opening : unless (is_named opening named) (after.opening ≡ before.opening)
  pub day : unless (is_named day named) (after.day ≡ before.day)
  pub points : unless (is_named points named) (after.points ≡ before.points)
  pub groups : unless (is_named groups named) (after.groups ≡ before.groups)
  pub versions : unless (is_named versions named) (after.versions ≡ before.versions)
  pub energies : unless (is_named values named) (after.energies ≡ before.energies)
  pub log : unless (is_named log named) (after.log ≡ before.log)
  pub closed : unless (is_named closed named) (after.closed ≡ before.closed)
  pub issued : unless (is_named issued named) (after.issued ≡ before.issued)
  pub schedules : unless (is_named schedules named) (after.schedules ≡ before.schedules)
  pub row : unless (is_named row named) (r.row ≡ [])
  pub surplus : unless (is_named sums named) (r.surplus ≡ pos 0)
  pub shortfall : unless (is_named sums named) (r.shortfall ≡ pos 0)

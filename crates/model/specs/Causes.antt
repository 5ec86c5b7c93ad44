-- "Causes and numbers": "Checks go down the table, only those that fit the call; the first that holds decides."
use Rattle.std.specs.Prelude.{ℕ, ◌+◌, ◌*◌, Bool, true, false, cond, not, ◌&&◌, ◌||◌, List, [], ◌∷◌, leb, ltb, eqb, ℤ, length, Result, Ok, Err, Option, Some, None}
use Rattle.quantity.specs.Limits.{versions, deltas, day_ok, version_ok, point_ok, delta_ok, group_ok, run_ok, energy_ok}
use Rattle.quantity.specs.Lists.{all, any, fold}
use Rattle.state.specs.Change.{submitted, noticed}
use Rattle.state.specs.Desk.{is_open, flag_of}
use Rattle.state.specs.Point.{point_at, is_active, since_of, has_series, series_ok}
use Rattle.state.specs.Selection.{highest}
use Rattle.state.specs.Status.{is_check}
use Rattle.state.specs.Valid.{opening_ok}
use Rattle.state.specs.Version.{new_version, is_at, held}
use Rattle.state.specs.declared.HeldVersion.{HeldVersion}
use Rattle.state.specs.declared.Opening.{Opening}
use Rattle.state.specs.declared.VersionRecord.{VersionRecord}
use Rattle.model.specs.Call.{Call, opens, activates, deactivates, submits, notices, assigns, shows, asks, closes, issues, lodges, reports, Lengths, Taken, every_store, all_but_schedules, the_book, the_schedules, book_and_schedules, no_store, Told}
use Rattle.model.specs.Log.{due}
use Rattle.model.specs.View.{View}
use Rattle.model.specs.declared.Asks.{Asks}
use Rattle.model.specs.declared.Cause.{Cause}
use Rattle.model.specs.declared.Cause.TheVariants.{NotOpen, WrongLength, BadField, OpenAgain, BadOpening, PastDay, AfterCorrection, TooLate, PointActive, SameSeries, NotActive, HasVersion, TooEarly, VersionPresent, VersionBelow, NoVersion, NoticeBelow, NotCheckData, NoRow, NoLogRow, CloseTooEarly, AlreadyClosed, FirstRunOpen, NotClosed, AlreadyIssued}
use Rattle.model.specs.declared.LogRow.{LogRow}

-- what the table says of a call: fine, or the cause that decides
abbrev pub Ruling : Type 0
Ruling = Result (Unit {0}) Cause

-- a line of the table for a call: whether the cause holds, and the cause
pub record Rule : Type 0 where
  pub holds : Bool
  pub cause : Cause

-- a line above others
abbrev pub rule : Bool → Cause → List Rule → List Rule
rule t c l = record { holds = t; cause = c } ∷ l

-- what is refused stays refused; what is fine is refused where the test holds
unfoldable pub or_if : Ruling → Bool → Cause → Ruling
or_if (Ok tt) t c = cond t (Err c) (Ok tt)
or_if (Err e) t c = Err e

-- the same by a line of the table
abbrev pub or_rule : Ruling → Rule → Ruling
or_rule v r = or_if v r.holds r.cause

-- "the first that holds decides"
unfoldable pub first_of : List Rule → Ruling
first_of l = fold or_rule (Ok tt) l

-- the opening that a call of open would make
abbrev pub opening_by : (quarters first clearing correction : ℕ) → Lengths → Opening
opening_by q f c k n =
    record {
      quarters = q;
      first = record { 0 = f };
      clearing = record { 0 = c };
      correction = record { 0 = k };
      values = n.values;
      book = n.book;
      log = n.log;
      schedules = n.schedules;
    }

-- "open: Q, deadlines, groups or store lengths not allowed"; "17 delta groups (T, areas 1..16)"
unfoldable pub opens_ok : Opening → (groups : List ℕ) → Bool
opens_ok o gs = opening_ok o && (eqb (length gs) deltas && all group_ok gs)

-- a store that the call takes, lent in another length
abbrev pub other_length : (taken : Bool) (lent opening : ℕ) → Bool
other_length t n m = t && not (eqb n m)

-- "values, book or log that the call takes differs from its opening length"; document 02: of schedules too, "Store length, .. use 2"
unfoldable pub other_lengths : Taken → Lengths → Opening → Bool
other_lengths t n o =
    other_length t.schedules n.schedules o.schedules
    || (other_length t.values n.values o.values || (other_length t.book n.book o.book || other_length t.log n.log o.log))

-- "field outside its range, .. wrong series length, energy too large" of a submission
abbrev pub submit_ok : (point version day quarters : ℕ) → List ℤ → Bool
submit_ok p x d q es = point_ok p && (version_ok x && (day_ok d && (eqb (length es) q && all energy_ok es)))

-- a notice's fields; "verdict (1 positive, 0 negative)"
abbrev pub notice_ok : (point version verdict day : ℕ) → Bool
notice_ok p x y d = point_ok p && (version_ok x && (leb y 1 && day_ok d))

-- a lodging's fields: group, day, "Q energies"
abbrev pub lodge_ok : (group day quarters : ℕ) → List ℤ → Bool
lodge_ok g d q es = group_ok g && (day_ok d && (eqb (length es) q && all energy_ok es))

-- "no such version"
unfoldable pub is_absent : Option HeldVersion → Bool
is_absent None = true
is_absent (Some h) = false

-- "version below the point's highest", of whatever status: 15 of a submission, 37 of a notice
abbrev pub is_below : (point version : ℕ) → List VersionRecord → Bool
is_below p x vs = ltb x (highest p vs)

-- "notice: status not 1"
unfoldable pub not_check : Option HeldVersion → Bool
not_check None = true
not_check (Some h) = not (is_check h.record.status)

-- "a log row is due and none is left"
abbrev pub log_full : (used log : ℕ) → Option LogRow → Bool
log_full n log None = false
log_full n log (Some r) = ltb log (4 * (n + 1))

-- "day ≤ C (run 1) or ≤ K (run 2)"
abbrev pub deadline : Opening → (run : ℕ) → ℕ
deadline o run = cond (eqb run 1) o.clearing.0 o.correction.0

-- what a call asks of the desk: nothing,
abbrev pub asking_nothing : Asks
asking_nothing =
    record { point = record { 0 = 0 }; series = None; version = None }

-- a point and of all points a series,
abbrev pub asking_series : (point kind area partner : ℕ) → Asks
asking_series p k a b =
    record { point = record { 0 = p }; series = Some (record { kind = k; area = a; partner = b }); version = None }

-- or a point and its versions, one of them by its number
abbrev pub asking_versions : (point version : ℕ) → Asks
asking_versions p x =
    record { point = record { 0 = p }; series = None; version = Some (record { 0 = x }) }

-- ---- what a call is

-- beside its fields: the stores that it takes, the day that it sets, what it asks, and its lines of the table
pub record Terms : Type 0 where
  -- "(all but open)"
  pub opening : Bool
  -- "Open, submit and notice take all three stores, assign and show the book, the rest none"; document 02: "open takes it too", "Lodging takes this
  -- store, a report this and the book."
  pub takes : Taken
  -- Q of the book that it is lent: an opening's own, else the desk's
  pub quarters : (desk : ℕ) → ℕ
  -- "An accepted call with a day sets it.": the day then, from the one before
  pub day : (before : ℕ) → ℕ
  -- what it asks of the desk's tables
  pub asks : Asks
  -- "only those that fit the call": the causes, from top to bottom
  pub rules : View → Lengths → List Rule

-- one table: a record for each call
abbrev pub terms : Call → Terms
terms (opens q f c k gs) =
    record {
      opening = true;
      takes = every_store;
      quarters = λ m. q;
      day = λ e. e;
      asks = asking_nothing;
      rules = λ v n.
          rule (is_open v.frame.opening) OpenAgain
          (rule (not (opens_ok (opening_by q f c k n) gs)) BadOpening
          []);
    }
terms (activates p k a b d) =
    record {
      opening = false;
      takes = no_store;
      quarters = λ m. m;
      day = λ e. d;
      asks = asking_series p k a b;
      rules = λ v n.
          rule (not (is_open v.frame.opening)) NotOpen
          (rule (not (point_ok p && (day_ok d && series_ok k a b))) BadField
          (rule (ltb d v.frame.day.0) PastDay
          (rule (ltb v.frame.opening.correction.0 d) AfterCorrection
          (rule (is_active (point_at v.points p)) PointActive
          (rule (any (has_series k a b) v.points) SameSeries
          [])))));
    }
terms (deactivates p d) =
    record {
      opening = false;
      takes = no_store;
      quarters = λ m. m;
      day = λ e. d;
      asks = asking_versions p 0;
      rules = λ v n.
          rule (not (is_open v.frame.opening)) NotOpen
          (rule (not (point_ok p && day_ok d)) BadField
          (rule (ltb d v.frame.day.0) PastDay
          (rule (ltb v.frame.opening.correction.0 d) AfterCorrection
          (rule (not (is_active (point_at v.points p))) NotActive
          (rule (any (is_at p) v.versions) HasVersion
          [])))));
    }
terms (submits p x d es) =
    record {
      opening = false;
      takes = all_but_schedules;
      quarters = λ m. m;
      day = λ e. d;
      asks = asking_versions p x;
      rules = λ v n.
          rule (not (is_open v.frame.opening)) NotOpen
          (rule (other_lengths all_but_schedules n v.frame.opening) WrongLength
          (rule (not (submit_ok p x d v.frame.opening.quarters es)) BadField
          (rule (ltb d v.frame.day.0) PastDay
          (rule (ltb v.frame.opening.correction.0 d) AfterCorrection
          (rule (not (is_active (point_at v.points p))) NotActive
          (rule (ltb d (since_of (point_at v.points p) + 2)) TooEarly
          (rule (not (is_absent (held p x v.versions))) VersionPresent
          (rule (is_below p x v.versions) VersionBelow
          (rule (leb versions (length v.versions) || ltb v.frame.opening.values ((length v.versions + 1) * v.frame.opening.quarters)) NoRow
          (rule
          (log_full v.frame.used v.frame.opening.log
          (due v.versions (submitted (new_version v.frame.opening.first.0 (length v.versions) p x d) v.versions) p d)) NoLogRow
          []))))))))));
    }
terms (notices p x y d) =
    record {
      opening = false;
      takes = all_but_schedules;
      quarters = λ m. m;
      day = λ e. d;
      asks = asking_versions p x;
      rules = λ v n.
          rule (not (is_open v.frame.opening)) NotOpen
          (rule (other_lengths all_but_schedules n v.frame.opening) WrongLength
          (rule (not (notice_ok p x y d)) BadField
          (rule (ltb d v.frame.day.0) PastDay
          (rule (ltb v.frame.opening.correction.0 d) AfterCorrection
          (rule (not (is_active (point_at v.points p))) NotActive
          (rule (is_absent (held p x v.versions)) NoVersion
          (rule (is_below p x v.versions) NoticeBelow
          (rule (not_check (held p x v.versions)) NotCheckData
          (rule
          (log_full v.frame.used v.frame.opening.log
          (due v.versions (noticed v.frame.opening.clearing.0 p x y d v.versions) p d)) NoLogRow
          [])))))))));
    }
terms (assigns a g d) =
    record {
      opening = false;
      takes = the_book;
      quarters = λ m. m;
      day = λ e. d;
      asks = asking_nothing;
      rules = λ v n.
          rule (not (is_open v.frame.opening)) NotOpen
          (rule (other_lengths the_book n v.frame.opening) WrongLength
          (rule (not (delta_ok a && (group_ok g && day_ok d))) BadField
          (rule (ltb d v.frame.day.0) PastDay
          (rule (ltb v.frame.opening.correction.0 d) TooLate
          []))));
    }
terms (shows r g) =
    record {
      opening = false;
      takes = the_book;
      quarters = λ m. m;
      day = λ e. e;
      asks = asking_nothing;
      rules = λ v n.
          rule (not (is_open v.frame.opening)) NotOpen
          (rule (other_lengths the_book n v.frame.opening) WrongLength
          (rule (not (run_ok r && group_ok g)) BadField
          []));
    }
terms (asks p x) =
    record {
      opening = false;
      takes = no_store;
      quarters = λ m. m;
      day = λ e. e;
      asks = asking_versions p x;
      rules = λ v n.
          rule (not (is_open v.frame.opening)) NotOpen
          (rule (not (point_ok p && version_ok x)) BadField
          (rule (not (is_active (point_at v.points p))) NotActive
          (rule (is_absent (held p x v.versions)) NoVersion
          [])));
    }
terms (closes r d) =
    record {
      opening = false;
      takes = no_store;
      quarters = λ m. m;
      day = λ e. d;
      asks = asking_nothing;
      rules = λ v n.
          rule (not (is_open v.frame.opening)) NotOpen
          (rule (not (run_ok r && day_ok d)) BadField
          (rule (ltb d v.frame.day.0) PastDay
          (rule (leb d (deadline v.frame.opening r)) CloseTooEarly
          (rule (flag_of r v.frame.closed) AlreadyClosed
          (rule (eqb r 2 && not (flag_of 1 v.frame.closed)) FirstRunOpen
          [])))));
    }
terms (issues r d) =
    record {
      opening = false;
      takes = no_store;
      quarters = λ m. m;
      day = λ e. d;
      asks = asking_nothing;
      rules = λ v n.
          rule (not (is_open v.frame.opening)) NotOpen
          (rule (not (run_ok r && day_ok d)) BadField
          (rule (ltb d v.frame.day.0) PastDay
          (rule (not (flag_of r v.frame.closed)) NotClosed
          (rule (flag_of r v.frame.issued) AlreadyIssued
          []))));
    }
terms (lodges g d es) =
    record {
      opening = false;
      takes = the_schedules;
      quarters = λ m. m;
      day = λ e. d;
      asks = asking_nothing;
      rules = λ v n.
          rule (not (is_open v.frame.opening)) NotOpen
          (rule (other_lengths the_schedules n v.frame.opening) WrongLength
          (rule (not (lodge_ok g d v.frame.opening.quarters es)) BadField
          (rule (ltb d v.frame.day.0) PastDay
          (rule (ltb v.frame.opening.clearing.0 d) TooLate
          []))));
    }
terms (reports r g) =
    record {
      opening = false;
      takes = book_and_schedules;
      quarters = λ m. m;
      day = λ e. e;
      asks = asking_nothing;
      rules = λ v n.
          rule (not (is_open v.frame.opening)) NotOpen
          (rule (other_lengths book_and_schedules n v.frame.opening) WrongLength
          (rule (not (run_ok r && group_ok g)) BadField
          []));
    }

-- the stores that a call takes; one that it does not take may be any, and is not looked at
abbrev pub takes : Call → Taken
takes c = (terms c).takes

-- "the table, for each call the causes that fit it"
abbrev pub rules : View → Lengths → Call → List Rule
rules v n c = (terms c).rules v n

-- what the table says of a call on an honest desk
unfoldable pub refusal : View → Told → Ruling
refusal v t = first_of (rules v t.lengths t.call)

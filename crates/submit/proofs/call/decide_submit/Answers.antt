-- `decide_submit` meets its contract. Assumes nothing.
use mathlib.Core.Path.{◌≡◌, refl, sym, ap, ◌∙◌}
use mathlib.Core.Bool.{true}
use mathlib.Core.List.{List, map}
use borrow.Author.Tests.{not-false, not-true}
use Rattle.std.specs.Prelude.{Option}
use Rattle.quantity.specs.Limits.{point_ok}
use Rattle.quantity.specs.Word.{signed}
use Rattle.state.specs.Desk.{versions_in, with_frame}
use Rattle.state.specs.Valid.{valid_desk, Sound}
use Rattle.quantity.specs.declared.Day.{Day}
use Rattle.quantity.specs.declared.PointNo.{PointNo}
use Rattle.quantity.specs.declared.Version.{Version}
use Rattle.state.specs.declared.Desk.{Desk}
use Rattle.state.specs.declared.Frame.{Frame}
use Rattle.state.specs.declared.VersionRecord.{VersionRecord}
use Rattle.state.proofs.Bounds.{sound}
use Rattle.model.specs.Call.{submits, lengths_of, told}
use Rattle.model.specs.Causes.{asking_versions}
use Rattle.model.specs.Log.{turn_of, due_by, due}
use Rattle.model.specs.declared.LogRow.{LogRow}
use Rattle.model.specs.declared.Turn.{Turn}
use Rattle.checks.specs.declared.Look.{Look as TheLook}
use Rattle.checks.specs.Look.{Looked}
use Rattle.checks.specs.Stepped.{lent, storing}
use Rattle.checks.proofs.Deciding.{no_lengths, unfit, fit, unmoved, all-refused, all-granted}
use Rattle.submit.specs.Submit.{submitted_in, turn_by, Granted}
use Rattle.submit.proofs.Submitting.{turned, submit-allowed, submit-stepped}
use Rattle.submit.proofs.call.decide_submit.Goals.{In-Ok}
use Rattle.submit.proofs.call.decide_submit.Goals as goal

-- a desk with the frame, of which the look is one that found it within its limits
module _ (f : Frame) (point : PointNo) (version : Version) (day : Day) (l : TheLook) (e : Desk)
    (k : Looked (with_frame e f) (asking_versions point.0 version.0) l) (t : l.valid ≡ true) where
  valid : valid_desk (with_frame e f) ≡ true
  valid = sym k.valid ∙ t

  within : Sound (with_frame e f)
  within = sound (with_frame e f) valid

  -- its versions with the one that the submission makes
  abbrev after : List VersionRecord
  after = submitted_in (with_frame e f) point.0 version.0 day.0

  turn-is : (r : Turn) → r ≡ turn_by f version day.0 l.survey → r ≡ turn_of (versions_in (with_frame e f)) after point.0
  turn-is r h = h ∙ turned (with_frame e f) point.0 day.0 version l.survey within.count k.table (k.survey _ refl)

  due-is : (r : Turn) (u : Option LogRow) → r ≡ turn_by f version day.0 l.survey → u ≡ due_by r point.0 day.0
      → u ≡ due (versions_in (with_frame e f)) after point.0 day.0
  unfolding due
  due-is r u h g = g ∙ ap (λ (x : Turn). due_by x point.0 day.0) (turn-is r h)

pub returns-then-not-l : goal.returns-then-not-l
returns-then-not-l c e k =
    let a = c.args in
    let d = with_frame e a.f in
    let call = submits a.point.0 a.version.0 a.day.0 (map signed a.series.now) in
    let u = unmoved d c.refuse.ensures in (
      u.0,
      λ s.
          let stores = storing s a.values.now a.book.now a.log.now in
          all-refused d call stores refl (unfit d (told (lent call stores)) refl (sym k.valid ∙ not-true _ c.if-not-l.true)) u.1,
    )

pub submit_turn-turn-requires : goal.submit_turn-turn-requires
submit_turn-turn-requires c =
    let a = c.args in
    let p = c.requires in
    (within a.f a.point a.version a.day a.l p.desk p.looked (not-false _ c.if-not-l.false)).count

pub submit_ruling-requires : goal.submit_ruling-requires
submit_ruling-requires c =
    let a = c.args in
    let p = c.requires in
    let s = within a.f a.point a.version a.day a.l p.desk p.looked (not-false _ c.if-not-l.false) in
    record { count_le_versions = (s.count, s.most); used_bound = s.used }

-- what it has passed
passed : (c : In-Ok) → (point_ok c.args.point.0 ≡ true) × Granted c.args.f c.args.l.here c.args.series.now c.args.values.now c.args.book.now c.args.log.now c.submit_turn-turn.result c.due_by-due.result
passed c =
    let a = c.args in
    let d = c.requires.desk in
    let k = c.requires.looked in
    let v = not-false _ c.if-not-l.false in
    let t = turn-is a.f a.point a.version a.day a.l d k v _ c.submit_turn-turn.ensures in
    let u = due-is a.f a.point a.version a.day a.l d k v _ _ c.submit_turn-turn.ensures c.due_by-due.ensures in
    let fine = sym (c.submit_ruling.ensures d k u no_lengths) ∙ c.in-Ok.is in
    submit-allowed (with_frame d a.f) a.point.0 a.version.0 a.day.0 a.series.now a.values.now a.book.now a.log.now _ _
    t u (within a.f a.point a.version a.day a.l d k v) k.table fine k.here

pub new_version-v-requires : goal.new_version-v-requires
new_version-v-requires c =
    let g = passed (goal.at.new_version-v-requires c).In-Ok in
    record { point_value = g.0; row_lt_versions = g.1.more }

pub submit_granted-requires : goal.submit_granted-requires
submit_granted-requires c = (passed (goal.at.submit_granted-requires c).In-Ok).1

pub returns-in-Err : goal.returns-in-Err
returns-in-Err c e k =
    let a = c.args in
    let d = with_frame e a.f in
    let v = not-false _ c.if-not-l.false in
    let call = submits a.point.0 a.version.0 a.day.0 (map signed a.series.now) in
    let n = due-is a.f a.point a.version a.day a.l e k v _ _ c.submit_turn-turn.ensures c.due_by-due.ensures in
    let u = unmoved d c.refuse-in-Err.ensures in (
      u.0,
      λ s.
          let stores = storing s a.values.now a.book.now a.log.now in
          all-refused d call stores (c.submit_ruling.ensures e k n (lengths_of s) ∙ sym (fit d (told (lent call stores)) refl (valid a.f a.point a.version a.day a.l e k v))) c.in-Err.is u.1,
    )

pub returns-in-Ok : goal.returns-in-Ok
returns-in-Ok c e k =
    let a = c.args in
    let d = with_frame e a.f in
    let v = not-false _ c.if-not-l.false in
    let call = submits a.point.0 a.version.0 a.day.0 (map signed a.series.now) in
    let t = turn-is a.f a.point a.version a.day a.l e k v _ c.submit_turn-turn.ensures in
    let n = due-is a.f a.point a.version a.day a.l e k v _ _ c.submit_turn-turn.ensures c.due_by-due.ensures in
    let g = c.submit_granted.ensures in
    rw (c.accept.ensures.0, c.accept.ensures.1) (
      (g.desk e).0,
      λ s.
          let stores = storing s a.values.now a.book.now a.log.now in
          all-granted d call stores (c.submit_ruling.ensures e k n (lengths_of s) ∙ sym (fit d (told (lent call stores)) refl (valid a.f a.point a.version a.day a.l e k v))) c.in-Ok.is
          (submit-stepped d a.point.0 a.version.0 a.day.0 a.series.now a.values.now a.book.now a.log.now _ _ t n s k.here c.new_version-v.ensures g),
    )

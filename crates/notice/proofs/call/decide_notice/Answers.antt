-- `decide_notice` meets its contract. Assumes nothing.
use mathlib.Core.Path.{◌≡◌, refl, sym, ap, ◌∙◌}
use mathlib.Core.Bool.{true}
use mathlib.Core.List.{List}
use Prim.Native.Nat.{ℕ}
use borrow.Author.Tests.{not-false, not-true}
use Rattle.std.specs.Prelude.{Option}
use Rattle.state.specs.Desk.{versions_in, with_frame}
use Rattle.state.specs.Valid.{valid_desk}
use Rattle.quantity.specs.declared.Day.{Day}
use Rattle.quantity.specs.declared.PointNo.{PointNo}
use Rattle.quantity.specs.declared.Version.{Version}
use Rattle.state.specs.declared.Desk.{Desk}
use Rattle.state.specs.declared.Frame.{Frame}
use Rattle.state.specs.declared.VersionRecord.{VersionRecord}
use Rattle.state.proofs.Bounds.{sound}
use Rattle.model.specs.Call.{notices, lengths_of, told}
use Rattle.model.specs.Causes.{asking_versions}
use Rattle.model.specs.Log.{turn_of, due_by, due}
use Rattle.model.specs.declared.LogRow.{LogRow}
use Rattle.model.specs.declared.Turn.{Turn}
use Rattle.checks.specs.declared.Look.{Look as TheLook}
use Rattle.checks.specs.Look.{Looked}
use Rattle.checks.specs.Stepped.{lent, storing}
use Rattle.checks.proofs.Deciding.{no_lengths, unfit, fit, unmoved, all-refused, all-granted}
use Rattle.notice.specs.Notice.{noticed_in, turn_by}
use Rattle.notice.proofs.Noticing.{turned, notice-allowed, notice-fits, notice-stepped}
use Rattle.notice.proofs.call.decide_notice.Goals as goal

-- a desk with the frame, of which the look is one that found it within its limits
module _ (f : Frame) (point : PointNo) (version : Version) (verdict : ℕ) (day : Day) (l : TheLook) (d : Desk)
    (looked : Looked (with_frame d f) (asking_versions point.0 version.0) l) where
  valid : l.valid ≡ true → valid_desk (with_frame d f) ≡ true
  valid t = sym looked.valid ∙ t

  -- its versions after the notice
  abbrev after : List VersionRecord
  after = noticed_in (with_frame d f) point.0 version.0 verdict day.0

  turn-is : (r : Turn) → r ≡ turn_by f verdict day.0 l.survey → r ≡ turn_of (versions_in (with_frame d f)) after point.0
  turn-is r h = h ∙ turned (with_frame d f) point.0 version.0 verdict day.0 l.survey (looked.survey _ refl)

  due-is : (r : Turn) (u : Option LogRow) → r ≡ turn_by f verdict day.0 l.survey → u ≡ due_by r point.0 day.0
      → u ≡ due (versions_in (with_frame d f)) after point.0 day.0
  unfolding due
  due-is r u h g = g ∙ ap (λ (x : Turn). due_by x point.0 day.0) (turn-is r h)

pub returns-then-not-l : goal.returns-then-not-l
returns-then-not-l c d looked =
    let p = c in
    let a = p.args in
    let e = with_frame d c.args.f in
    let call = notices a.point.0 a.version.0 a.verdict a.day.0 in
    let u = unmoved e c.refuse.ensures in (
      u.0,
      λ s.
          let stores = storing s a.values.now a.book.now a.log.now in
          all-refused e call stores refl (unfit e (told (lent call stores)) refl (sym looked.valid ∙ not-true _ c.if-not-l.true)) u.1,
    )

pub notice_ruling-requires : goal.notice_ruling-requires
notice_ruling-requires c =
    let s = c in
    (sound (with_frame s.requires.desk c.args.f) (valid c.args.f c.args.point c.args.version c.args.verdict c.args.day c.args.l s.requires.desk s.requires.looked (not-false _ c.if-not-l.false))).used

pub notice_granted-requires : goal.notice_granted-requires
notice_granted-requires c =
    let s = c in
    let a = s.args in
    let d = s.requires.desk in
    let looked = s.requires.looked in
    let e = with_frame d c.args.f in
    let owed = due-is c.args.f c.args.point c.args.version c.args.verdict c.args.day c.args.l d looked _ _ c.notice_turn-turn.ensures c.due_by-due.ensures in
    notice-allowed e a.point.0 a.version.0 a.verdict a.day.0 a.values.now a.book.now a.log.now _ _ _ (sound e (valid c.args.f c.args.point c.args.version c.args.verdict c.args.day c.args.l d looked (not-false _ c.if-not-l.false))) looked.table (looked.survey _ refl).held (turn-is c.args.f c.args.point c.args.version c.args.verdict c.args.day c.args.l d looked _ c.notice_turn-turn.ensures) owed looked.here
    (sym (c.notice_ruling.ensures d looked owed no_lengths) ∙ c.in-Ok.is)

pub returns-in-Err : goal.returns-in-Err
returns-in-Err c d looked =
    let p = c in
    let a = p.args in
    let e = with_frame d c.args.f in
    let call = notices a.point.0 a.version.0 a.verdict a.day.0 in
    let u = unmoved e c.refuse-in-Err.ensures in (
      u.0,
      λ s.
          let stores = storing s a.values.now a.book.now a.log.now in
          all-refused e call stores (c.notice_ruling.ensures d looked (due-is c.args.f c.args.point c.args.version c.args.verdict c.args.day c.args.l d looked _ _ c.notice_turn-turn.ensures c.due_by-due.ensures) (lengths_of s) ∙ sym (fit e (told (lent call stores)) refl (valid c.args.f c.args.point c.args.version c.args.verdict c.args.day c.args.l d looked (not-false _ c.if-not-l.false)))) c.in-Err.is u.1,
    )

pub returns-in-Ok : goal.returns-in-Ok
returns-in-Ok c d looked =
    let p = c in
    let a = p.args in
    let e = with_frame d c.args.f in
    let call = notices a.point.0 a.version.0 a.verdict a.day.0 in
    let g = c.notice_granted.ensures in
    let inside = valid c.args.f c.args.point c.args.version c.args.verdict c.args.day c.args.l d looked (not-false _ c.if-not-l.false) in
    let turn = turn-is c.args.f c.args.point c.args.version c.args.verdict c.args.day c.args.l d looked _ c.notice_turn-turn.ensures in
    let owed = due-is c.args.f c.args.point c.args.version c.args.verdict c.args.day c.args.l d looked _ _ c.notice_turn-turn.ensures c.due_by-due.ensures in
    rw (c.accept.ensures.0, c.accept.ensures.1) (
      notice-fits e a.point.0 a.version.0 a.verdict a.day.0 a.values.now a.book.now a.log.now _ _ _ (sound e inside) looked.table (looked.survey _ refl).held turn owed g,
      λ s.
          let stores = storing s a.values.now a.book.now a.log.now in
          all-granted e call stores (c.notice_ruling.ensures d looked owed (lengths_of s) ∙ sym (fit e (told (lent call stores)) refl inside)) c.in-Ok.is
          (notice-stepped e a.point.0 a.version.0 a.verdict a.day.0 a.values.now a.book.now a.log.now _ _ _ (sound e inside) looked.table (looked.survey _ refl).held turn owed s looked.here g),
    )

-- `submit_granted` meets its contract. Assumes nothing.
use mathlib.Core.Path.{◌≡◌, refl, ◌∙◌}
use mathlib.Core.List.{map}
use Prim.Native.Nat.{◌≤◌}
use native.Mathlib.Nat.{mul-le-mul_right}
use native.Mathlib.Omega.{arith}
use lib.ListN.{length}
use Rattle.quantity.specs.Word.{word, signed}
use Rattle.state.specs.Desk.{with_frame}
use Rattle.amend.proofs.Stored.{words-signed}
use Rattle.submit.proofs.Submitting.{turn-same}
use borrow.Author.Rules.{rules}
use Rattle.submit.proofs.call.submit_granted.Goals.{After-values-1}
use Rattle.submit.proofs.call.submit_granted.Goals as goal

kept : (c : After-values-1) → length c.put_row.new.store ≡ length c.args.values.now
kept c = search rules

pub overflow_mul-start : goal.overflow_mul-start
overflow_mul-start c =
    let s = c in
    let g = s.requires in
    let h : s.args.f.count ≤ 512 = omega (arith, g.more) in
    omega (arith, mul-le-mul_right s.args.f.opening.quarters h, g.changed.few)

pub follow-used-requires : goal.follow-used-requires
follow-used-requires c =
    let s = c in
    let a = s.args in
    let g = s.requires in
    let w = g.changed in
    let stored = c.put_row.new.store in
    let turn = turn-same a.f.opening.quarters a.values.now stored (kept (goal.at.follow-used-requires c).After-values-1) a.turn w.turn in
    record { changed = record { few = w.few; allotted = w.allotted; fit = w.fit; whole = w.whole; turn = turn }; room_in = g.left }

pub returns : goal.returns
returns c =
    let a = c.args in
    let x = a.series.now in
    let f = c.follow-used.ensures in
    let words : map word (map signed x) ≡ x = words-signed x (λ i. omega (arith, c.shared_slice_known-1.given i)) in
    record {
      desk = λ d. let e = c.put_version.ensures (with_frame d a.f) refl in (e.0, e.1 ∙ rw f.counted);
      valued = rw words (rw c.requires.full at c.put_row.ensures);
      booked = f.booked;
      noted = f.noted;
    }

-- `put_summary` meets its contract. Assumes nothing.
use Rattle.std.proofs.Common.{◌≡◌, ◌∙◌, ◌++◌, refl, Bool, true, false, length, length-append, arith, rules}
use Rattle.std.specs.Int.{from_bool}
use Rattle.quantity.proofs.Lists.{length-of}
use Rattle.book.specs.Row.{splice}
use Rattle.summary.proofs.Tables.{over-more}
use Rattle.summary.specs.Table.{flag_number}
use Rattle.host.specs.Replay.{numbered}
use Rattle.host.proofs.run.put_summary.Goals as goal

-- a flag as the library makes a number of it
flag : (b : Bool) → from_bool b ≡ flag_number b
flag true = refl
flag false = refl

pub returns : goal.returns
unfolding splice
returns c =
    let a = c.args in
    let f = a.f in
    let g = f.groups in
    let long1 : length g.first ≡ 17 = search (rules, length-of) in
    let long2 : length g.second ≡ 17 = search (rules, length-of) in
    let long : length (g.first ++ g.second) ≡ 34 = length-append g.first g.second ∙ omega arith in
    c.put_groups.ensures
    ∙ rw (
      c.put_row.ensures,
      c.from.ensures ∙ flag f.closed.first,
      c.from-2.ensures ∙ flag f.closed.second,
      c.from-3.ensures ∙ flag f.issued.first,
      c.from-4.ensures ∙ flag f.issued.second,
    )
    (over-more (numbered a.answered a.offset f.opening.quarters f.used f.count a.refused.count a.refused.first f.day.0 f.closed f.issued) (g.first ++ g.second) a.summary.now 12 34 refl long)

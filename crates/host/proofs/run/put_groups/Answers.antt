-- `put_groups` meets its contract. Assumes nothing.
use Rattle.std.proofs.Common.{◌≡◌, length, arith, rules}
use Rattle.quantity.proofs.Lists.{length-of}
use Rattle.host.proofs.Summaries.{rows-put}
use Rattle.host.proofs.run.put_groups.Goals as goal

pub returns : goal.returns
returns c =
    let g = c.args.groups in
    let long1 : length g.first ≡ 17 = search (rules, length-of) in
    let long2 : length g.second ≡ 17 = search (rules, length-of) in
    rows-put c.args.summary.now g.first g.second _ _ 12 17 17 (omega arith) long1 long2 c.put_row.ensures c.put_row-2.ensures

-- `fill_out` meets its contract: the places that were filled. Assumes nothing.
use Rattle.std.proofs.Common.{◌≡◌, length, rules}
use Rattle.quantity.proofs.Lists.{length-of}
use Rattle.host.proofs.Places.{filled-out}
use Rattle.host.proofs.call.fill_out.Goals as goal

pub returns : goal.returns
returns c =
    let long : length c.args.fields ≡ 21 = search (rules, length-of) in
    rw c.copy_from_slice.ensures.after (filled-out c.args.out.now c.args.first c.args.kind c.args.fields c.args.count long c.requires)

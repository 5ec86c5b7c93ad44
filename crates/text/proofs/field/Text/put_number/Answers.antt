-- `put_number` meets its contract. Assumes nothing.
use Rattle.std.proofs.Common.{rules, ◌≡◌, ◌≤◌, take, sym, refl, ◌∙◌, arith}
use Rattle.text.specs.Text.{decimal}
use Rattle.text.proofs.Texts.{spelled, few-digits, put-as, put-slice}
use Rattle.text.proofs.field.Text.put_number.Goals as goal

pub returns : goal.returns
returns c =
    let few : c.decimal-k.result ≤ 20 = few-digits _ _ c.ranges.n.fits c.decimal-k.ensures.len in
    let text : take c.decimal-k.result c.decimal-k.new.out ≡ decimal c.args.n = c.decimal-k.ensures.digits ∙ spelled c.decimal-k.result c.args.n c.args.n (omega arith) c.decimal-k.ensures.len in
    record {
      put = put-as (put-slice c.args.self.now.buffer.now _ _ c.args.self.now.filled c.decimal-k.result (omega arith) (sym c.decimal-k.ensures.in_bounds.1) c.copy_from_slice.ensures.after) few text;
      room = search rules;
      same = refl;
    }

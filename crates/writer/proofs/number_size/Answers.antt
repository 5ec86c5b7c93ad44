-- `number_size` meets its contract: a byte for each seven bits up to the highest one. Assumes nothing.
use Rattle.std.proofs.Common.{◌≡◌, ℕ, ◌+◌, ◌*◌, ◌/◌, ◌^◌, ◌<◌, ◌≤◌, length, Option, Some, None, IfNone, IfSome, sym, ap, arith}
use native.Mathlib.Decide.{dec_lt}
use native.Mathlib.Nat.{pow-le-pow_right}
use Rattle.std.specs.Option.{unwrap_or}
use Rattle.message.specs.Number.{encode}
use Rattle.message.proofs.Numbers.{encode-short}
use Rattle.writer.proofs.Writing.{bits-size}
use Rattle.writer.proofs.number_size.Goals as goal

below-63 : (n k : ℕ) → n < 2 ^ 63 → 2 ^ k ≤ n → k < 63
below-63 n k h low = go (dec_lt k 63)
  where
    go : Dec (k < 63) → k < 63
    go (yes l) = l
    go (no l) = let p = pow-le-pow_right {n = 2} (omega arith) {i = 63} {j = k} (omega arith) in absurd (omega arith)

by-bits : (o : Option ℕ) (n : ℕ) → n < 2 ^ 63 → IfNone o (n ≡ 0) → IfSome o (λ k. 2 ^ k ≤ n) → IfSome o (λ k. n < 2 * 2 ^ k) → unwrap_or o 0 / 7 + 1 ≡ length (encode n)
by-bits None n h none low high = sym (ap length (encode-short 8 n (omega arith)))
by-bits (Some k) n h none low high = sym (bits-size 9 n k (below-63 n k h low) low high)

pub returns-then-n-lt-SEVEN_BITS : goal.returns-then-n-lt-SEVEN_BITS
returns-then-n-lt-SEVEN_BITS c = sym (ap length (encode-short 8 c.args.n c.if-n-lt-SEVEN_BITS.true))

pub returns : goal.returns
returns c =
    let e = c.checked_ilog2.ensures in
    rw c.unwrap_or.ensures (by-bits c.checked_ilog2.result c.args.n c.requires e.none e.power_le e.next_power_gt)

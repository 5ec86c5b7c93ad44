-- Where the call stands that a read reads or refuses: it is passed over as it is read. Assumes nothing.
use Prim.Native.Nat.{ℕ}
use mathlib.Core.Path.{◌≡◌, refl}
use mathlib.Core.List.{List}
use native.Mathlib.Omega.{arith}
use borrow.Author.Tests.{eq-eqb, ne_eqb}
use lib.ListN.{length, drop}
use Rattle.message.specs.Read.{Read, got, refused}
use Rattle.message.specs.Call.{Sent, parse}
use Rattle.message.specs.Offset.{passed_of}
use Rattle.message.specs.declared.FileCause.{FileCause}
use Rattle.std.specs.Prelude.{Ok, Err}
use Rattle.message.proofs.Calls.{parse-read}
use Rattle.message.proofs.Placed.{passed-not}
use Rattle.reader.specs.Reader.{reading_of, read_at}
use Rattle.reader.proofs.Theorems.{carried-known}
use Rattle.host.specs.Call.{step_offset}

module _ (s : List ℕ) (at room : ℕ) where
  pub offset-end : at ≡ length s → at ≡ step_offset at (read_at s at room)
  unfolding read_at
  offset-end e = rw (eq-eqb at (length s) e) refl

  pub offset-passed : {next : ℕ} → (at ≡ length s → ⊥) → passed_of (length s) (parse room (drop at s)) ≡ Ok next → next ≡ step_offset at (read_at s at room)
  unfolding read_at
  offset-passed {next} n p = rw (ne_eqb at (length s) n) (go (parse room (drop at s)) refl p)
    where
      go : (d : Read Sent) → parse room (drop at s) ≡ d → passed_of (length s) d ≡ Ok next → next ≡ step_offset at (reading_of (length s) at d)
      go (got c r) q e =
          let k = carried-known (parse-read room (drop at s) q).carried in
          rw k.1 (cc)
      go (refused x) q e = absurd (let z : ◌≡◌ {A = ℕ} 0 1 = cc in omega arith)

  pub offset-refused : {x : FileCause} → (at ≡ length s → ⊥) → passed_of (length s) (parse room (drop at s)) ≡ Err x → at ≡ step_offset at (read_at s at room)
  unfolding read_at
  offset-refused n p = rw (ne_eqb at (length s) n, passed-not (length s) (parse room (drop at s)) p) refl

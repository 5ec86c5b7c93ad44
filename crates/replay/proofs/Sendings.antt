-- A call as the reader gives it, its energies as words, is the call of the file. Assumes nothing.
use Prim.Native.Nat.{ℕ, ◌^◌, ◌≤◌}
use mathlib.Core.Path.{◌≡◌, refl}
use mathlib.Core.Bool.{true}
use mathlib.Core.List.{List, [], ◌∷◌, map}
use native.Mathlib.Omega.{arith}
use borrow.Author.Tests.{ltb-true}
use lib.Dec.{leb}
use lib.IntN.{ℤ, pos, negsuc}
use lib.ListN.{length, take, drop, length-map}
use lib.Seq.{take_at}
use Rattle.quantity.specs.Limits.{most_quarters}
use Rattle.quantity.specs.Lists.{all}
use Rattle.quantity.specs.Word.{word, signed}
use Rattle.quantity.proofs.Tests.{and-left, and-right}
use Rattle.quantity.proofs.Words.{signed-word, small-fits}
use Rattle.message.specs.Call.{Sent, Carried}
use Rattle.message.specs.Energy.{fits_energy}
use Rattle.message.specs.Number.{fits_number}
use Rattle.message.specs.Series.{filled}
use Rattle.reader.specs.Reader.{padded}
use Rattle.message.specs.Named.{call_of, groups_of}
use Rattle.message.specs.declared.DeskCall.{DeskCall}
use Rattle.std.specs.Prelude.{Option, Some, None}
use Rattle.dispatch.specs.Asked.{asked}
use Rattle.replay.specs.Given.{given, before, given_in}

energy-back : (z : ℤ) → fits_energy z ≡ true → signed (word z) ≡ z
energy-back (pos n) h = signed-word (pos n) (small-fits (pos n) (omega (arith, ltb-true n (2 ^ 62) h)))
energy-back (negsuc n) h = signed-word (negsuc n) (small-fits (negsuc n) (omega (arith, ltb-true n (2 ^ 62) h)))

energies-back : (es : List ℤ) → all fits_energy es ≡ true → map signed (map word es) ≡ es
unfolding all
energies-back [] h = refl
energies-back (z ∷ es) h = rw (energy-back z (and-left (fits_energy z) _ h), energies-back es (and-right (fits_energy z) _ h))

-- the first places of a buffer that was filled
filled-part : (es : List ℤ) (series : List ℕ) → take (length es) (filled es series) ≡ map word es
filled-part es series = take_at (map word es) (drop (length es) series) (length es) (length-map es word)

-- a call that the reader gives, its energies as words, is the call of the file
pub same-call : (c : Sent) → Carried c → (series : List ℕ) (d : DeskCall) {n : ℕ} {groups gs after : List ℕ} → n ≡ length c.energies → groups ≡ gs →
    after ≡ filled c.energies series → asked d groups (map signed (take n after)) ≡ given (record { call = d; groups = gs; energies = c.energies })
same-call c w series d b f g =
    let fits = and-right (leb (length c.energies) most_quarters) _ (and-right (all fits_number c.fields) _ w.fits) in
    rw (b, f, g, filled-part c.energies series, energies-back c.energies fits)

-- a file has no more calls than it sends
pub given-few : (cs : List Sent) → length (given_in cs) ≤ length cs
unfolding given_in
given-few [] = omega arith
given-few (c ∷ l) = go (call_of c.kind (padded c.fields)) (given-few l)
  where
    go : (n : Option DeskCall) → length (given_in l) ≤ length l → length (before n (groups_of (padded c.fields)) c.energies (given_in l)) ≤ length (c ∷ l)
    go (Some d) h = omega arith
    go None h = omega arith

-- A call of the file, as the desk gets it.
use Rattle.std.specs.Prelude.{ℕ, List, [], ◌∷◌, ℤ, Option, Some, None}
use Rattle.message.specs.Call.{Sent}
use Rattle.message.specs.Named.{call_of, groups_of}
use Rattle.message.specs.declared.DeskCall.{DeskCall}
use Rattle.reader.specs.Reader.{padded}
use Rattle.model.specs.Call.{Call}
use Rattle.dispatch.specs.Asked.{asked}

-- with an opening's delta groups and a submission's energies beside it
pub record Given : Type 0 where
  pub call : DeskCall
  pub groups : List ℕ
  pub energies : List ℤ

-- the same as a call of document 01
abbrev pub given : Given → Call
given g = asked g.call g.groups g.energies

-- a call that has a name, before others; what has none is no call
abbrev pub before : Option DeskCall → (groups : List ℕ) (energies : List ℤ) → List Given → List Given
before (Some d) gs es l = record { call = d; groups = gs; energies = es } ∷ l
before None gs es l = l

-- "A call is its kind, then fields in the order above"
unfoldable pub given_in : List Sent → List Given
given_in [] = []
given_in (c ∷ l) = before (call_of c.kind (padded c.fields)) (groups_of (padded c.fields)) c.energies (given_in l)

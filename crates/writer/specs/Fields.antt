-- Fields as a caller lends them.
use Rattle.std.specs.Prelude.{ℕ, List, ◌++◌, take, replicate}
use Rattle.message.specs.Call.{most_fields}

-- 21 fields: "fields shorter than 21 count as 0 there"
abbrev pub fields21 : List ℕ → List ℕ
fields21 fields = take most_fields (fields ++ replicate most_fields 0)

-- The delta groups: T's and those of areas 1 to 16, for each run. Document 02: "The record of 17 delta groups becomes two, one per run".
use Rattle.std.specs.Prelude.{ℕ, Bool, cond, List, leb, eqb, set}
use Rattle.state.specs.declared.PerRun.{PerRun}
use Rattle.state.specs.declared.Opening.{Opening}

-- "each run under its own delta groups"
abbrev pub groups_in : (run : ℕ) → PerRun (List ℕ) → List ℕ
groups_in run gs = cond (eqb run 1) gs.first gs.second

-- "opening sets both alike"
abbrev pub alike : (groups : List ℕ) → PerRun (List ℕ)
alike l = record { first = l; second = l }

-- "Assign up to day C sets both"
abbrev pub sets_both : Opening → (day : ℕ) → Bool
sets_both o day = leb day o.clearing.0

-- "after C and up to K it sets run 2 only"
abbrev pub with_group : (both : Bool) (area group : ℕ) → PerRun (List ℕ) → PerRun (List ℕ)
with_group both a g gs = record { first = cond both (set gs.first a g) gs.first; second = set gs.second a g }

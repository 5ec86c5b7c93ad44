-- What both runs have of every point, by one walk over the versions.
use Rattle.std.specs.Prelude.{ℕ, suc, ◌<◌, ◌≡◌, List, length, get_or}
use Rattle.quantity.specs.Limits.{points}
use Rattle.state.specs.Selection.{raise_if, is_counted, own, in_run}
use Rattle.state.specs.declared.Selection.{Selection}
use Rattle.state.specs.declared.Selection.TheVariants.{None}
use Rattle.state.specs.declared.VersionRecord.{VersionRecord}
use Rattle.state.specs.declared.PerRun.{PerRun}

-- a point's picks: run 1's selection, and run 2's own
abbrev pub picks_at : (point : ℕ) → List VersionRecord → PerRun Selection
picks_at p vs = record { first = own 1 p vs; second = own 2 p vs }

-- of no record
abbrev pub no_picks : PerRun Selection
no_picks = record { first = None; second = None }

-- one record more
abbrev pub picks_step : (point : ℕ) → PerRun Selection → (at : ℕ) → VersionRecord → PerRun Selection
picks_step p s i v = record { first = raise_if (is_counted 1 p) s.first i v; second = raise_if (is_counted 2 p) s.second i v }

-- a table of them: point 1 at 0, point 2 at 1, and so on
pub record PicksIn (vs : List VersionRecord) (t : List (PerRun Selection)) : Type 0 where
  pub size : length t ≡ points
  pub each : (i : ℕ) → i < points → get_or t i no_picks ≡ picks_at (suc i) vs

-- what a run selects of the point, by its picks
abbrev pub selected_in : (run : ℕ) → PerRun Selection → Selection
selected_in run k = in_run run k.first k.second

-- What one look at the desk tells, each part by its own definition.
use Rattle.std.specs.Prelude.{◌≡◌, length, Some}
use Rattle.quantity.specs.Limits.{versions}
use Rattle.quantity.specs.Lists.{any}
use Rattle.quantity.specs.declared.Version.{Version}
use Rattle.state.specs.Desk.{versions_in, with_frame}
use Rattle.state.specs.Point.{point_at, has_series}
use Rattle.state.specs.Valid.{valid_desk}
use Rattle.state.specs.declared.Desk.{Desk}
use Rattle.state.specs.declared.Frame.{Frame}
use Rattle.state.specs.declared.Series.{Series}
use Rattle.model.specs.declared.Asks.{Asks}
use Rattle.checks.specs.Survey.{Surveyed}
use Rattle.checks.specs.declared.Look.{Look}

-- by what is asked: a point; a series and the versions where the call asks for them
pub record Looked (d : Desk) (a : Asks) (l : Look) : Type 0 where
  pub valid : l.valid ≡ valid_desk d
  pub here : l.here ≡ point_at d.points a.point.0
  pub taken : (s : Series) → a.series ≡ Some s → l.taken ≡ any (has_series s.kind s.area s.partner) d.points
  pub table : length d.versions ≡ versions
  pub survey : (x : Version) → a.version ≡ Some x → Surveyed a.point.0 x.0 (versions_in d) l.survey

-- a frame and a look that are of one desk: a call decides by them alone, and has no table to read
pub record Seen (f : Frame) (a : Asks) (l : Look) : Type 0 where
  pub desk : Desk
  pub looked : Looked (with_frame desk f) a l

-- what holds of each desk that they can be of
abbrev pub OfEach : Frame → Asks → Look → (Desk → Type 0) → Type 0
OfEach f a l P = (d : Desk) → Looked (with_frame d f) a l → P (with_frame d f)

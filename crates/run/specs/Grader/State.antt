-- Document 01, "Refusals by cause" and "Touch", and document 02, order 1: the state of a run, the columns that a call is lent, and the tests of both. Assumes nothing.
use Rattle.std.specs.Prelude.{Bool, true, ◌||◌, List, ℕ, ltb, length, Float}
use Rattle.run.specs.Rules.Arguments.{short_columns}
use Rattle.run.specs.declared.state.Setup.{Setup}
use Rattle.run.specs.declared.state.Progress.{Progress}
use Rattle.run.specs.declared.state.Car.{Car}
use Rattle.run.specs.declared.state.Run.{Run}
use Rattle.run.specs.declared.touch.Columns.{Columns as Slices}

-- ---- states, whatever the number of words of their sets: what start fixes, what settle changes, what drive changes, and the sets; and what is kept for
-- a save alone (document 02, order 1): the numbers of the last poses, and the seed
pub record State : Type 0 where
  pub setup : Setup
  pub progress : Progress
  pub car : Car
  pub credited : List ℕ
  pub wheels : List ℕ
  pub poses : List Float
  pub seed : ℕ

abbrev pub state_of : Setup → Progress → Car → List ℕ → List ℕ → List Float → ℕ → State
state_of u p car c ws last seed = record { setup = u; progress = p; car = car; credited = c; wheels = ws; poses = last; seed = seed }

unfoldable pub view : Run → State
view r = state_of r.setup r.progress r.car r.credited r.wheels r.poses r.seed

-- a drive awaits its settle; all else as it was
unfoldable pub awaiting : Progress → Progress
awaiting p = record { visited_count = p.visited_count; tick = p.tick; lap = p.lap; ended = p.ended; driven = true }

-- the columns that start and settle are lent
pub record Columns : Type 0 where
  pub tiles : List Float
  pub offsets : List ℕ
  pub list : List ℕ

abbrev pub columns : List Float → List ℕ → List ℕ → Columns
columns ts offs l = record { tiles = ts; offsets = offs; list = l }

-- what a call's columns hold
abbrev pub lent_columns : Slices → Columns
lent_columns c = columns c.tiles.now c.offsets.now c.list.now

-- ---- tests

-- the columns lent with a course of n points are short
unfoldable pub short_of : ℕ → Columns → Bool
short_of n c = short_columns n (length c.tiles) (length c.offsets)

-- 4 but for its ended part, for a state whose sets hold `most` tiles: n outside 1 to most, or credited above n
unfoldable pub unfit : ℕ → Setup → Progress → Bool
unfit most u p = (ltb u.n 1 || ltb most u.n) || ltb u.n p.visited_count

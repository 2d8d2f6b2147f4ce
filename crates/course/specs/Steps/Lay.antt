-- Definitions that only private functions of `checkpoints`, `finder`, `step`, `walk`, `track` and `lay` cite. Assumes nothing.
use Rattle.std.specs.Prelude.{◌≡◌, ℕ, zero, suc, ◌*◌, ◌<◌, ◌≤◌, cond, List, [], ◌∷◌, ◌++◌, length, take, drop, Option, Some, None, MatchOption, option_map, Float}
use Rattle.rng.specs.declared.SplitMix64.{SplitMix64}
use Rattle.rng.specs.Rules.SplitMix.{after, seeded}
use Rattle.course.specs.Rules.Constants.{checkpoint_count}
use Rattle.course.specs.Rules.Checkpoints.{checkpoints_of}
use Rattle.course.specs.Rules.Lay.{CoursePoints, attempt_on, ring_of, course_on, course_within}
use Rattle.course.specs.Grader.Outcome.{CourseColumns, Outcome}
use Rattle.course.specs.Grader.LayCall.{lay_cause, lay_at}
use Rattle.course.specs.Rules.Lengths.{step_limit, laid_length}
use Rattle.course.specs.Rules.Finder.{Destination}
use Rattle.course.specs.Rules.Step.{Walk, TrackStep, Sight}
use Rattle.course.specs.Rules.Walk.{Trail, walk_of}
use Rattle.course.specs.Rules.Track.{step_alphas, step_betas, step_xs, step_ys, track_of}
use Rattle.course.specs.Rules.Tiles.{betas, xs, ys}
use Rattle.course.specs.declared.checkpoints.Checkpoint.{Checkpoint}
use Rattle.course.specs.declared.finder.Dest.{Dest}
use Rattle.course.specs.declared.lay.Origin.{Origin}
use Rattle.course.specs.declared.lay.Origin.TheVariants.{Seed, Checkpoints}
use Rattle.course.specs.declared.step.Walk.{Walk as CodeWalk}
use Rattle.course.specs.declared.step.TrackStep.{TrackStep as CodeTrackStep}
use Rattle.course.specs.declared.step.Sight.{Sight as CodeSight}
use Rattle.course.specs.declared.tiles.TrackPoint.{TrackPoint}
use Rattle.course.specs.declared.track.Part.{Part}
use Rattle.course.specs.declared.walk_columns.WalkColumns.{WalkColumns}

-- ---- the code's structs as the definitions' own
abbrev pub dest_as : Dest → Destination
dest_as d = record { place = d.index; alpha = d.alpha; checkpoint = d.checkpoint }

abbrev pub found_as : Option Dest → Option Destination
found_as o = option_map dest_as o

abbrev pub walk_as : CodeWalk → Walk
walk_as w = record { x = w.x; y = w.y; beta = w.beta; dest = w.dest; laps = w.laps; visited = w.visited }

abbrev pub track_step_as : CodeTrackStep → TrackStep
track_step_as p = record { alpha = p.alpha; beta = p.point.beta; x = p.point.x; y = p.point.y }

-- beta after its turns, without how many are still allowed
abbrev pub turned_beta : Option (Float × ℕ) → Option Float
turned_beta o = option_map (λ (t : Float × ℕ). t.0) o

abbrev pub stepped_as : Option (CodeTrackStep × CodeWalk) → Option (TrackStep × Walk)
stepped_as o = option_map (λ (s : CodeTrackStep × CodeWalk). (track_step_as s.0, walk_as s.1)) o

abbrev pub sight_as : CodeSight → Sight
sight_as s = record { alpha = s.alpha; laps = s.laps; visited = s.visited }

-- ---- columns
-- the columns of angles, headings and places
pub record Columns : Type 0 where
  pub alpha : List Float
  pub beta : List Float
  pub x : List Float
  pub y : List Float

abbrev pub columns_of : WalkColumns → Columns
columns_of c = record { alpha = c.alpha.now; beta = c.beta.now; x = c.x.now; y = c.y.now }

-- the columns are the ones that were lent
pub record SameColumns (c c' : WalkColumns) : Type 0 where
  pub alpha : c'.alpha.ghost_name ≡ c.alpha.ghost_name
  pub beta : c'.beta.ghost_name ≡ c.beta.ghost_name
  pub x : c'.x.ghost_name ≡ c.x.ghost_name
  pub y : c'.y.ghost_name ≡ c.y.ghost_name

-- the steps of a walk, none where one is refused
abbrev pub walked_of : Trail → Option ℕ
walked_of r = cond r.ok (Some (length r.steps)) None

-- the columns after the walk: its steps, and then what stood there before
pub record Trod (cs : List Checkpoint) (c c' : Columns) (o : Option ℕ) : Type 0 where
  pub result : o ≡ walked_of (walk_of cs)
  pub few : length (walk_of cs).steps ≤ step_limit
  pub alpha : c'.alpha ≡ step_alphas (walk_of cs).steps ++ drop (length (walk_of cs).steps) c.alpha
  pub beta : c'.beta ≡ step_betas (walk_of cs).steps ++ drop (length (walk_of cs).steps) c.beta
  pub x : c'.x ≡ step_xs (walk_of cs).steps ++ drop (length (walk_of cs).steps) c.x
  pub y : c'.y ≡ step_ys (walk_of cs).steps ++ drop (length (walk_of cs).steps) c.y

-- l stands in front of c
pub record Before (l c : List Float) : Type 0 where
  pub rest : List Float
  pub is : c ≡ l ++ rest

-- the columns begin with the steps
pub record Front (ps : List TrackStep) (c : Columns) : Type 0 where
  pub alpha : Before (step_alphas ps) c.alpha
  pub beta : Before (step_betas ps) c.beta
  pub x : Before (step_xs ps) c.x
  pub y : Before (step_ys ps) c.y

-- the part is the track of the walk; where there is none, the walk has no track
pub record Whole (ps : List TrackStep) (p : Part) : Type 0 where
  pub some : 0 < p.n
  pub size : p.n ≡ length (track_of ps)
  pub part : take p.n (drop p.from ps) ≡ track_of ps

abbrev pub Cut : List TrackStep → Option Part → Type 0
Cut ps o = MatchOption o (track_of ps ≡ []) (λ (p : Part). Whole ps p)

-- the n points stand in front; what follows them up to the length of lay's columns is not said, and nothing beyond is touched
pub record InFront (ps : List TrackPoint) (c c' : Columns) (n : ℕ) : Type 0 where
  pub count : n ≡ length ps
  pub beta : take n c'.beta ≡ betas ps
  pub x : take n c'.x ≡ xs ps
  pub y : take n c'.y ≡ ys ps
  pub kept-a : drop laid_length c'.alpha ≡ drop laid_length c.alpha
  pub kept_b : drop laid_length c'.beta ≡ drop laid_length c.beta
  pub kept-x : drop laid_length c'.x ≡ drop laid_length c.x
  pub kept-y : drop laid_length c'.y ≡ drop laid_length c.y

-- ---- attempts
-- the points of the first attempt that is not refused, of at most n; none where all are
unfoldable pub or_later : List TrackPoint → List TrackPoint → List TrackPoint
or_later [] later = later
or_later (p ∷ ps) later = p ∷ ps

unfoldable pub tried_from : ℕ → SplitMix64 → List TrackPoint
tried_from zero g = []
tried_from (suc n) g = or_later (attempt_on (checkpoints_of checkpoint_count g)) (tried_from n (after (2 * checkpoint_count) g))

unfoldable pub tried_within : ℕ → ℕ → List TrackPoint
tried_within attempts seed = tried_from attempts (seeded seed)

-- what a course is laid from: what is tried, and the course
abbrev pub tried_by : Origin → List TrackPoint
tried_by (Seed attempts seed) = tried_within attempts seed
tried_by (Checkpoints cs) = attempt_on cs

abbrev pub course_by : Origin → CoursePoints
course_by (Seed attempts seed) = course_within attempts seed
course_by (Checkpoints cs) = course_on cs

-- the call that lays it
abbrev pub lay_by : Origin → CourseColumns → Outcome
lay_by o l = lay_at (lay_cause l) (course_by o) l

-- the ring stands in front of columns as they were before
pub record Ringed (c c' : Columns) : Type 0 where
  pub alpha : c'.alpha ≡ c.alpha
  pub beta : c'.beta ≡ betas (ring_of 100) ++ drop 100 c.beta
  pub x : c'.x ≡ xs (ring_of 100) ++ drop 100 c.x
  pub y : c'.y ≡ ys (ring_of 100) ++ drop 100 c.y

-- the n points that stand in front: those that were made, or else the ring's
abbrev pub OrRing : Option ℕ → Columns → Columns → ℕ → Type 0
OrRing o c c' n = MatchOption o ((n ≡ 100) × Ringed c c') (λ (k : ℕ). (n ≡ k) × (c' ≡ c))

-- Document 01, "Lay": a seed becomes a course: its points, from attempt to attempt, and the ring. Assumes nothing.
use Rattle.std.specs.Prelude.{ℕ, zero, suc, ◌*◌, Bool, true, false, cond, List, [], ◌∷◌, ◌++◌, map}
use Rattle.rng.specs.declared.SplitMix64.{SplitMix64}
use Rattle.rng.specs.Rules.SplitMix.{after, seeded}
use Rattle.course.specs.Rules.Arithmetic.{◌⊗◌, ◌⊘◌, natural}
use Rattle.course.specs.Rules.Constants.{tau, track_rad, checkpoint_count, max_attempts}
use Rattle.course.specs.Rules.Trig.{sine_of, cosine_of}
use Rattle.course.specs.Rules.Checkpoints.{checkpoints_of}
use Rattle.course.specs.Rules.Step.{TrackStep}
use Rattle.course.specs.Rules.Walk.{Trail, walk_of}
use Rattle.course.specs.Rules.Track.{track_of}
use Rattle.course.specs.declared.checkpoints.Checkpoint.{Checkpoint}
use Rattle.course.specs.declared.tiles.TrackPoint.{TrackPoint}

-- ---- attempts

-- a step of the track as a point of the course
unfoldable pub point_of : TrackStep → TrackPoint
point_of s = record { beta = s.beta; x = s.x; y = s.y }

-- the points of a trail's track, none where it is refused
unfoldable pub accepted : Trail → List TrackPoint
accepted r = cond r.ok (map point_of (track_of r.steps)) []

-- the points of the attempt with these checkpoints, none where it is refused
unfoldable pub attempt_on : List Checkpoint → List TrackPoint
attempt_on cs = accepted (walk_of cs)

-- `ring_points`: the first n of its 100
unfoldable pub ring_point : ℕ → TrackPoint
ring_point i =
    let a = tau ⊗ natural i ⊘ natural 100 in
    record { beta = a; x = track_rad ⊗ cosine_of a; y = track_rad ⊗ sine_of a }

unfoldable pub ring_of : ℕ → List TrackPoint
ring_of zero = []
ring_of (suc n) = ring_of n ++ (ring_point n ∷ [])

-- ---- courses

-- a course's points, and whether they are the ring's
pub record CoursePoints : Type 0 where
  pub points : List TrackPoint
  pub fallback : Bool

abbrev pub ring_course : CoursePoints
ring_course = record { points = ring_of 100; fallback = true }

-- an attempt's course, or the other where it is refused
unfoldable pub or_else : List TrackPoint → CoursePoints → CoursePoints
or_else [] other = other
or_else (p ∷ ps) other = record { points = p ∷ ps; fallback = false }

-- one attempt with given checkpoints; then the ring
unfoldable pub course_on : List Checkpoint → CoursePoints
course_on cs = or_else (attempt_on cs) ring_course

-- at most n attempts, each 24 draws on from the one before; then the ring
unfoldable pub course_from : ℕ → SplitMix64 → CoursePoints
course_from zero g = ring_course
course_from (suc n) g = or_else (attempt_on (checkpoints_of checkpoint_count g)) (course_from n (after (2 * checkpoint_count) g))

unfoldable pub course_within : ℕ → ℕ → CoursePoints
course_within attempts seed = course_from attempts (seeded seed)

-- a seed's course
unfoldable pub course_of : ℕ → CoursePoints
course_of seed = course_within max_attempts seed

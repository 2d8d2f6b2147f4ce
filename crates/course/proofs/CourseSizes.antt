-- How many points a course has: an accepted track 1 to most_track_points, the ring 100. Assumes nothing.
use Rattle.std.proofs.Common.{◌≡◌, ℕ, zero, suc, ◌-◌, ◌<◌, ◌≤◌, Bool, true, false, cond, ltb, List, [], ◌∷◌, map, length, take, drop, Option, Some, None, IfSome, refl, ap, ◌∙◌, add-one, arith, length-append, length-take}
use lib.ListN.{length-map}
use Rattle.rng.specs.declared.SplitMix64.{SplitMix64}
use Rattle.rng.specs.Rules.SplitMix.{after, seeded}
use Rattle.course.specs.Rules.Lengths.{step_limit}
use Rattle.course.specs.Rules.Constants.{max_attempts}
use Rattle.course.specs.Rules.Checkpoints.{checkpoints_of}
use Rattle.course.specs.Rules.Step.{Walk, TrackStep, step_of}
use Rattle.course.specs.Rules.Track.{last_pass, step_alphas, well_glued, between_passes, if_glued, from_earlier, to_later, track_of}
use Rattle.course.specs.Rules.Walk.{Trail, follow, onward, walk_from, walk_start, walk_of}
use Rattle.course.specs.Rules.Lay.{point_of, accepted, attempt_on, ring_point, ring_of, CoursePoints, or_else, course_on, course_from, course_within, course_of}
use Rattle.course.specs.Steps.Lay.{course_by}
use Rattle.course.specs.declared.lay.Origin.{Origin}
use Rattle.course.specs.declared.lay.Origin.TheVariants.{Seed, Checkpoints}
use Rattle.course.specs.declared.checkpoints.Checkpoint.{Checkpoint}
use Rattle.course.specs.declared.tiles.TrackPoint.{TrackPoint}
use Rattle.course.proofs.TrackParts.{pass_le}

pub ring-length : (n : ℕ) → length (ring_of n) ≡ n
unfolding ring_of
ring-length zero = refl
ring-length (suc n) = length-append (ring_of n) (ring_point n ∷ []) ∙ add-one (length (ring_of n)) ∙ ap suc (ring-length n)

-- ---- a walk has at most as many steps as it is given, and its track three fewer
onward-few : (s : Option (TrackStep × Walk)) (k : Walk → Trail) (n : ℕ) → ((w : Walk) → length (k w).steps ≤ n) → length (onward s k).steps ≤ suc n
unfolding onward follow
onward-few None k n h = omega arith
onward-few (Some s) k n h = one (ltb 4 s.1.laps) (h s.1)
  where
    one : (b : Bool) → length (k s.1).steps ≤ n → suc (length (cond b (record { ok = true; steps = [] }) (k s.1)).steps) ≤ suc n
    one true l = omega arith
    one false l = omega arith

walk-few : (n : ℕ) (cs : List Checkpoint) (w : Walk) → length (walk_from n cs w).steps ≤ n
unfolding walk_from
walk-few zero cs w = omega arith
walk-few (suc n) cs w = onward-few (step_of cs w) (λ (v : Walk). walk_from n cs v) n (λ v. walk-few n cs v)

glued-few : (ps : List TrackStep) (i1 i2 : ℕ) → length (if_glued (between_passes ps i1 i2)) ≤ i2 - 1 - i1
unfolding if_glued between_passes
glued-few ps i1 i2 = one (well_glued (take (i2 - 1 - i1) (drop i1 ps)))
  where
    one : (b : Bool) → length (cond b (take (i2 - 1 - i1) (drop i1 ps)) []) ≤ i2 - 1 - i1
    one true = rw (length-take (i2 - 1 - i1) (drop i1 ps)) (omega arith)
    one false = omega arith

earlier-few : (m : ℕ) (ps : List TrackStep) (i2 : ℕ) → i2 ≤ m - 1 → (o : Option ℕ) → IfSome o (λ i. (0 < i) × (i ≤ i2 - 1)) → length (from_earlier ps i2 o) ≤ m - 3
unfolding from_earlier
earlier-few m ps i2 h None b = omega arith
earlier-few m ps i2 h (Some i1) b = omega (arith, glued-few ps i1 i2)

later-few : (m : ℕ) (ps : List TrackStep) → length ps ≤ m → (o : Option ℕ) → IfSome o (λ i. (0 < i) × (i ≤ length ps - 1)) → length (to_later ps o) ≤ m - 3
unfolding to_later
later-few m ps h None b = omega arith
later-few m ps h (Some i2) b = earlier-few m ps i2 (omega arith) (last_pass (step_alphas ps) (i2 - 1)) (pass_le (step_alphas ps) (i2 - 1))

track-few : (m : ℕ) (ps : List TrackStep) → length ps ≤ m → length (track_of ps) ≤ m - 3
unfolding track_of
track-few m ps h = later-few m ps h (last_pass (step_alphas ps) (length ps - 1)) (pass_le (step_alphas ps) (length ps - 1))

accepted-few : (m : ℕ) (r : Trail) → length r.steps ≤ m → length (accepted r) ≤ m - 3
unfolding accepted
accepted-few m r h = one r.ok (track-few m r.steps h)
  where
    one : (b : Bool) → length (track_of r.steps) ≤ m - 3 → length (cond b (map point_of (track_of r.steps)) []) ≤ m - 3
    one true l = rw (length-map (track_of r.steps) point_of) l
    one false l = omega arith

-- the most points of an accepted track: three fewer than the most steps of a walk
abbrev pub most_track_points : ℕ
most_track_points = step_limit - 3

pub attempt-few : (cs : List Checkpoint) → length (attempt_on cs) ≤ most_track_points
unfolding attempt_on walk_of
attempt-few cs = accepted-few step_limit (walk_from step_limit cs walk_start) (walk-few step_limit cs walk_start)

-- ---- a course has 1 to most_track_points points
pub record Sized (c : CoursePoints) : Type 0 where
  pub some : 0 < length c.points
  pub few : length c.points ≤ most_track_points

ring-sized : Sized (record { points = ring_of 100; fallback = true })
ring-sized = record { some = rw (ring-length 100) (omega arith); few = rw (ring-length 100) (omega arith) }

or-sized : (l : List TrackPoint) (o : CoursePoints) → length l ≤ most_track_points → Sized o → Sized (or_else l o)
unfolding or_else
or-sized [] o h k = k
or-sized (p ∷ ps) o h k = record { some = omega arith; few = h }

pub on-sized : (cs : List Checkpoint) → Sized (course_on cs)
unfolding course_on
on-sized cs = or-sized (attempt_on cs) _ (attempt-few cs) ring-sized

from-sized : (m : ℕ) (g : SplitMix64) → Sized (course_from m g)
unfolding course_from
from-sized zero g = ring-sized
from-sized (suc m) g = or-sized (attempt_on (checkpoints_of 12 g)) (course_from m (after 24 g)) (attempt-few (checkpoints_of 12 g)) (from-sized m (after 24 g))

pub within-sized : (attempts seed : ℕ) → Sized (course_within attempts seed)
unfolding course_within
within-sized attempts seed = from-sized attempts (seeded seed)

pub by-sized : (o : Origin) → Sized (course_by o)
by-sized (Seed attempts seed) = within-sized attempts seed
by-sized (Checkpoints cs) = on-sized cs

pub course-sized : (seed : ℕ) → Sized (course_of seed)
unfolding course_of
course-sized seed = within-sized max_attempts seed

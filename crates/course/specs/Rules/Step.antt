-- Document 01, "Lay" (`try_generate`): one step of the walk round the checkpoints, with the three limits that refuse it. Assumes nothing.
use Rattle.std.specs.Prelude.{ℕ, zero, suc, ◌+◌, Bool, true, false, cond, ◌&&◌, List, Option, Some, None, Float}
use Rattle.std.specs.Float.Ieee.{lt, neg}
use Rattle.course.specs.Rules.Arithmetic.{◌⊕◌, ◌⊖◌, ◌⊗◌, natural, decimal, nought}
use Rattle.course.specs.Rules.Constants.{scale, pi, tau, track_detail_step, track_turn_rate}
use Rattle.course.specs.Rules.Numeric.{abs_of, min_of, within}
use Rattle.course.specs.Rules.Trig.{SinCos, sin_cos_of, atan2_of}
use Rattle.course.specs.Rules.Finder.{Destination, dest_of}
use Rattle.course.specs.declared.checkpoints.Checkpoint.{Checkpoint}

-- where the walk stands: its place and heading, the checkpoint it makes for, the laps done, and whether it has been on the other side,
-- that of negative angles, since the last of them
pub record Walk : Type 0 where
  pub x : Float
  pub y : Float
  pub beta : Float
  pub dest : ℕ
  pub laps : ℕ
  pub visited : Bool

-- what a step stores
pub record TrackStep : Type 0 where
  pub alpha : Float
  pub beta : Float
  pub x : Float
  pub y : Float

-- ---- the walk's angle. Below 0 the walk is on the other side, and the angle one tau more; above 0 after that it has done a lap

-- the angle, with laps and side brought up to date
pub record Sight : Type 0 where
  pub alpha : Float
  pub laps : ℕ
  pub visited : Bool

unfoldable pub walk_lap : Walk → Float → Bool
walk_lap w a = w.visited && lt nought a

unfoldable pub laps_of : ℕ → Bool → ℕ
laps_of laps lap = cond lap (laps + 1) laps

unfoldable pub sight_of : Walk → Sight
sight_of w =
    let a = atan2_of w.y w.x in
    let lap = walk_lap w a in
    let below = lt a nought in
    record {
      alpha = cond below (a ⊕ tau) a;
      laps = laps_of w.laps lap;
      visited = cond below true (cond lap false w.visited);
    }

-- ---- beta less tau while it is above alpha by more than 1.5 pi, then more tau while it is below by more. Four turns are allowed in
-- all; the fifth refuses. Beta after turns comes with how many are still allowed

unfoldable pub far_above : Float
far_above = decimal 15 10 ⊗ pi

unfoldable pub far_below : Float
far_below = neg (decimal 15 10) ⊗ pi

unfoldable pub turn_down : ℕ → Float → Float → Option (Float × ℕ)
turn_down zero b a = cond (lt far_above (b ⊖ a)) None (Some (b, 0))
turn_down (suc n) b a = cond (lt far_above (b ⊖ a)) (turn_down n (b ⊖ tau) a) (Some (b, suc n))

unfoldable pub turn_up : ℕ → Float → Float → Option (Float × ℕ)
turn_up zero b a = cond (lt (b ⊖ a) far_below) None (Some (b, 0))
turn_up (suc n) b a = cond (lt (b ⊖ a) far_below) (turn_up n (b ⊕ tau) a) (Some (b, suc n))

unfoldable pub then_up : Float → Option (Float × ℕ) → Option (Float × ℕ)
then_up a None = None
then_up a (Some t) = turn_up t.1 t.0 a

unfoldable pub turn_of : Float → Float → Option (Float × ℕ)
turn_of b a = then_up a (turn_down 4 b a)

-- ---- steering. The way to the checkpoint along the side of the heading h, times SCALE
unfoldable pub proj_of : Walk → SinCos → Checkpoint → Float
proj_of w h c = (h.cos ⊗ (c.x ⊖ w.x) ⊕ h.sin ⊗ (c.y ⊖ w.y)) ⊗ scale

unfoldable pub steered : Float → Float → Float
steered b proj =
    let m = min_of track_turn_rate (abs_of (decimal 1 1000 ⊗ proj)) in
    cond (lt (decimal 3 10) proj) (b ⊖ m) (cond (lt proj (neg (decimal 3 10))) (b ⊕ m) b)

-- ---- the record to store and the walk after the step, none where a limit is met: beta is then beyond ±16, a fifth turn was wanted, or a
-- third pass
unfoldable pub landed_of : Walk → Sight → SinCos → Destination → Float → Float → Option (TrackStep × Walk)
landed_of w s h d prev beta =
    let x = w.x ⊕ neg h.sin ⊗ track_detail_step in
    let y = w.y ⊕ h.cos ⊗ track_detail_step in
    cond (within (natural 16) beta)
    (Some (
      record { alpha = d.alpha; beta = prev ⊗ decimal 1 2 ⊕ beta ⊗ decimal 1 2; x = x; y = y },
      record { x = x; y = y; beta = beta; dest = d.place; laps = s.laps; visited = s.visited },
    ))
    None

unfoldable pub then_landed : Walk → Sight → Destination → Option (Float × ℕ) → Option (TrackStep × Walk)
then_landed w s d None = None
then_landed w s d (Some t) =
    let h = sin_cos_of w.beta in
    landed_of w s h d t.0 (steered t.0 (proj_of w h d.checkpoint))

unfoldable pub then_moved : Walk → Sight → Option Destination → Option (TrackStep × Walk)
then_moved w s None = None
then_moved w s (Some d) = then_landed w s d (turn_of w.beta d.alpha)

unfoldable pub step_of : List Checkpoint → Walk → Option (TrackStep × Walk)
step_of cs w = then_moved w (sight_of w) (dest_of cs w.dest (sight_of w).alpha)

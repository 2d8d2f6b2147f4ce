-- Document 01, "Marked examples for proof": the whole list as one statement, over the definitions that the contracts cite. Assumes nothing.
use Rattle.std.specs.Prelude.{◌≡◌, Bool, true, false, List, [], ◌∷◌, ℕ, T, pos, negsuc, Float}
use Rattle.std.specs.Float.{fin, nan}
use Rattle.std.specs.Float.Ieee.{neg}
use Rattle.std.specs.Float.Ieee.Scale.{finite}
use Rattle.course.specs.Laws.Draws.{seeded, unit_of}
use Rattle.course.specs.Rules.Arithmetic.{◌⊖◌, natural, decimal}
use Rattle.course.specs.Rules.Cell.{cell_of}
use Rattle.course.specs.Rules.Root.{sqrt_of}
use Rattle.run.specs.Rules.Overlap.{overlap_of}
use Rattle.run.specs.Rules.Lap.{lap_of}
use Rattle.run.specs.Rules.Dynamics.{braked_of}
use Rattle.run.specs.Rules.Pass.{ctl_at, pass_of}
use Rattle.run.specs.Rules.Reward.{reward_of, default_weights}
use Rattle.run.specs.declared.state.Car.{Car}
use Rattle.run.specs.declared.dynamics.Motion.{Motion}

-- the rectangle from (x, y) to (z, w), its corners in turn
abbrev pub rectangle : Float → Float → Float → Float → List (List Float)
rectangle x y z w = (x ∷ y ∷ []) ∷ (z ∷ y ∷ []) ∷ (z ∷ w ∷ []) ∷ (x ∷ w ∷ []) ∷ []

-- both rear wheels have this gas
abbrev pub RearGas : Car → Float → Type 0
RearGas car g = ((ctl_at car.ctl 2).gas ≡ g) × ((ctl_at car.ctl 3).gas ≡ g)

pub record Marked : Type 0 where
  -- 1. Seed 0: state CA75EED0; seed CA75EED0: state 0
  pub seed-0 : (seeded 0).state ≡ 0xCA75_EED0
  pub seed-same : (seeded 0xCA75_EED0).state ≡ 0
  -- 2. Draw 2047: unit 0. Draw 2048: 2^−53
  pub draw-2047 : unit_of 2047 ≡ fin false 0 (pos 0)
  pub draw-2048 : unit_of 2048 ≡ fin false 1 (negsuc 52)
  -- 3. Cells: NaN 0, −400 0, 0 33, 7 34, 1000 66
  pub cell-nan : cell_of nan ≡ 0
  pub cell-low : cell_of (neg (natural 400)) ≡ 0
  pub cell-0 : cell_of (natural 0) ≡ 33
  pub cell-7 : cell_of (natural 7) ≡ 34
  pub cell-1000 : cell_of (natural 1000) ≡ 66
  -- 4. Squares 0..1 and 1..2 by 0..1: touch. 0..1 and 1.5..2: none
  pub squares-touch : overlap_of (rectangle (natural 0) (natural 0) (natural 1) (natural 1)) (rectangle (natural 1) (natural 0) (natural 2) (natural 1)) ≡ true
  pub squares-apart : overlap_of (rectangle (natural 0) (natural 0) (natural 1) (natural 1)) (rectangle (decimal 15 10) (natural 0) (natural 2) (natural 1)) ≡ false
  -- 5. Two quads shrunk to two different points: overlap. Here any two points with finite coordinates, whether they differ or not. An infinite
  -- coordinate would part them: the projections are then NaN, which least and greatest pass over, and f64::MIN is below f64::MAX
  pub two-points : (x y z w : Float) → T (finite x) → T (finite y) → T (finite z) → T (finite w)
      → overlap_of (rectangle x y x y) (rectangle z w z w) ≡ true
  -- 6. 95 of 100 at 0.95: no lap. 96: lap
  pub lap-95 : lap_of false true 95 100 (decimal 95 100) ≡ false
  pub lap-96 : lap_of false true 96 100 (decimal 95 100) ≡ true
  -- 7. Reward 2 of 250, default weights: 8 − 0.1. Off: −100
  pub reward-2 : reward_of default_weights 2 250 false ≡ natural 8 ⊖ decimal 1 10
  pub reward-off : (new n : ℕ) → reward_of default_weights new n true ≡ neg (natural 100)
  -- 8. sqrt 4 is 2; sqrt −1 is NaN
  pub root-4 : sqrt_of (natural 4) ≡ natural 2
  pub root_below : sqrt_of (neg (natural 1)) ≡ nan
  -- 9. Gas action from 0: 0.1, then 0.2; on any ground and at any motion
  pub gas : (car : Car) (ms ms₂ : List Motion) (roads roads₂ : List Bool) → RearGas car (natural 0)
      → RearGas (pass_of car 3 ms roads).car (decimal 1 10)
      × RearGas (pass_of (pass_of car 3 ms roads).car 3 ms₂ roads₂).car (decimal 2 10)
  -- 10. The braking rule alone, brake 0.8: omega 5 becomes 0; 20 becomes 8
  pub brake-5 : braked_of (decimal 8 10) (natural 5) ≡ natural 0
  pub brake-20 : braked_of (decimal 8 10) (natural 20) ≡ natural 8

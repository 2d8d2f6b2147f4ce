-- The ten marked examples of document 01, proved as one theorem, `marked`; those of random numbers, cells and roots in the crates below, that of two points in PointQuads. Assumes nothing.
use mathlib.Core.Path.{◌≡◌, refl, sym, ap, ap₂, ◌∙◌}
use mathlib.Core.Bool.{Bool, true, false}
use mathlib.Core.List.{List}
use Prim.Native.Nat.{ℕ}
use lib.Ieee.{binary64, of_bits, of_int, round, add, sub, mul, div, neg, lt, le, is_nan}
use Rattle.course.specs.Rules.Arithmetic.{◌⊖◌, natural, decimal}
use Rattle.course.specs.Rules.Constants.{f64_max, f64_min}
use Rattle.course.specs.Rules.Numeric.{abs_of, min_of, max_of, least_of, greatest_of, clamp_of, signum_of}
use Rattle.course.proofs.Examples as course
use Rattle.run.specs.Rules.Overlap.{least_on, greatest_on, apart_on, apart_along, apart_by_edges, overlap_of}
use Rattle.run.specs.Rules.Lap.{lap_of}
use Rattle.run.specs.Rules.Dynamics.{braked_of, tyre_of, finish_of}
use Rattle.run.specs.Rules.Pass.{indicator, gas_of, raised_of, rear_of, ctl_at, gathered_of, pass_of}
use Rattle.run.specs.Rules.Reward.{at_least_one, reward_of, default_weights}
use Rattle.run.specs.Laws.Examples.{rectangle, RearGas, Marked}
use Rattle.run.proofs.Literals.{zero_bits, tenth, two-tenths}
use Rattle.run.proofs.PointQuads.{points-overlap}
use Rattle.run.specs.declared.state.Car.{Car}
use Rattle.run.specs.declared.dynamics.Motion.{Motion}

-- 4: the squares 0..1 and 1..2 by 0..1 touch; 0..1 and 1.5..2 do not
squares : (overlap_of (rectangle (natural 0) (natural 0) (natural 1) (natural 1)) (rectangle (natural 1) (natural 0) (natural 2) (natural 1)) ≡ true)
    × (overlap_of (rectangle (natural 0) (natural 0) (natural 1) (natural 1)) (rectangle (decimal 15 10) (natural 0) (natural 2) (natural 1)) ≡ false)
unfolding overlap_of apart_by_edges apart_along apart_on least_on greatest_on least_of greatest_of min_of max_of f64_max f64_min natural decimal of_int round add sub mul neg lt is_nan of_bits
squares = (refl, refl)

-- 6: 95 of 100 at 0.95 is no lap, 96 is one
lap : (lap_of false true 95 100 (decimal 95 100) ≡ false) × (lap_of false true 96 100 (decimal 95 100) ≡ true)
unfolding lap_of natural decimal of_int round div lt
lap = (refl, refl)

-- 7: 2 new tiles of 250 give 8 − 0.1; off the field, whatever is new, −100
reward : (reward_of default_weights 2 250 false ≡ natural 8 ⊖ decimal 1 10) × ((new n : ℕ) → reward_of default_weights new n true ≡ neg (natural 100))
unfolding reward_of default_weights at_least_one natural decimal of_int round add sub mul div neg
reward = (refl, λ new n. refl)

-- gas on its way from 0 to the wish of action 3, by bits, which are quick to compare
wish-bits : gas_of 3 ≡ of_bits binary64 0x3fc999999999999a
unfolding gas_of indicator clamp_of natural decimal of_int round mul lt of_bits
wish-bits = refl

first-bits : raised_of (of_bits binary64 0x3fc999999999999a) (of_bits binary64 0) ≡ of_bits binary64 0x3fb999999999999a
unfolding raised_of min_of decimal round add sub lt is_nan of_bits
first-bits = refl

second-bits : raised_of (of_bits binary64 0x3fc999999999999a) (of_bits binary64 0x3fb999999999999a) ≡ of_bits binary64 0x3fc999999999999a
unfolding raised_of min_of decimal round add sub lt is_nan of_bits
second-bits = refl

first-rise : raised_of (gas_of 3) (natural 0) ≡ decimal 1 10
first-rise = ap₂ raised_of wish-bits zero_bits ∙ first-bits ∙ sym tenth

second-rise : raised_of (gas_of 3) (decimal 1 10) ≡ decimal 2 10
second-rise = ap₂ raised_of wish-bits tenth ∙ second-bits ∙ sym two-tenths

-- a pass leaves a rear wheel's gas as the action rule sets it
rear-gas : (car : Car) (action : ℕ) (ms : List Motion) (roads : List Bool)
    → ((ctl_at (pass_of car action ms roads).car.ctl 2).gas ≡ raised_of (gas_of action) (ctl_at car.ctl 2).gas)
    × ((ctl_at (pass_of car action ms roads).car.ctl 3).gas ≡ raised_of (gas_of action) (ctl_at car.ctl 3).gas)
unfolding pass_of gathered_of tyre_of finish_of rear_of
rear-gas car action ms roads = (refl, refl)

-- 9: the gas action from 0, on any ground and at any motion: 0.1, then 0.2
gas : (car : Car) (ms ms₂ : List Motion) (roads roads₂ : List Bool) → RearGas car (natural 0)
    → RearGas (pass_of car 3 ms roads).car (decimal 1 10)
    × RearGas (pass_of (pass_of car 3 ms roads).car 3 ms₂ roads₂).car (decimal 2 10)
gas car ms ms₂ roads roads₂ (p, q) =
    let a = rear-gas car 3 ms roads in
    let b = rear-gas (pass_of car 3 ms roads).car 3 ms₂ roads₂ in
    let p₁ = a.0 ∙ ap (raised_of (gas_of 3)) p ∙ first-rise in
    let q₁ = a.1 ∙ ap (raised_of (gas_of 3)) q ∙ first-rise in
    ((p₁, q₁), (b.0 ∙ ap (raised_of (gas_of 3)) p₁ ∙ second-rise, b.1 ∙ ap (raised_of (gas_of 3)) q₁ ∙ second-rise))

-- 10: the braking rule alone, brake 0.8
brake : (braked_of (decimal 8 10) (natural 5) ≡ natural 0) × (braked_of (decimal 8 10) (natural 20) ≡ natural 8)
unfolding braked_of abs_of signum_of natural decimal of_int round add mul lt le neg
brake = (refl, refl)

-- the whole list
pub marked : Marked
marked =
    record {
      seed-0 = (course.draws).seed-zero;
      seed-same = (course.draws).seed-same;
      draw-2047 = (course.draws).draw-2047;
      draw-2048 = (course.draws).draw-2048;
      cell-nan = (course.marked).cell-nan;
      cell-low = (course.marked).cell-low;
      cell-0 = (course.marked).cell-middle;
      cell-7 = (course.marked).cell-seven;
      cell-1000 = (course.marked).cell-high;
      squares-touch = squares.0;
      squares-apart = squares.1;
      two-points = points-overlap;
      lap-95 = lap.0;
      lap-96 = lap.1;
      reward-2 = reward.0;
      reward-off = reward.1;
      root-4 = (course.marked).root-four;
      root_below = (course.marked).root_below;
      gas = gas;
      brake-5 = brake.0;
      brake-20 = brake.1;
    }

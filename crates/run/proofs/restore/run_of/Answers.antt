-- `run::restore::run_of` meets its contract. Assumes nothing.
use Rattle.run.specs.Steps.Load.{fields_as}
use Rattle.run.specs.Grader.State.{view}
use Rattle.run.proofs.RestoreLaws.{car-kept}
use lib.ListN.{length}
use mathlib.Core.List.{[], ◌∷◌, ◌++◌}
use mathlib.Core.Path.{◌≡◌}
use Rattle.run.specs.Grader.Restore.{bit_count, run_from}
use Rattle.run.specs.Grader.Numbers.{car_from}
use mathlib.Core.Bool.{false}
use borrow.Author.Rules.{rules}
use Rattle.run.proofs.restore.run_of.Goals as goal

pub returns : goal.returns
unfolding view bit_count
returns c =
    let four : length c.args.f.car.ctl ≡ 4 =
    search rules
    in
    let f = fields_as c.args.f in
    let credited = f.credited in
    let wheels = c.args.wheels in
    let count : c.count-count.result ≡ bit_count credited = c.count-count.ensures in
    let car : c.args.f.car ≡ car_from (f.controls ++ (f.fuel ∷ [])) = car-kept c.args.f.car four in
    let all = run_from f credited wheels in
    λ i. record {
      setup = all.setup;
      progress = record { visited_count = count i; tick = f.tick; lap = f.lap; ended = f.ended; driven = false };
      car = car i;
      credited = credited;
      wheels = wheels;
      poses = f.poses;
      seed = f.seed;
    }

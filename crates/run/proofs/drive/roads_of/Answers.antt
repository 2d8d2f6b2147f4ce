-- `run::drive::roads_of` meets its contract. Assumes nothing.
use Prim.Native.Nat.{ℕ}
use mathlib.Core.Path.{◌≡◌, ap, ◌∙◌}
use borrow.Author.Rules.{rules}
use lib.ListN.{length}
use Prim.Native.Nat.{◌/◌}
use Rattle.std.specs.Simd.{first_chunks}
use Rattle.run.proofs.RoadLaws.{four_roads}
use Rattle.run.proofs.drive.roads_of.Goals as goal

pub returns : goal.returns
returns c =
    let long : length c.args.wheels.now ≡ 160 = search rules in
    let cut = c.as_chunks.ensures.front ∙ ap (λ (n : ℕ). first_chunks 40 (n / 40) c.args.wheels.now) long in
    four_roads 40 _ long _ cut _ _ _ _ _ c.on_road.ensures c.on_road-2.ensures c.on_road-3.ensures c.on_road-4.ensures

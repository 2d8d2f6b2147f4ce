-- `run::drive::on_road` meets its contract. Assumes nothing.
use Rattle.run.proofs.RoadLaws.{first_stands, others_stand}
use Rattle.run.proofs.drive.on_road.Goals as goal

pub returns-then-any_stands : goal.returns-then-any_stands
returns-then-any_stands c = first_stands _ _ _ (λ i. (c.type_inv.set i).fits) c.split_at.ensures.by_index.0 _ c.any_stands.ensures c.if-any_stands.true

pub returns-else-any_stands : goal.returns-else-any_stands
returns-else-any_stands c =
    others_stand _ _ _ (λ i. (c.type_inv.set i).fits) c.split_at.ensures.by_index.0 _ c.any_stands.ensures _ c.any_stands-else-any_stands.ensures c.if-any_stands.false

-- `run::quad::Stance::at` meets its contract. Assumes nothing.
use Rattle.std.proofs.Common.{rules}
use Rattle.run.proofs.CellLaws.{four_wheels}
use Rattle.run.proofs.quad.Stance.at.Goals as goal

pub invariant_of-result : goal.invariant_of-result
invariant_of-result c = record { own_cells = four_wheels _ _ c.args.poses c.map-cells.result (λ p k s t call. search rules) c.map-cells.ensures.items }

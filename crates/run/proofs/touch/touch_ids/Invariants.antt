-- `run::touch::touch_ids` meets its contract. Assumes nothing.
use Rattle.run.specs.Steps.Touch.{overlaps_tile, Tests}
use Rattle.run.specs.Grader.Touch.{lists}
use lib.ListN.{take}
use Rattle.run.proofs.touch.touch_ids.Given as goal

abbrev pub invariant-loop-id : goal.invariant-loop-id
invariant-loop-id l = Tests (overlaps_tile l.wheel.quad l.columns.tiles.now) (lists (take l.id-index l.ids)) l.initial.tested l.initial.touched l.tested l.touched

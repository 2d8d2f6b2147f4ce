-- `run::touch::touch_quad` meets its contract. Assumes nothing.
use Rattle.std.specs.Prelude.{IfSome}
use lib.ListN.{length}
use Rattle.run.proofs.CellLaws.{CellsTested, Among}
use Rattle.run.proofs.touch.touch_quad.Given as goal

abbrev pub invariant-loop-cell : goal.invariant-loop-cell
invariant-loop-cell l =
    CellsTested l.wheel.quad l.columns.tiles.now l.columns.offsets.now l.columns.list.now l.cells (length l.initial.tested) l.tested l.touched l.cell-index
    × IfSome l.before (Among l.cells l.cell-index)

-- `run::touch::Columns::tile` meets its contract. Assumes nothing.
use mathlib.Core.Path.{◌∙◌}
use Rattle.course.proofs.ColumnLaws.{part-cut}
use Rattle.course.proofs.CourseRects.{tile-numbers}
use Prim.Native.Nat.{◌*◌}
use Rattle.run.proofs.touch.Columns.tile.Goals as goal

pub returns : goal.returns
returns c =
    let cut = part-cut (λ x. x.now) (c.args.t * 8) 8 c.args.self.tiles.now _ c.first_chunk.ensures.cases c.unwrap-numbers.ensures in
    c.read_quad.ensures ∙ tile-numbers _ _ c.args.t cut

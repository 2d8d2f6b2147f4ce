-- `course::rect::Rect::of_tile` meets its contract. Assumes nothing.
use Rattle.std.proofs.Common.{ap, ◌∙◌, ◌*◌}
use Rattle.course.specs.Rules.Rect.{rect_of, rect_around}
use Rattle.course.proofs.ColumnLaws.{part-cut}
use Rattle.course.proofs.CourseRects.{tile-numbers}
use Rattle.course.proofs.rect.Rect.of_tile.Goals as goal

pub returns : goal.returns
unfolding rect_of
returns c =
    let cut = part-cut (λ x. x.now) (c.args.i * 8) 8 c.args.tiles.now _ c.first_chunk.ensures.cases c.unwrap-numbers.ensures in
    c.of_quad.ensures ∙ ap rect_around (c.read_quad.ensures ∙ tile-numbers _ _ c.args.i cut)

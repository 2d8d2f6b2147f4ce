-- `course::rect::Rect::pack` meets its contract. Assumes nothing.
use Rattle.course.specs.Grader.Rect.{rect_as}
use Rattle.course.proofs.CourseRects.{sides}
use Rattle.course.proofs.PackedRects.{packs, packs-bits}
use Rattle.course.proofs.rect.Rect.pack.Goals as goal

pub float_from_bits-result : goal.float_from_bits-result
float_from_bits-result c = rw (c.from.ensures, c.from_le_bytes.ensures) (packs-bits (rect_as c.args.self) (sides c.args.self))

pub returns : goal.returns
returns c = rw (c.from.ensures, c.from_le_bytes.ensures) (packs (rect_as c.args.self) (sides c.args.self))

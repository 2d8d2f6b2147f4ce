-- `course::tiles::put_quad` meets its contract. Assumes nothing.
use Rattle.course.specs.Rules.Tiles.{eight}
use Rattle.course.specs.Steps.Tiles.{puts}
use Rattle.course.proofs.ColumnLaws.{part-put}
use Rattle.std.proofs.Common.{◌+◌, arith}
use Rattle.course.proofs.tiles.put_quad.Goals as goal

pub returns : goal.returns
unfolding eight puts
returns c = part-put _ _ _ c.args.at (c.args.at + 8) (omega arith) c.copy_from_slice.ensures.after

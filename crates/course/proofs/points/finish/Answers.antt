-- `course::points::finish` meets its contract. Assumes nothing.
use Rattle.std.proofs.Common.{refl}
use Rattle.std.proofs.lemmas.Result.{err_from_is_err_and}
use Rattle.course.specs.Grader.Outcome.{lent}
use Rattle.course.proofs.LaidColumns.{Finished, done}
use Rattle.course.proofs.points.finish.Goals as goal
use Rattle.course.proofs.points.finish.Goals.{After-clear_from-5}

-- what the code did
finished : (c : After-clear_from-5)
    → Finished c.args.m (lent c.args.alpha.now c.args.beta.now c.args.x.now c.args.y.now c.args.tiles.now c.args.offsets.now c.args.list.now) c.args.n
    (lent c.clear_from-5.new.col c.clear_from.new.col c.clear_from-2.new.col c.clear_from-3.new.col c.clear_from-4.new.col
    c.build_index-built.new.offsets c.build_index-built.new.list)
    c.build_index-built.new.rects c.write_tiles.new.tiles
finished c =
    record {
      size = c.requires.n_nonzero;
      room = c.requires.roomy;
      kept = c.build_index-built.ensures.rects_unchanged;
      alpha = c.clear_from-5.ensures;
      beta = c.clear_from.ensures;
      x = c.clear_from-2.ensures;
      y = c.clear_from-3.ensures;
      made = c.write_tiles.ensures;
      tiles = c.clear_from-4.ensures;
      index = c.build_index-built.ensures.built;
    }

pub returns-in_err-entries : goal.returns-in_err-entries
returns-in_err-entries c =
    let f = (goal.at.returns-in_err-entries c).After-clear_from-5 in
    let p = err_from_is_err_and c.from_residual.result c.from_residual.ensures.1 in
    done (finished f) c.args.fallback c.point_at-first.ensures c.in_err-entries.ensures.value (rw (p.1, p.2))

pub returns : goal.returns
returns c = done (finished ((goal.at.returns c).After-clear_from-5)) c.args.fallback c.point_at-first.ensures c.in_ok-entries.ensures.value refl

-- `course::points::points` meets its contract. Assumes nothing.
use Rattle.std.proofs.Common.{arith}
use Rattle.std.proofs.lemmas.Result.{err_from_is_err_and}
use Rattle.course.proofs.LaidColumns.{passed, by-count, by-room, by-columns, fit, refused, accepted}
use Rattle.course.proofs.points.points.Goals as goal

pub returns-in_err-count_check : goal.returns-in_err-count_check
returns-in_err-count_check c =
    let p = err_from_is_err_and c.from_residual.result c.from_residual.ensures.1 in
    refused _ _ _ _ c.column_length-m.ensures.value (rw (p.1, p.2)) (by-count _ _ _ _ _ c.in_err-count_check.ensures)

pub returns-in_err-room_check : goal.returns-in_err-room_check
returns-in_err-room_check c =
    let p = err_from_is_err_and c.from_residual-in_err-room_check.result c.from_residual-in_err-room_check.ensures.1 in
    refused _ _ _ _ c.column_length-m.ensures.value (rw (p.1, p.2)) (by-room _ _ _ _ _ c.in_ok-count_check.ensures c.in_err-room_check.ensures)

pub returns-in_err-points : goal.returns-in_err-points
returns-in_err-points c =
    let p = err_from_is_err_and c.from_residual-in_err-points.result c.from_residual-in_err-points.ensures.1 in
    refused _ _ _ _ c.column_length-m.ensures.value (rw (p.1, p.2))
    (by-columns _ _ _ _ _ c.in_ok-count_check.ensures c.in_ok-room_check.ensures c.in_err-points.ensures)

pub copy_points-requires : goal.copy_points-requires
copy_points-requires c =
    let p = passed _ _ _ _ _ c.in_ok-count_check.ensures c.in_ok-room_check.ensures c.in_ok-points.ensures.passed in
    let f = fit c.column_length-m.ensures.value p in
    rw c.in_ok-points.ensures.count (omega (arith, f.room.beta, f.few), omega (arith, f.room.x, f.few), omega (arith, f.room.y, f.few))

pub finish-requires : goal.finish-requires
finish-requires c =
    let p = passed _ _ _ _ _ c.in_ok-count_check.ensures c.in_ok-room_check.ensures c.in_ok-points.ensures.passed in
    let f = fit c.column_length-m.ensures.value p in
    record {
      n_nonzero = (p.some, f.few, f.small);
      roomy = record {
        alpha = f.room.alpha;
        beta = omega (arith, f.room.beta, c.copy_points.auto.beta);
        x = omega (arith, f.room.x, c.copy_points.auto.x);
        y = omega (arith, f.room.y, c.copy_points.auto.y);
        tiles = f.room.tiles;
        offsets = f.room.offsets;
      };
    }

pub returns : goal.returns
returns c =
    let p = passed _ _ _ _ _ c.in_ok-count_check.ensures c.in_ok-room_check.ensures c.in_ok-points.ensures.passed in
    let g = c.in_ok-points.ensures in
    let t = c.copy_points.ensures in
    accepted _ _ _ _ _ _ _ _ _ _ _ _ _ _ _ _ c.column_length-m.ensures.value p
    (rw (g.count, g.beta) at t.beta_after) (rw (g.count, g.x) at t.x_after) (rw (g.count, g.y) at t.y_after) c.finish.ensures

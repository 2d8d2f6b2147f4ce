-- `course::lay::lay_from` meets its contract: where the columns have room, `finish` is called when all is ready for it. Assumes nothing.
use Rattle.std.proofs.Common.{rules}
use Rattle.std.proofs.lemmas.Result.{err_from_is_err_and}
use Rattle.course.specs.Grader.Outcome.{lent}
use Rattle.course.specs.Steps.Lay.{columns_of, course_by}
use Rattle.course.proofs.CourseSizes.{by-sized}
use Rattle.course.proofs.Generating.{Made, made-or-ring, by-tried}
use Rattle.course.proofs.LaidColumns.{room, check-passed}
use Rattle.course.proofs.LayLaws.{points_lent, refused-short, finish-size, laid}
use Rattle.course.proofs.lay.lay_from.Goals as goal
use Rattle.course.proofs.lay.lay_from.Goals.{After-is_none}

-- the points are made
ready : (c : After-is_none) →
    Made (course_by c.args.origin.now) (points_lent (lent c.args.alpha.now c.args.beta.now c.args.x.now c.args.y.now c.args.tiles.now c.args.offsets.now c.args.list.now))
    (columns_of c.or_ring-n.new.cols) c.or_ring-n.result c.is_none.result
ready c =
    let m = c.attempt-made in
    made-or-ring m.result (by-tried c.args.origin.now) m.ensures.in_front m.ensures.some c.or_ring-n.ensures.points c.is_none.ensures

pub returns-in_err-room_check : goal.returns-in_err-room_check
returns-in_err-room_check c =
    let p = err_from_is_err_and c.from_residual.result c.from_residual.ensures.1 in
    refused-short _ (rw (p.1, p.2)) c.in_err-room_check.ensures

pub invariant_of-walked : goal.invariant_of-walked
invariant_of-walked c =
    let r = room (check-passed _ _ c.in_ok-room_check.ensures) in
    record { room_alpha = r.alpha; room_beta = r.beta; room_x = r.x; room_y = r.y }

pub finish-requires-clause-n_nonzero : goal.finish-requires-clause-n_nonzero
finish-requires-clause-n_nonzero c = finish-size (ready (goal.at.finish-requires-clause-n_nonzero c).After-is_none) (by-sized _)

pub finish-requires-clause-roomy : goal.finish-requires-clause-roomy
finish-requires-clause-roomy c =
    let m = room (check-passed _ _ c.in_ok-room_check.ensures) in
    record { alpha = search rules; beta = search rules; x = search rules; y = search rules; tiles = m.tiles; offsets = m.offsets }

-- the columns that `finish` is lent are those that the struct held
pub returns : goal.returns
returns c =
    laid (lent c.args.alpha.now c.args.beta.now c.args.x.now c.args.y.now c.args.tiles.now c.args.offsets.now c.args.list.now)
    (check-passed _ _ c.in_ok-room_check.ensures) (ready (goal.at.returns c).After-is_none) (search rules) (search rules) (search rules) (search rules) c.finish.ensures

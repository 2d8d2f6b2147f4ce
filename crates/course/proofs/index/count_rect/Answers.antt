-- `course::index::count_rect` meets its contract. Assumes nothing.
use Rattle.course.specs.Rules.Constants.{grid_dim}
use Rattle.course.specs.Rules.Lengths.{offset_count}
use Rattle.course.specs.Grader.Rect.{rect_as}
use Rattle.std.proofs.Common.{◌≡◌, ◌+◌, ◌*◌, ◌<◌, ℕ, min, max, refl, arith}
use Rattle.course.proofs.CourseRects.{sides}
use Rattle.course.proofs.CellRuns.{joined_of, run-counted}
use Rattle.course.proofs.RowSweeps.{CountedTo, count_none, count-row, count-done}
use Rattle.course.proofs.index.count_rect.Goals as goal
use Rattle.course.proofs.index.count_rect.Goals.{After-count_run}

pub loop-y-init : goal.loop-y-init
loop-y-init c = (count_none (rect_as c.args.r) (sides c.args.r) 2 _ _ refl _ (omega arith), omega (arith, c.args.r.bottom))

-- the row that is counted
row : (c : After-count_run) → CountedTo 2 c.args.o.now (joined_of c.loop-y.o c.count_run.new.run (c.loop-y.y * grid_dim + c.args.r.x0 + 2) c.min-end.result) (rect_as c.args.r) ((c.loop-y.y + 1) * grid_dim)
row c =
    let r = c.args.r in
    let y = c.loop-y.y in
    let t = c.loop-y-test.true in
    let from : ℕ = y * grid_dim + r.x0 + 2 in
    let end : ℕ = min (y * grid_dim + r.x1 + 1 + 2) offset_count in
    let is : c.min-end.result ≡ max from end = omega (arith, c.min-end.ensures, c.width-width.ensures, r.left, r.top, t) in
    count-row (rect_as r) (sides r) 2 _ _ _ y end c.loop-y.auto.y t refl c.loop-y.invariant.0
    (run-counted _ _ _ _ _ is (omega arith) c.count_run.auto.run c.count_run.ensures)

pub loop-y-preserved : goal.loop-y-preserved
loop-y-preserved c = (row (goal.at.loop-y-preserved c).After-count_run, omega (arith, c.args.r.top, c.loop-y-test.true))

pub returns : goal.returns
returns c = count-done (rect_as c.args.r) (sides c.args.r) 2 _ _ c.loop-y.y (omega (arith, c.loop-y-test.false)) c.loop-y.invariant.0

pub returns-2 : goal.returns-2
returns-2 c =
    let last : c.args.r.y1 < c.loop-y.y + 1 = omega arith in
    count-done (rect_as c.args.r) (sides c.args.r) 2 _ _ (c.loop-y.y + 1) last (row (goal.at.returns-2 c).After-count_run)

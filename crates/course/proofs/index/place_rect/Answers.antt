-- `course::index::place_rect` meets its contract. Assumes nothing.
use Rattle.course.specs.Rules.Constants.{grid_dim}
use Rattle.course.specs.Grader.Rect.{rect_as}
use Rattle.course.proofs.CourseRects.{sides}
use Rattle.course.proofs.CellRuns.{joined_of, part-each, run-placed}
use Rattle.course.proofs.RowSweeps.{PlacedTo, row-holds, place_none, place-row, place-done}
use Rattle.std.proofs.Common.{◌≡◌, ℕ, ◌+◌, ◌-◌, ◌*◌, ◌<◌, get_or, refl, ap, arith}
use Rattle.course.proofs.index.place_rect.Goals as goal
use Rattle.course.proofs.index.place_rect.Goals.{After-place_run}

pub loop-y-init : goal.loop-y-init
loop-y-init c = (place_none (rect_as c.args.r) (sides c.args.r) _ _ _ _ _ refl refl _ (omega arith), omega (arith, c.args.r.bottom))

pub place_run-requires-clause-by_index : goal.place_run-requires-clause-by_index
place_run-requires-clause-by_index c =
    let t = c.loop-y.invariant.0 in
    let y = c.loop-y.y in
    part-each _ (y * grid_dim + c.args.r.x0 + 1) (y * grid_dim + c.args.r.x1 + 2) _ (omega (arith, c.width-width.ensures)) (omega (arith, c.width-width.ensures, c.args.r.left, c.args.r.right, c.args.r.top, c.loop-y-test.true)) _
    (λ k w.
    let e : k ≡ (k - 1) + 1 = omega arith in
    omega (
      arith,
      t.cursors.left k (omega arith),
      t.same-list,
      ap (λ (z : ℕ). get_or c.args.o.now z 0) e,
      c.requires.by_index (k - 1) (omega (arith, c.args.r.right, c.args.r.top, c.loop-y-test.true))
          (row-holds (rect_as c.args.r) y (sides c.args.r) c.loop-y.auto.y c.loop-y-test.true (k - 1) (omega arith)),
    ))

-- the row that is placed
row : (c : After-place_run) → PlacedTo c.args.o.now c.args.l.now (joined_of c.loop-y.o c.place_run.new.run (c.loop-y.y * grid_dim + c.args.r.x0 + 1) (c.loop-y.y * grid_dim + c.args.r.x0 + 1 + c.width-width.result)) c.place_run.new.l c.args.id (rect_as c.args.r) ((c.loop-y.y + 1) * grid_dim)
row c =
    let r = c.args.r in
    let y = c.loop-y.y in
    let t = c.loop-y-test.true in
    place-row (rect_as r) (sides r) _ _ _ _ _ _ _ y c.loop-y.auto.y t c.loop-y.invariant.0
    (run-placed _ _ _ _ _ (omega (arith, c.width-width.ensures)) (omega (arith, c.width-width.ensures, r.left, r.right, r.top, t)) c.place_run.auto.run _ _ _ c.place_run.ensures)

pub loop-y-preserved : goal.loop-y-preserved
loop-y-preserved c = (row (goal.at.loop-y-preserved c).After-place_run, omega (arith, c.args.r.top, c.loop-y-test.true))

pub returns : goal.returns
returns c = place-done (rect_as c.args.r) (sides c.args.r) _ _ _ _ _ c.loop-y.y (omega (arith, c.loop-y-test.false)) c.loop-y.invariant.1 c.loop-y.invariant.0

pub returns-2 : goal.returns-2
returns-2 c =
    let last : c.args.r.y1 < c.loop-y.y + 1 = omega arith in
    place-done (rect_as c.args.r) (sides c.args.r) _ _ _ _ _ (c.loop-y.y + 1) last (omega (arith, c.args.r.top, c.loop-y-test.true)) (row (goal.at.returns-2 c).After-place_run)

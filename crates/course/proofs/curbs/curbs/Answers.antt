-- `course::curbs::curbs` meets its contract. Assumes nothing.
use Rattle.course.proofs.CurbLaws.{fits, turned-down, all-edged}
use Rattle.course.proofs.ColumnLaws.{part-filled}
use Rattle.std.proofs.Common.{ℕ, ◌≤◌, List, length, arith, rules}
use lib.Ieee.{Float}
use Rattle.course.specs.Grader.Curbs.{curb_room}
use Rattle.course.specs.Steps.Tiles.{CurbsTo}
use Rattle.std.proofs.lemmas.Result.{err_from_is_err_and}
use Rattle.course.proofs.LaidColumns.{Passed, passed, by-count, by-room, by-columns}
use Rattle.course.proofs.curbs.curbs.Goals as goal
use Rattle.course.proofs.curbs.curbs.Goals.{After-write_curbs-found}

pub returns-in_err-count_check : goal.returns-in_err-count_check
returns-in_err-count_check c =
    let p = err_from_is_err_and c.from_residual.result c.from_residual.ensures.1 in
    turned-down _ _ _ _ c.column_length-m.ensures.value (rw (p.1, p.2)) (by-count _ _ _ _ _ c.in_err-count_check.ensures)

pub returns-in_err-room_check : goal.returns-in_err-room_check
returns-in_err-room_check c =
    let p = err_from_is_err_and c.from_residual-in_err-room_check.result c.from_residual-in_err-room_check.ensures.1 in
    turned-down _ _ _ _ c.column_length-m.ensures.value (rw (p.1, p.2)) (by-room _ _ _ _ _ c.in_ok-count_check.ensures c.in_err-room_check.ensures)

pub returns-in_err-points : goal.returns-in_err-points
returns-in_err-points c =
    let p = err_from_is_err_and c.from_residual-in_err-points.result c.from_residual-in_err-points.ensures.1 in
    turned-down _ _ _ _ c.column_length-m.ensures.value (rw (p.1, p.2))
    (by-columns _ _ _ _ _ c.in_ok-count_check.ensures c.in_ok-room_check.ensures c.in_err-points.ensures)

pub write_curbs-found-requires : goal.write_curbs-found-requires
write_curbs-found-requires c =
    let p = passed _ _ _ _ _ c.in_ok-count_check.ensures c.in_ok-room_check.ensures c.in_ok-points.ensures.passed in
    let f = fits c.column_length-m.ensures.value p in
    rw c.in_ok-points.ensures.count (omega (arith, f.few, f.small), omega (arith, f.few, f.quads), omega (arith, f.few, f.white))

-- what the code did
record Written (b e n : List Float) (k m : ℕ) (q : List Float) (w : List ℕ) (found : ℕ) (q' : List Float) (w' : List ℕ) : Type 0 where
  passed : Passed b e n k (curb_room m q w)
  curbs : CurbsTo b e n k k found q w q' w'
  few : found ≤ m
  room : m ≤ length w'

written : (c : After-write_curbs-found) → Written c.args.pbeta.now c.args.px.now c.args.py.now c.args.count c.column_length-m.result c.args.quads.now c.args.white.now c.write_curbs-found.result c.write_curbs-found.new.quads c.write_curbs-found.new.white
written c =
    let g = c.in_ok-points.ensures in
    let p = passed _ _ _ _ _ c.in_ok-count_check.ensures c.in_ok-room_check.ensures g.passed in
    let f = fits c.column_length-m.ensures.value p in
    let t = rw (g.count, g.beta, g.x, g.y) at c.write_curbs-found.ensures in
    record { passed = p; curbs = t; few = omega (arith, t.few, f.few); room = omega (arith, t.same-white, f.white) }

pub clear_from-requires : goal.clear_from-requires
clear_from-requires c =
    let t = written (goal.at.clear_from-requires c).After-write_curbs-found in
    let f = fits c.column_length-m.ensures.value t.passed in
    (omega (arith, t.few), omega (arith, t.curbs.same-quads, f.quads))

pub slice_bounds-fill-end : goal.slice_bounds-fill-end
slice_bounds-fill-end c =
    let t = written (goal.at.slice_bounds-fill-end c).After-write_curbs-found in
    let few = t.few in
    let room = t.room in
    search rules

pub returns : goal.returns
returns c =
    let t = written (goal.at.returns c).After-write_curbs-found in
    all-edged _ _ _ _ _ _ _ _ _ _ _ _ c.column_length-m.ensures.value t.passed t.curbs c.clear_from.ensures (part-filled _ _ _ _ 0 t.few t.room (c.fill.ensures.after (λ y h. h)))

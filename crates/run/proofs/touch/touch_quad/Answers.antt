-- `run::touch::touch_quad` meets its contract. Assumes nothing.
use Rattle.run.proofs.TouchLaws.{tested-is, room_for, sound-ids}
use mathlib.Core.Bool.{false}
use Rattle.run.proofs.CellLaws.{Among, among_last, as-before, no_cell, tested-long, touched-long, one_cell, same-cell, all-touched}
use Rattle.std.specs.Prelude.{IfSome}
use Prim.Native.Nat.{ℕ, ◌+◌, ◌<◌, ◌≤◌}
use lib.ListN.{length}
use lib.Ieee.{Float}
use mathlib.Core.List.{List}
use mathlib.Core.Path.{sym, ap, ap₂, ◌∙◌, subst}
use Rattle.run.specs.Rules.Wheel.{box_cells}
use Rattle.run.specs.Grader.Words.{set_of}
use Rattle.run.specs.Grader.Touch.{touched_by}
use native.Mathlib.Omega.{arith}
use Rattle.run.proofs.touch.touch_quad.Goals as goal
use Rattle.run.proofs.touch.touch_quad.Goals.{then-ne, else-ne}

pub loop-cell-init : goal.loop-cell-init
loop-cell-init c =
    let long = c.clear.auto.set in
    let empty = λ (m : ℕ). set_of m (λ t. false) in
    (no_cell _ _ _ _ c.args.cells.now _ _ _ (c.clear.ensures ∙ ap empty (sym long)) (c.clear-2.ensures ∙ ap empty (omega (arith, c.requires.room.sets, long))), tt)

pub touch_ids-requires : goal.touch_ids-requires
touch_ids-requires c =
    let b : c.loop-cell.cell-index < length c.args.cells.now = omega (arith, c.loop-cell-test.true, c.told-cells) in
    let h = c.loop-cell.invariant.0 in
    let long = c.clear.auto.set in
    record {
      ids_below = sound-ids c.requires.looked b c.cell_tiles-ids.ensures;
      room = room_for _ _ _ c.requires.room (omega arith) (tested-long _ _ _ _ _ _ _ _ _ h ∙ long) (omega (arith, touched-long _ _ _ _ _ _ _ _ _ h, long, c.requires.room.sets));
    }

pub loop-cell-preserved : goal.loop-cell-preserved
loop-cell-preserved c =
    let h = c.loop-cell.invariant.0 in
    let i = c.loop-cell.cell-index in
    let b : i < length c.args.cells.now = omega (arith, c.loop-cell-test.true, c.told-cells) in
    let last = among_last c.args.cells.now i b in
    elim c.if-ne.branch [
      | then-ne w ↦ (
        tested-is w.tested-is w.touched-is (one_cell _ _ _ _ _ _ _ _ _ h b w.cell_tiles-ids.ensures w.touch_ids.ensures),
        subst (λ o. IfSome o (Among c.args.cells.now (i + 1))) (sym w.before-is) last,
      )
      | else-ne w ↦ (
        tested-is w.tested-is w.touched-is (same-cell _ _ _ _ _ _ _ _ _ h b (as-before _ (Among c.args.cells.now i) c.loop-cell.invariant.1 c.ne.ensures w.if-ne.false)),
        subst (λ o. IfSome o (Among c.args.cells.now (i + 1))) (sym w.before-is) last,
      )
    ]

pub returns : goal.returns
returns c =
    let past : length c.args.cells.now ≤ c.loop-cell.cell-index = omega (arith, c.loop-cell-test.false, c.told-cells) in
    let l = c.args.columns in
    let e = c.new-wheel.ensures in
    all-touched _ _ _ _ _ _ _ _ _ c.loop-cell.invariant.0 (c.requires.looked.are ∙ ap box_cells (sym e)) past
    ∙ ap₂ (λ (m : ℕ) (q : List (List Float)). set_of m (touched_by l.tiles.now l.offsets.now l.list.now q)) c.clear.auto.set e

-- `run::contact::touch_sets` meets its contract. Assumes nothing.
use Rattle.run.proofs.ContactLaws.{wheel-ends, no-set, own_room, one_set, four-sets, wheel-is}
use Rattle.run.proofs.CellLaws.{own-cells}
use Rattle.run.specs.Grader.Words.{set_of}
use Rattle.run.specs.Grader.Touch.{touched_by}
use lib.Ieee.{Float}
use mathlib.Core.List.{List}
use native.Mathlib.Omega.{arith}
use Prim.Native.Nat.{ℕ}
use mathlib.Core.Path.{sym, ap₂, ◌∙◌}
use Rattle.run.proofs.contact.touch_sets.Goals as goal

pub loop-wheel-init : goal.loop-wheel-init
loop-wheel-init c = no-set c.requires.room.sets

pub overflow_mul-from : goal.overflow_mul-from
overflow_mul-from c = omega (arith, wheel-ends c.loop-wheel.invariant c.loop-wheel-test.true)

pub overflow_add-from : goal.overflow_add-from
overflow_add-from c = omega (arith, wheel-ends c.loop-wheel.invariant c.loop-wheel-test.true)

pub offset_bounds-wheels-from : goal.offset_bounds-wheels-from
offset_bounds-wheels-from c = omega (arith, wheel-ends c.loop-wheel.invariant c.loop-wheel-test.true)

pub slice_bounds-touch_quad-count : goal.slice_bounds-touch_quad-count
slice_bounds-touch_quad-count c = omega (arith, wheel-ends c.loop-wheel.invariant c.loop-wheel-test.true)

pub slice_bounds-touch_quad-start : goal.slice_bounds-touch_quad-start
slice_bounds-touch_quad-start c = omega (arith, wheel-ends c.loop-wheel.invariant c.loop-wheel-test.true)

pub slice_bounds-touch_quad-end : goal.slice_bounds-touch_quad-end
slice_bounds-touch_quad-end c = omega (arith, wheel-ends c.loop-wheel.invariant c.loop-wheel-test.true)

pub touch_quad-requires : goal.touch_quad-requires
touch_quad-requires c =
    let l = c.loop-wheel in
    let b = c.loop-wheel-test.true in
    record { looked = own-cells _ _ c.args.stance.now.own_cells c.requires.sound b (wheel-is _ _ c.wheel_quad.ensures); room = own_room c.requires.room.sets l.invariant b l.auto.tested c.requires.room.words c.requires.room.tiles }

pub loop-wheel-preserved : goal.loop-wheel-preserved
loop-wheel-preserved c =
    let l = c.loop-wheel in
    let a = c.args.columns in
    one_set c.requires.room.sets l.invariant c.loop-wheel-test.true
    (c.touch_quad.ensures ∙ ap₂ (λ (m : ℕ) (q : List (List Float)). set_of m (touched_by a.tiles.now a.offsets.now a.list.now q)) l.auto.tested (wheel-is _ _ c.wheel_quad.ensures))

pub shape_of-wheels : goal.shape_of-wheels
shape_of-wheels c = c.loop-wheel.invariant.long ∙ sym c.requires.room.sets

pub returns : goal.returns
returns c = four-sets c.requires.room.sets (omega (arith, c.loop-wheel-test.false)) c.loop-wheel.invariant

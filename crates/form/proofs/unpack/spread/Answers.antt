-- `form::unpack::spread` meets its contract. Assumes nothing.
use Rattle.form.proofs.ReadLaws.{spread-room, spread-enough, spread-more, joined_length, fields-none}
use Rattle.form.proofs.TableLaws.{ended}
use Rattle.form.specs.Rules.Form.{widths}
use Rattle.form.proofs.Filling.{ends}
use native.Mathlib.Omega.{arith}
use Rattle.form.proofs.unpack.spread.Goals as goal

pub overflow_add-end : goal.overflow_add-end
overflow_add-end c =
    let i = c.loop-row.invariant in
    let t = c.in-Some.ensures.steps in
    let g = spread-room _ _ _ _ _ _ _ _ _ _ _ t.0 t.1.0 t.1.1 i.enough i.room i.filled in omega (arith, g, i.filled.same)

pub slice_bounds-fill-end : goal.slice_bounds-fill-end
slice_bounds-fill-end c =
    let i = c.loop-row.invariant in
    let t = c.in-Some.ensures.steps in
    spread-room _ _ _ _ _ _ _ _ _ _ _ t.0 t.1.0 t.1.1 i.enough i.room i.filled

pub fill-left-requires : goal.fill-left-requires
fill-left-requires c =
    let i = c.loop-row.invariant in
    let t = c.in-Some.ensures.steps in
    spread-enough _ _ _ _ _ _ _ _ _ _ _ t.0 t.1.0 t.1.1 i.enough i.room i.filled

pub loop-row-preserved : goal.loop-row-preserved
loop-row-preserved c =
    let i = c.loop-row.invariant in
    let t = c.in-Some.ensures.steps in
    let m = spread-more _ _ _ _ _ _ _ _ _ _ _ t.0 t.1.0 t.1.1 i.enough i.room i.filled _ _ c.fill-left.ensures.rest c.fill-left.ensures.filled in
    record { enough = m.0; room = m.1; filled = m.2 }

pub returns : goal.returns
returns c =
    let s = c.args in
    ends c.loop-row.invariant.filled (fields-none _ _ _ (ended _ _ _ _ c.in-None.ensures.steps))
    (omega (arith, joined_length (widths s.rows.now) s.map s.bytes.now c.requires.map_in_bounds, c.requires.widths_in_bounds))

-- `form::pack::put_standing` meets its contract. Assumes nothing.
use Rattle.form.proofs.Filling.{ends-whole, next_fits, part-on}
use Rattle.form.proofs.TableLaws.{ended, standing-next, standing-none}
use mathlib.Core.Path.{refl}
use native.Mathlib.Omega.{arith}
use Rattle.form.proofs.pack.put_standing.Goals as goal

pub slice_bounds-copy_from_slice-end : goal.slice_bounds-copy_from_slice-end
slice_bounds-copy_from_slice-end c =
    let t = c.in-Some.ensures.steps in
    next_fits _ _ c.loop-field.invariant (standing-next _ _ _ _ _ _ _ t.0 t.1.0 t.1.1 c.shown-part.ensures) (omega (arith, c.requires))

pub loop-field-preserved : goal.loop-field-preserved
loop-field-preserved c =
    let t = c.in-Some.ensures.steps in
    let e = standing-next _ _ _ _ _ _ _ t.0 t.1.0 t.1.1 c.shown-part.ensures in
    let h = next_fits _ _ c.loop-field.invariant e (omega (arith, c.requires)) in
    part-on _ _ _ _ _ c.loop-field.invariant e c.copy_from_slice.ensures.after refl h refl

pub returns : goal.returns
returns c =
    let l = c.loop-field in ends-whole l.invariant (standing-none l.field-iterator.b.rest _ (ended _ _ _ _ c.in-None.ensures.steps)) c.requires

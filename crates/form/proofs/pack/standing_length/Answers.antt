-- `form::pack::standing_length` meets its contract. Assumes nothing.
use Rattle.form.proofs.TableLaws.{ended, standing-next, standing-none, standing-within}
use Rattle.form.specs.Rules.Form.{widths, table_fields, standing}
use lib.ListN.{length, length-append}
use mathlib.Core.Path.{◌≡◌, ap}
use native.Mathlib.Omega.{arith}
use Rattle.form.proofs.pack.standing_length.Goals as goal

pub overflow_add-n : goal.overflow_add-n
overflow_add-n c =
    let l = c.loop-field in
    let s = c.args in
    let t = c.in-Some.ensures.steps in
    let n = ap length (standing-next _ _ _ _ _ _ _ t.0 t.1.0 t.1.1 c.shown.ensures) in
    omega (arith, l.invariant, n, length-append c.shown.result.now (standing c.next.new.self.b.rest (table_fields c.next.new.self.a)), standing-within s.map (widths s.fields.rows.now) s.fields.full.now)

pub loop-field-preserved : goal.loop-field-preserved
loop-field-preserved c =
    let t = c.in-Some.ensures.steps in
    let n = ap length (standing-next _ _ _ _ _ _ _ t.0 t.1.0 t.1.1 c.shown.ensures) in
    omega (arith, c.loop-field.invariant, n, length-append c.shown.result.now (standing c.next.new.self.b.rest (table_fields c.next.new.self.a)))

pub returns : goal.returns
returns c =
    let l = c.loop-field in
    let s = c.args in
    let e = ap length (standing-none l.field-iterator.b.rest _ (ended _ _ _ _ c.in-None.ensures.steps)) in
    let t : l.n ≡ length (standing s.map (table_fields s.fields)) = omega (arith, e, l.invariant) in
    (t, omega (arith, t, standing-within s.map (widths s.fields.rows.now) s.fields.full.now))

-- `form::unpack::is_form` meets its contract. Assumes nothing.
use Rattle.form.proofs.ReadLaws.{form-on, form-off, form-end}
use Rattle.form.proofs.TableLaws.{row_at}
use lib.ListN.{length, drop_of_length-le}
use Rattle.std.proofs.Common.{eq-eqb, ne_eqb}
use mathlib.Core.Path.{sym, ap, ◌∙◌}
use mathlib.Core.Bool.{◌&&◌}
use lib.Dec.{eqb}
use Rattle.form.proofs.unpack.is_form.Goals as goal

pub returns-in-None : goal.returns-in-None
returns-in-None c =
    let t = c.next.ensures.steps in
    sym (c.loop-row.invariant ∙ form-off _ _ _ _ _ _ _ (row_at _ _ c.loop-row-test.true) (sym c.unwrap-stands.ensures ∙ t.0) t.1 c.in-None.ensures)

pub loop-row-preserved : goal.loop-row-preserved
loop-row-preserved c =
    let t = c.next.ensures.steps in
    c.loop-row.invariant ∙ form-on _ _ _ _ _ _ _ (row_at _ _ c.loop-row-test.true) (sym c.unwrap-stands.ensures ∙ t.0) t.1 _ c.in-Some.ensures

pub returns-then-bits-eq0 : goal.returns-then-bits-eq0
returns-then-bits-eq0 c =
    let l = c.loop-row in
    c.is_empty.ensures ∙ sym (l.invariant ∙ form-end _ l.bits.rest l.left.now (drop_of_length-le c.args.rows.now c.loop-row-test.false) ∙ ap (λ b. b && eqb (length l.left.now) 0) (eq-eqb _ _ c.if-bits-eq0.true))

pub returns-else-bits-eq0 : goal.returns-else-bits-eq0
returns-else-bits-eq0 c =
    let l = c.loop-row in
    ne_eqb _ _ c.if-bits-eq0.false ∙ sym (l.invariant ∙ form-end _ l.bits.rest l.left.now (drop_of_length-le c.args.rows.now c.loop-row-test.false) ∙ ap (λ b. b && eqb (length l.left.now) 0) (ne_eqb _ _ c.if-bits-eq0.false))

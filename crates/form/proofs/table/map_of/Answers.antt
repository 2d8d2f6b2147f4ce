-- `form::table::map_of` meets its contract. Assumes nothing.
use Rattle.form.proofs.TableLaws.{bit_most, cut-take, take-next, take-ended, map-next, map-none, gathered, gathered-all}
use Rattle.form.specs.Rules.Form.{widths, map_of, most_rows}
use Prim.Native.Nat.{◌<◌}
use mathlib.Core.Path.{ap, ◌∙◌}
use mathlib.Core.Bool.{not}
use native.Mathlib.Omega.{arith}
use Rattle.form.proofs.table.map_of.Goals as goal

pub loop-k-preserved : goal.loop-k-preserved
loop-k-preserved c =
    let t = c.in-Some.ensures.steps in
    let i = c.loop-k.invariant in
    let x = c.from.result in
    let few : c.loop-k.k-iterator.count < 16 = omega (arith, i.count, t.0.1) in
    let f = take-next _ _ _ _ _ t.0.0 t.0.1 in
    record {
      count = omega (arith, i.count, t.0.1, t.2);
      bits = gathered _ _ x _ i.bits t.1 few (bit_most (not c.all_zero.result) x c.from.ensures) t.2 (map-next _ _ _ _ x f c.all_zero.ensures c.from.ensures);
    }

pub returns : goal.returns
returns c =
    let s = c.args.fields in
    gathered-all _ _ _ _ c.loop-k.invariant.bits (map-none _ (take-ended _ _ (λ h. (c.in-None.ensures.steps.0 h).0)))
    ∙ ap map_of (cut-take most_rows (widths s.rows.now) s.full.now)
